-- What a reading gives lies inside the text, and a loop over readings comes to an end: a lexeme leaves a shorter text, and the end and a failure are the last.
use Rattle.std.specs.Prelude.{ℕ, ◌+◌, ◌*◌, ◌≤◌, ◌<◌, List, length}
use Rattle.reading.specs.Reading.{read}
use Rattle.reading.proofs.Once.{read_shorter}
use Rattle.reader.specs.Reader.{Gives}
use Rattle.reader.specs.Turns.{inside_of, going, fewer_of}

pub inside : (t : List ℕ) (k s : ℕ) (r : List ℕ) → Gives t k s r → s + length r ≤ length t
inside t k s r g = inside_of (read t) (length t) k s r g

pub fewer : (t : List ℕ) (k s : ℕ) (r : List ℕ) → Gives t k s r → 2 * length r + going k < 2 * length t + 1
fewer t k s r g = fewer_of (read t) (length t) k s r g (read_shorter t)
