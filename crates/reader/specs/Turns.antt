-- What a reading gives lies inside the text, and a loop over readings comes to an end: a lexeme leaves a shorter text, and the end and a failure are the last.
use Rattle.std.specs.Prelude.{ℕ, ◌+◌, ◌*◌, ◌≤◌, ◌<◌, ◌≡◌, refl, List, cond, ◌||◌, eqb, length}
use Rattle.std.proofs.Common.{arith, ap}
use Rattle.reading.specs.Lexeme.{Kind, Word, Number, Quoted, Blob, Variable, Operator, Mark}
use Rattle.reading.specs.Reading.{Read, lexeme, finish, failure}
use Rattle.reading.proofs.Once.{under}
use Rattle.reader.specs.Reader.{number, end, stop, GivesOf}

pub inside_of : (x : Read) (n k s : ℕ) (r : List ℕ) → GivesOf x n k s r → s + length r ≤ n
inside_of (lexeme κ w u) n k s r g = omega (arith, g.1.0, ap length g.1.1)
inside_of finish n k s r g = omega (arith, g.1.0, ap length g.1.1)
inside_of (failure u) n k s r g = omega (arith, g.1.0, ap length g.1.1)

-- 1 where a reading goes on, and 0 behind the end and a failure
abbrev pub going : ℕ → ℕ
going k = cond (eqb k end || eqb k stop) 0 1

going_on : (κ : Kind) → going (number κ) ≡ 1
going_on Word = refl
going_on Number = refl
going_on Quoted = refl
going_on Blob = refl
going_on Variable = refl
going_on Operator = refl
going_on Mark = refl

pub fewer_of : (x : Read) (n k s : ℕ) (r : List ℕ) → GivesOf x n k s r → under x n → 2 * length r + going k < 2 * n + 1
fewer_of (lexeme κ w u) n k s r g h = rw (g.0, g.1.1, going_on κ) (omega arith)
fewer_of finish n k s r g h = rw (g.0, g.1.1) (omega arith)
fewer_of (failure u) n k s r g h = rw (g.0, g.1.1) (omega (arith, g.1.0))
