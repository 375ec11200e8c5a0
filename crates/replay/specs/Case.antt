-- What is known of a case between its tokens.
use Rattle.std.specs.Prelude.{ℕ, ◌≤◌, Result, Ok, Err}
use Rattle.append.specs.declared.Stream.{Stream}
use Rattle.append.specs.declared.Refusal.{Refusal}

-- the bytes that a text has room for
abbrev pub room : ℕ
room = 65536

-- the bytes that a case wrote lie within its text
abbrev pub Within : Result Stream Refusal → Type 0
Within (Ok rec) = rec.count ≤ room
Within (Err refusal) = Unit {0}
