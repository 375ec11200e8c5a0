-- What the steps of the by-value core do: the refusals that need no measuring, 8, and the bytes.
use Rattle.std.specs.Prelude.{ℕ, ◌+◌, ◌-◌, ◌≤◌, ◌≡◌, List, [], ◌∷◌, Bool, Result, Ok, Err, false, not, cond, ◌&&◌, ltb, eqb, length}
use Rattle.laws.specs.First.{first, within}
use Rattle.utf8.specs.Rfc3629.{Encoding, Encoded}
use Rattle.append.specs.declared.Stream.{Stream}
use Rattle.append.specs.declared.Refusal.{Refusal}
use Rattle.append.specs.declared.Refusal.TheVariants.{NoRoom}
use Rattle.stream.specs.Length.{longest_token}
use Rattle.stream.specs.Sink.{State, step, given}
use Rattle.position.specs.Position.{lines, column}
use Rattle.spelling.specs.Spelling.{spelling}
use Rattle.stream.specs.declared.Sink.{Sink}
use Rattle.append.specs.Append.{Answer, unsound, before, room, news, number_of, present, record_after, output_after}

-- nothing is refused, or why a token is
abbrev pub Check : Type 0
Check = Result (Unit {0}) Refusal

-- the first of the refusals 1, 4, 2 that fits
pub record Checks (rec : Stream) (size token : ℕ) (value : List ℕ) (r : Check) : Type 0 where
  pub encoding : Encoding
  pub encoded : Encoded value encoding
  pub is : r ≡ first (within Err (before encoding rec size token value)) (Ok tt)

-- a value of so many bytes, a space and the longest spelling have room
pub record Ample (rec : Stream) (size len : ℕ) : Type 0 where
  pub within : rec.count ≤ size
  pub fits : len + longest_token ≤ size - rec.count

-- 8, for a token of n bytes
abbrev pub room_test : Stream → ℕ → ℕ → Check
room_test rec size n = first ((ltb (size - rec.count) n, Err (NoRoom n)) ∷ []) (Ok tt)

-- 1, 4, 2 and then 8
abbrev pub and_room : Check → Check → Check
and_room (Err a) c = Err a
and_room (Ok u) c = c

pub record Verdict (rec : Stream) (size token : ℕ) (value : List ℕ) (r : Check) : Type 0 where
  pub early : Check
  pub checks : Checks rec size token value early
  pub is : r ≡ and_room early (room_test rec size (length (news rec token value)))

-- 8, or the bytes
pub record Writes (rec : Stream) (out : List ℕ) (token : ℕ) (value : List ℕ) (answer : Answer) (rec' : Stream) (out' : List ℕ) : Type 0 where
  pub answers : answer ≡ room rec (length out) (length (news rec token value))
  pub leave : rec' ≡ record_after answer rec token value
  pub writes : out' ≡ output_after answer rec out token value

-- the token, whose kind is spelled as w, appended to an output from a count on, and the count that it leaves in none
unfoldable pub emitted : Bool → ℕ → List ℕ → ℕ → List ℕ → List ℕ → State
emitted b at out token w value =
    step (record { spaced = b; at = at }, out) (number_of token) w (given (present token) value)

-- the record where the sink stands now, if only the value has newlines
unfoldable pub moved_to : Stream → Sink → List ℕ → Stream
moved_to rec to value =
    record {
      spaced = to.spaced;
      count = to.at;
      line = rec.line + lines value;
      column = cond (eqb (lines value) 0) (rec.column + (to.at - rec.count)) (column 0 value);
    }

-- no refusal fits: what the bytes are put by
pub record Ready (rec : Stream) (out : List ℕ) (token : ℕ) (word value : List ℕ) : Type 0 where
  pub sound : unsound rec (length out) ≡ false
  pub spells : word ≡ spelling (number_of token)
  pub lent : not (present token) && ltb 0 (length value) ≡ false
  pub fits : length (news rec token value) ≤ length out - rec.count

unfoldable pub counted : Bool → ℕ → List ℕ → List ℕ → ℕ
counted b token w value = (emitted b 0 [] token w value).0.at
