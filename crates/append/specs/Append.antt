-- 01, sections 1, 3 and 9, and 02, ix: what append answers, the record that it leaves and the bytes that it writes.
use Rattle.std.specs.Prelude.{ℕ, ◌+◌, ◌-◌, ◌*◌, ◌%◌, ◌^◌, ◌≡◌, List, [], ◌∷◌, ◌++◌, Bool, Result, Ok, Err, not, ◌&&◌, ◌||◌, leb, ltb, eqb, length, take, drop}
use Rattle.laws.specs.First.{first, within}
use Rattle.utf8.specs.Rfc3629 as utf8
use Rattle.utf8.specs.Rfc3629.{Encoding, Encoded}
use Rattle.utf8.specs.declared.Broken as utf8broken
use Rattle.spelling.specs.Spelling.{known}
use Rattle.stream.specs.Stream.{Token, adds, leaves}
use Rattle.stream.specs.Sink.{given}
use Rattle.position.specs.Position.{lines, column}
use Rattle.append.specs.declared.Stream.{Stream}
use Rattle.append.specs.declared.Refusal.{Refusal}
use Rattle.append.specs.declared.Refusal.TheVariants.{Malformed, Unknown, TooLong, Broken, NoRoom}

-- so many bytes were added, or why none were
abbrev pub Answer : Type 0
Answer = Result ℕ Refusal

-- a token is lent as a word, "a number as in TOKEN's flags" (bits 0-14 token number, bit 15 value present), and value bytes
unfoldable pub number_of : ℕ → ℕ
number_of token = token % 0x8000

unfoldable pub present : ℕ → Bool
present token = leb 0x8000 token

unfoldable pub token_of : ℕ → List ℕ → Token
token_of token value = record { kind = number_of token; value = given (present token) value }

-- the bytes that the token adds behind the record
unfoldable pub news : Stream → ℕ → List ℕ → List ℕ
news rec token value = adds rec.spaced (token_of token value)

abbrev pub longest : ℕ
longest = 65536

-- the encoding check refuses
unfoldable pub broken : Encoding → Bool
broken e = not (eqb (utf8.number e) 0)

-- how bytes are broken that are no text: asked of those alone
abbrev pub fault : Encoding → utf8broken.Broken
fault e = utf8.fault e

-- 1: "its count past the output's end", and 02, ix: "if the line or the column is larger than the count of bytes written"
unfoldable pub unsound : Stream → ℕ → Bool
unsound rec size = ltb size rec.count || (ltb rec.count rec.line || ltb rec.count rec.column)

-- "the first fitting refusal" and "Append checks 1, 4, 2, 8." The first three, for an output of so many bytes; e is what the encoding check answers
unfoldable pub before : Encoding → Stream → ℕ → ℕ → List ℕ → List (Bool × Refusal)
before e rec size token value =
    (unsound rec size, Malformed)
    ∷ (not (known (number_of token)), Unknown)
    ∷ (not (present token) && ltb 0 (length value), Unknown)
    ∷ (ltb longest (length value), TooLong)
    ∷ (broken e, Broken (fault e))
    ∷ []

-- and then whether there is room for n bytes
unfoldable pub room : Stream → ℕ → ℕ → Answer
room rec size n = first ((ltb (size - rec.count) n, Err (NoRoom n)) ∷ []) (Ok n)

unfoldable pub answer_to : Encoding → Stream → List ℕ → ℕ → List ℕ → Answer
answer_to e rec out token value =
    first (within Err (before e rec (length out) token value)) (room rec (length out) (length (news rec token value)))

-- the bit, the count, and where the bytes end: their newlines are more lines, and the column goes on through them. A refusal leaves the record as it was
unfoldable pub record_after : Answer → Stream → ℕ → List ℕ → Stream
record_after (Ok n) rec token value =
    record {
      spaced = leaves rec.spaced (token_of token value);
      count = rec.count + n;
      line = rec.line + lines (news rec token value);
      column = column rec.column (news rec token value);
    }
record_after (Err r) rec token value = rec

-- success writes exactly the bytes, at the count, and nothing beyond them; a refusal writes nothing
unfoldable pub output_after : Answer → Stream → List ℕ → ℕ → List ℕ → List ℕ
output_after (Ok n) rec out token value = take rec.count out ++ news rec token value ++ drop (rec.count + n) out
output_after (Err r) rec out token value = out

-- what append does: from record, output, token word and value to answer, record and output
pub record Appends (rec : Stream) (out : List ℕ) (token : ℕ) (value : List ℕ) (answer : Answer) (rec' : Stream) (out' : List ℕ) : Type 0 where
  pub encoding : Encoding
  pub encoded : Encoded value encoding
  pub answers : answer ≡ answer_to encoding rec out token value
  pub leave : rec' ≡ record_after answer rec token value
  pub writes : out' ≡ output_after answer rec out token value

-- section 3: the number and the place of each answer
abbrev pub number : Answer → ℕ
number (Ok n) = 0
number (Err Malformed) = 1
number (Err Unknown) = 4
number (Err TooLong) = 2
number (Err (Broken b)) = utf8.number (Err b)
number (Err (NoRoom n)) = 8

abbrev pub place : Answer → ℕ
place (Ok n) = n
place (Err Malformed) = 0
place (Err Unknown) = 0
place (Err TooLong) = longest
place (Err (Broken b)) = utf8.place (Err b)
place (Err (NoRoom n)) = n

-- as one number across the boundary: number * 2^32 + place
unfoldable pub code : Answer → ℕ
code a = number a * 2 ^ 32 + place a
