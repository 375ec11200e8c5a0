-- 01, sections 3 and 9, and 02, ix: append as the engine calls it, with the record as 25 bytes and the answer as one number.
use Rattle.std.specs.Prelude.{ℕ, ◌≡◌, List, ◌∷◌, ◌++◌, Bool, Ok, Err, true, false, ◌&&◌, leb, eqb, length, get_or, take, drop}
use Rattle.laws.specs.Little.{little, from_little}
use Rattle.append.specs.declared.Stream.{Stream}
use Rattle.append.specs.declared.Refusal.TheVariants.{Malformed}
use Rattle.append.specs.Append.{Answer, Appends, code}

-- "a lent record crosses as [bytes] (0 or 1, then the count, little-endian; all else is malformed)"; 02: line and column "as bytes, 8 each, after the count"
unfoldable pub well_formed : List ℕ → Bool
well_formed r = eqb (length r) 25 && leb (get_or r 0 0) 1

unfoldable pub unpacked : List ℕ → Stream
unpacked r =
    record {
      spaced = eqb (get_or r 0 0) 1;
      count = from_little (take 8 (drop 1 r));
      line = from_little (take 8 (drop 9 r));
      column = from_little (take 8 (drop 17 r));
    }

abbrev pub bit_of : Bool → ℕ
bit_of true = 1
bit_of false = 0

unfoldable pub packed : Stream → List ℕ
packed rec = bit_of rec.spaced ∷ (little 8 rec.count ++ (little 8 rec.line ++ little 8 rec.column))

-- line and column are each within the count (append refuses any other record)
unfoldable pub held : Stream → Bool
held rec = leb rec.line rec.count && leb rec.column rec.count

-- the record's bytes afterwards: those of the record left, and on a refusal as they were
abbrev pub repacked : Answer → Stream → List ℕ → List ℕ
repacked (Ok n) rec r = packed rec
repacked (Err a) rec r = r

-- what is done with a record that is well formed, or not
abbrev pub Done : Bool → Stream → List ℕ → ℕ → List ℕ → Answer → Stream → List ℕ → Type 0
Done true rec out token value a rec' out' = Appends rec out token value a rec' out'
Done false rec out token value a rec' out' = (a ≡ Err Malformed) × ((rec' ≡ rec) × (out' ≡ out))

-- what the call does: from the record's bytes, output, token word and value to the answer's number, the record's bytes and the output
pub record Crosses (r out : List ℕ) (token : ℕ) (value : List ℕ) (answer : ℕ) (r' out' : List ℕ) : Type 0 where
  pub verdict : Answer
  pub left : Stream
  pub done : Done (well_formed r) (unpacked r) out token value verdict left out'
  pub answers : answer ≡ code verdict
  pub leaves : r' ≡ repacked verdict left r
