-- What a walk of the tree comes to, against the scan by index, and what is asked of one record on the way.
use Rattle.std.specs.Prelude.{ℕ, ◌+◌, ◌-◌, ◌/◌, ◌%◌, ◌≤◌, ◌<◌, ◌≡◌, List, [], ◌∷◌, ◌++◌, Bool, not, cond, ◌&&◌, eqb, leb, ltb, length, Result, Ok, Err, IfOk, IfErr}
use Rattle.laws.specs.First.{first}
use Rattle.utf8.specs.Rfc3629.{boundary}
use Rattle.record.specs.Record.{count, mark_ok}
use Rattle.record.specs.declared.Record.{Record}
use Rattle.grammar.specs.Shape.{Class}
use Rattle.grammar.specs.Slots.{allowed}
use Rattle.tree.specs.declared.Refusal.{Refusal}
use Rattle.tree.specs.declared.Refusal.TheVariants.{Malformed, TooLong, Broken, Mark, Misfit, Outside, Unclosed, NotRowid, Deep, Ends}
use Rattle.tree.specs.Check.{Answer, Place, holds, flags_fit, fields_fit, range_fits, fits, inside, scan}

-- more than any index
abbrev pub refused : ℕ
refused = 0x100000000

-- what of a walk can be one number: an index, or a refusal of a record
abbrev pub Small : Refusal → Type 0
Small (Mark i) = i < refused
Small (Misfit i) = i < refused
Small (Outside i) = i < refused
Small (Deep i) = i < refused
Small (Ends i) = i < refused
Small Malformed = ⊥
Small TooLong = ⊥
Small (Broken b) = ⊥
Small (Unclosed i) = ⊥
Small (NotRowid i) = ⊥

abbrev pub Crosses : Result ℕ Refusal → Type 0
Crosses (Ok j) = j < refused
Crosses (Err e) = Small e

-- the refusal of a number and an index, and what a number stands for
abbrev pub refusal_at : ℕ → ℕ → Refusal
refusal_at n i = first ((eqb n 3, Mark i) ∷ (eqb n 4, Misfit i) ∷ (eqb n 5, Outside i) ∷ (eqb n 6, Deep i) ∷ []) (Ends i)

unfoldable pub unpacked : ℕ → Result ℕ Refusal
unpacked w = cond (ltb w refused) (Ok w) (Err (refusal_at (w / refused) (w % refused)))

-- how the scan goes on behind a walk, which comes to the index behind it or to a refusal
abbrev pub resumed : List ℕ → List ℕ → Result ℕ Refusal → List Place → Answer
resumed t x (Ok j) ps = scan t x (count t - j) j ps
resumed t x (Err a) ps = Err a

-- w is what the records from index i on come to that must fill the places ps, whatever places follow; an index behind them is no
-- further than the tree's end, and no walk goes back
pub record Walks (t x : List ℕ) (i : ℕ) (ps : List Place) (w : Result ℕ Refusal) : Type 0 where
  pub onward : IfOk w (λ j. i ≤ j)
  pub is : (rest : List Place) → scan t x (count t - i) i (ps ++ rest) ≡ resumed t x w rest
  pub ended : IfOk w (λ j. j ≤ count t)
  pub small : IfErr w Small

-- ---- one record: its tests in the order in which they are made
-- bytes 8-15 are zero
unfoldable pub zeros : Record → Bool
zeros r = eqb r.start 0 && eqb r.len 0

-- what of `fits` asks for no more than bytes 2-7
unfoldable pub kind_fits : Class → Record → Bool
kind_fits c r = allowed c r.kind && (eqb r.kids (length (holds c r)) && flags_fit r)

-- what `inside` asks of a text part
unfoldable pub part_inside : List ℕ → Record → Bool
part_inside x r = leb (r.start + r.len) (length x) && (boundary x r.start && boundary x (r.start + r.len))

-- the fault in bytes 8-15 of the record at an index
unfoldable pub used_fault : List ℕ → Class → Record → ℕ → Answer
used_fault x c r i = first ((not (fields_fit r && range_fits c r), Err (Misfit i)) ∷ (not (inside x r), Err (Outside i)) ∷ []) (Ok tt)

-- a record's first fault, with left records of depth to go, where fit tells whether it fits its place
unfoldable pub fault_of : List ℕ → Record → ℕ → ℕ → Bool → Answer
fault_of x r i left fit =
    first
    ((not (mark_ok r), Err (Mark i)) ∷ (not fit, Err (Misfit i)) ∷ (not (inside x r), Err (Outside i)) ∷ (eqb left 0, Err (Deep i)) ∷ [])
    (Ok tt)

-- what a walk meets in a place: no record, or the record r, which has a fault or none
unfoldable pub met_at : List ℕ → List ℕ → Record → ℕ → ℕ → Class → Answer
met_at t x r i left c = cond (leb (count t) i) (Err (Ends i)) (fault_of x r i left (fits c r))
