-- 02, xi, the field profile: "only CreateTable, CreateIndex, DropTable, DropIndex and AlterTable, alone or in a Cmd with flags 0, with no RUN in
-- place of a ported node and nesting of at most 24. .. Refusals: those of measure in their order first .. then 11 with the first record that breaks
-- the profile." The records stand in the places of the check's scan.
use Rattle.std.specs.Prelude.{ℕ, zero, suc, ◌+◌, ◌≡◌, List, [], ◌∷◌, ◌++◌, map, Bool, true, false, not, cond, ◌&&◌, ◌||◌, eqb, ltb, Result, Ok, Err}
use Rattle.laws.specs.Among.{among, all}
use Rattle.laws.specs.First.{first}
use Rattle.mode.specs.declared.Mode.{Mode}
use Rattle.record.specs.Record.{record_at, count}
use Rattle.grammar.specs.Kind.{RUN, Cmd, AlterTable, CreateIndex, CreateTable, DropIndex, DropTable}
use Rattle.grammar.specs.Shape.{Class, one, list, one_or, small, ruled}
use Rattle.grammar.specs.Grammar.{root}
use Rattle.tree.specs.Check.{Place, place, holds}
use Rattle.render.specs.Render as render
use Rattle.render.specs.Render.{Outcome, MeasuresIn}
use Rattle.field.specs.declared.Refusal.{Refusal}
use Rattle.field.specs.declared.Refusal.TheVariants.{Measure, Unfit}

-- what the profile comes to: the length that measure answers, or a refusal
abbrev pub Verdict : Type 0
Verdict = Result ℕ Refusal

abbrev pub five : List ℕ
five = CreateTable ∷ CreateIndex ∷ DropTable ∷ DropIndex ∷ AlterTable ∷ []

-- record 0 is neither one of the five nor a Cmd with flags 0, or record 1 below a Cmd is none of the five
unfoldable pub foreign : List ℕ → ℕ → Bool
foreign t i =
    let head = record_at t 0 in
    let stranger = not (among (record_at t i).kind five) in
    first
    ((eqb i 0, stranger && not (eqb head.kind Cmd && eqb head.flags 0))
    ∷ (eqb i 1, stranger && eqb head.kind Cmd)
    ∷ [])
    false

-- the ported nodes are the kinds from here up
abbrev pub first_node : ℕ
first_node = 32

-- a place that takes one of them
unfoldable pub takes_node : Class → Bool
takes_node (one ks) = not (all (λ k. ltb k first_node) ks)
takes_node (list c) = false
takes_node (one_or ks c) = not (all (λ k. ltb k first_node) ks)
takes_node small = false
takes_node (ruled u) = false

abbrev pub deepest : ℕ
deepest = 24

-- the record at index i breaks the profile in its place
unfoldable pub breaks : List ℕ → ℕ → Place → Bool
breaks t i p = foreign t i || ((eqb (record_at t i).kind RUN && takes_node p.class) || ltb deepest p.depth)

-- the first that breaks it, of the n records from index i on, which fill these places as the check's scan has them; or the index behind them
unfoldable pub first_break : List ℕ → ℕ → ℕ → List Place → Result ℕ ℕ
first_break t zero i ps = Ok i
first_break t (suc n) i [] = Ok i
first_break t (suc n) i (p ∷ ps) =
    cond (breaks t i p) (Err i) (first_break t n (i + 1) (map (place (p.depth + 1)) (holds p.class (record_at t i)) ++ ps))

-- of all records
unfoldable pub broken : List ℕ → Result ℕ ℕ
broken t = first_break t (count t) 0 (place 1 root ∷ [])

-- measure's outcome as a verdict
abbrev pub Measured : Outcome → Verdict
Measured (Ok n) = Ok n
Measured (Err r) = Err (Measure r)

-- the first record that breaks the profile, or else this
abbrev pub or_unfit : Result ℕ ℕ → Verdict → Verdict
or_unfit (Err i) v = Err (Unfit i)
or_unfit (Ok j) v = v

-- what the profile answers, where measure answers this
unfoldable pub profiled : List ℕ → Outcome → Verdict
profiled t (Err r) = Measured (Err r)
profiled t (Ok n) = or_unfit (broken t) (Measured (Ok n))

pub record ProfilesIn (m : Mode) (t x : List ℕ) (verdict : Verdict) : Type 0 where
  pub outcome : Outcome
  pub measures : MeasuresIn m t x outcome
  pub answers : verdict ≡ profiled t outcome

-- the number and the place of each verdict
abbrev pub number_of : Verdict → ℕ
number_of (Ok n) = 0
number_of (Err (Measure r)) = render.number_of (Err r)
number_of (Err (Unfit i)) = 11

abbrev pub place_of : Verdict → ℕ
place_of (Ok n) = n
place_of (Err (Measure r)) = render.place_of (Err r)
place_of (Err (Unfit i)) = i
