-- From measure and the walk to the verdict; that no two verdicts satisfy the contract, and that a place is small.
use Prim.Native.Nat.{ℕ, ◌+◌, ◌^◌, ◌<◌}
use Rattle.std.proofs.Common.{◌∙◌}
use native.Mathlib.Omega.{arith}
use Rattle.std.specs.Prelude.{◌≡◌, ◌≤◌, get_or, Result, Ok, Err}
use Rattle.std.proofs.Math.Path.{refl}
use mathlib.Core.List.{List, [], ◌∷◌}
use Rattle.std.proofs.Math.Bool.{true, false, cond}
use Rattle.std.proofs.Math.Dec.{eqb}
use borrow.Author.Tests.{eqb-true}
use Rattle.mode.specs.declared.Mode.{Mode}
use Rattle.record.specs.Record.{count}
use Rattle.grammar.specs.Grammar.{root}
use Rattle.tree.specs.Check.{place}
use Rattle.tree.proofs.Bounds.{admitted_short}
use Rattle.render.specs.Render as render
use Rattle.render.specs.Render.{Outcome, MeasuresIn}
use Rattle.render.specs.Laws.{measures_small}
use Rattle.field.specs.declared.Refusal.TheVariants.{Unfit}
use Rattle.field.specs.Profile.{Verdict, broken, Measured, or_unfit, profiled, ProfilesIn, place_of}
use Rattle.field.specs.Laws.{UpTo, checked, break_there}

-- the verdict where the walk comes to w
abbrev by_outcome : Outcome → Result ℕ ℕ → Verdict
by_outcome (Err r) w = Measured (Err r)
by_outcome (Ok n) w = or_unfit w (Measured (Ok n))

same_verdict : (t : List ℕ) (o : Outcome) → profiled t o ≡ by_outcome o (broken t)
unfolding profiled
same_verdict t (Err r) = refl
same_verdict t (Ok n) = refl

pub profiles_small : {m : Mode} {t x : List ℕ} {v : Verdict} → ((k : ℕ) → get_or t k 0 < 256) → ProfilesIn m t x v → place_of v < 2 ^ 32
unfolding broken
profiles_small {m} {t} {x} {v} inBytes p = by p.outcome p.measures (broken t) (break_there t (count t) 0 (place 1 root ∷ [])) (p.answers ∙ same_verdict t p.outcome)
  where
    unfit : (w : Result ℕ ℕ) (n : ℕ) → UpTo (0 + count t) w → v ≡ or_unfit w (Ok n) → count t < 2 ^ 32 → n < 2 ^ 32 → place_of v < 2 ^ 32
    unfit (Err i) n u e h k = rw e (omega arith)
    unfit (Ok j) n u e h k = rw e k

    by : (o : Outcome) → MeasuresIn m t x o → (w : Result ℕ ℕ) → UpTo (0 + count t) w → v ≡ by_outcome o w → place_of v < 2 ^ 32
    by (Err r) mm w u e = rw e (measures_small inBytes mm)
    by (Ok n) mm w u e =
        let s = admitted_short (checked mm refl) refl in
        unfit w n u e (omega (arith, s.0)) (measures_small inBytes mm)
