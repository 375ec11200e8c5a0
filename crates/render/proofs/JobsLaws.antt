-- Laws of the jobs: what one job comes to, how a walk over all of them goes on from job to job (`Begun`), and that no two outcomes satisfy the contract.
use Rattle.std.specs.Prelude.{ℕ, ◌+◌, ◌≤◌, ◌≡◌, Bool, length, take, drop, Ok, Err}
use Rattle.std.proofs.Common.{arith, ◌∙◌, ap, length-drop}
use Rattle.std.proofs.Math.Path.{refl, sym}
use mathlib.Core.List.{List, ◌∷◌, ◌++◌, Memᴰ}
use Rattle.std.proofs.Math.Bool.{true, false}
use Rattle.mode.specs.declared.Mode.{Mode}
use Rattle.render.specs.declared.jobs.Job.{Job}
use Rattle.render.specs.Render.{Outcome, RendersIn, number_of, place_of}
use Rattle.render.specs.Laws.{renders_unique, done_fits}
use Rattle.render.specs.Jobs.{outside, tree_of, answered, written, Single, InOrder, none, one, RendersJobs}

-- what is written fits the room
pub written_fits : {m : Mode} {t x out out' : List ℕ} (o : Outcome) → RendersIn m t x out o out' → written o ≤ length out
written_fits (Ok n) r = done_fits r
written_fits (Err e) r = omega arith

pub single_room : {m : Mode} {trees x : List ℕ} {j j' : Job} {out out' : List ℕ} {at next : ℕ} → Single m trees x j out at j' out' next → at ≤ length out → next ≤ length out
single_room {m} {trees} {x} {j} {j'} {out} {out'} {at} {next} s h = by (outside trees j) refl
  where
    by : (b : Bool) → outside trees j ≡ b → next ≤ length out
    by true e = omega (arith, (s.beyond e).1.1)
    by false e = let c = s.within e in omega (arith, c.behind, written_fits c.outcome c.renders, length-drop at out)

-- ---- the calls for two texts, where the single calls for each tree that is there come to the same
module _ (m : Mode) (trees x y : List ℕ) where
  abbrev pub Same : Job → Type 0
  Same j = (out k l : List ℕ) (o p : Outcome) → RendersIn m (tree_of trees j) x out o k → RendersIn m (tree_of trees j) y out p l → (o ≡ p) × (k ≡ l)

  single_same : {j a b : Job} {out k l : List ℕ} {at n p : ℕ} → (outside trees j ≡ false → Same j) → Single m trees x j out at a k n → Single m trees y j out at b l p
      → (a ≡ b) × ((k ≡ l) × (n ≡ p))
  single_same {j} {a} {b} {out} {k} {l} {at} {n} {p} same f g = by (outside trees j) refl
    where
      by : (c : Bool) → outside trees j ≡ c → (a ≡ b) × ((k ≡ l) × (n ≡ p))
      by true e =
          let u = f.beyond e in
          let v = g.beyond e in
          (u.0 ∙ sym v.0, (u.1.0 ∙ sym v.1.0, u.1.1 ∙ sym v.1.1))
      by false e =
          let u = f.within e in
          let v = g.within e in
          let q = same e (drop at out) u.room v.room u.outcome v.outcome u.renders v.renders in (
            u.job ∙ ap (λ (o : Outcome). answered j (number_of o) (place_of o) at) q.0 ∙ sym v.job,
            (u.output ∙ ap (λ (r : List ℕ). take at out ++ r) q.1 ∙ sym v.output, u.behind ∙ ap (λ (o : Outcome). at + written o) q.0 ∙ sym v.behind),
          )

  beside : {j k : Job} {js ks : List Job} → j ≡ k → js ≡ ks → j ∷ js ≡ k ∷ ks
  beside {j} {k} {js} {ks} e f = ap (λ (z : Job). z ∷ js) e ∙ ap (λ (zs : List Job). k ∷ zs) f

  from_one_start : {js a b : List Job} {out out₂ k l : List ℕ} {at at₂ n p : ℕ} → ((j : Job) → Memᴰ j js → outside trees j ≡ false → Same j) → out ≡ out₂ → at ≡ at₂
      → InOrder m trees x js out at a k n → InOrder m trees y js out₂ at₂ b l p → (a ≡ b) × ((k ≡ l) × (n ≡ p))
  from_one_start same e h none none = (refl, (e, h))
  from_one_start same e h (one f fs) (one g gs) =
      let u = single_same (same _ (Memᴰ.head refl)) (rw (e, h) at f) g in
      let v = from_one_start (λ j i. same j (Memᴰ.tail i)) u.1.0 u.1.1 fs gs in
      (beside u.0 v.0, v.1)

  pub jobs_same : {js a b : List Job} {out k l : List ℕ} {n p : ℕ} → ((j : Job) → Memᴰ j js → outside trees j ≡ false → Same j)
      → RendersJobs m trees x js out a k n → RendersJobs m trees y js out b l p → (a ≡ b) × ((k ≡ l) × (n ≡ p))
  jobs_same same = from_one_start same refl refl

-- no two outcomes satisfy the contract
pub jobs_unique : (m : Mode) (trees x : List ℕ) {js a b : List Job} {out k l : List ℕ} {n p : ℕ} → RendersJobs m trees x js out a k n → RendersJobs m trees x js out b l p
    → (a ≡ b) × ((k ≡ l) × (n ≡ p))
jobs_unique m trees x = jobs_same m trees x x (λ j _ _ out k l o p. renders_unique m (tree_of trees j) x out o p k l)
