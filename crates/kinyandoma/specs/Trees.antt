-- 01, sections 3 and 9: measure and render as the engine calls them, with the answer as one number; in a mode of 02, or as 01 has them.
use Rattle.std.specs.Prelude.{ℕ, ◌+◌, ◌*◌, ◌^◌, ◌≡◌, List}
use Rattle.std.proofs.Common.{◌∙◌, ap, sym}
use Rattle.mode.specs.Options.{plain}
use Rattle.mode.specs.declared.Mode.{Mode}
use Rattle.render.specs.Render as render
use Rattle.render.specs.Render.{Outcome, number_of, place_of}
use Rattle.render.specs.Laws as laws

-- number * 2^32 + place
unfoldable pub code : Outcome → ℕ
code o = number_of o * 2 ^ 32 + place_of o

-- what the calls do with a tree t, a text x and an output
pub record MeasuresIn (m : Mode) (t x : List ℕ) (answer : ℕ) : Type 0 where
  pub outcome : Outcome
  pub measures : render.MeasuresIn m t x outcome
  pub answers : answer ≡ code outcome

pub record RendersIn (m : Mode) (t x out : List ℕ) (answer : ℕ) (out' : List ℕ) : Type 0 where
  pub outcome : Outcome
  pub renders : render.RendersIn m t x out outcome out'
  pub answers : answer ≡ code outcome

-- 01 as it is: the switch is off
abbrev pub Measures : List ℕ → List ℕ → ℕ → Type 0
Measures = MeasuresIn plain

abbrev pub Renders : List ℕ → List ℕ → List ℕ → ℕ → List ℕ → Type 0
Renders = RendersIn plain

-- no two outcomes satisfy the contract
pub measures_unique : (m : Mode) (t x : List ℕ) (a b : ℕ) → MeasuresIn m t x a → MeasuresIn m t x b → a ≡ b
measures_unique m t x a b f g =
    f.answers ∙ ap code (laws.measures_unique m t x f.outcome g.outcome f.measures g.measures) ∙ sym g.answers

pub renders_unique : (m : Mode) (t x out : List ℕ) (a b : ℕ) (k l : List ℕ) → RendersIn m t x out a k → RendersIn m t x out b l → (a ≡ b) × (k ≡ l)
renders_unique m t x out a b k l f g =
    let u = laws.renders_unique m t x out f.outcome g.outcome k l f.renders g.renders in
    (f.answers ∙ ap code u.0 ∙ sym g.answers, u.1)
