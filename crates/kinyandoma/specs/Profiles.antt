-- 02, xi: the profile as the engine calls it, with the answer as one number.
use Rattle.std.specs.Prelude.{ℕ, ◌+◌, ◌*◌, ◌^◌, ◌≡◌, List}
use Rattle.std.proofs.Common.{◌∙◌, ap, sym}
use Rattle.mode.specs.declared.Mode.{Mode}
use Rattle.field.specs.Profile as field
use Rattle.field.specs.Profile.{Verdict, number_of, place_of}
use Rattle.field.specs.Laws as laws

-- number * 2^32 + place
unfoldable pub code : Verdict → ℕ
code v = number_of v * 2 ^ 32 + place_of v

-- what the call does with a tree t and a text x
pub record ProfilesIn (m : Mode) (t x : List ℕ) (answer : ℕ) : Type 0 where
  pub verdict : Verdict
  pub profiles : field.ProfilesIn m t x verdict
  pub answers : answer ≡ code verdict

-- no two answers satisfy the contract
pub unique : (m : Mode) (t x : List ℕ) (a b : ℕ) → ProfilesIn m t x a → ProfilesIn m t x b → a ≡ b
unique m t x a b f g = f.answers ∙ ap code (laws.unique m t x f.verdict g.verdict f.profiles g.profiles) ∙ sym g.answers
