-- A contract that is an equation, result ≡ definition, has one outcome.
use Rattle.std.specs.Prelude.{◌≡◌}
use Rattle.std.proofs.Common.{◌∙◌, sym}

pub determined : {A : Type 0} {x a b : A} → a ≡ x → b ≡ x → a ≡ b
determined p q = p ∙ sym q
