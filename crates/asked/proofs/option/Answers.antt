-- `asked::option` meets its contract: it goes by the definition's tests, since the library compares words as `same` does.
use Rattle.std.proofs.Common.{ℕ, ◌≡◌, List, [], ◌∷◌, Bool, true, false, nat_eq, refl, sym, ◌∙◌, arith, rules}
use lib.Pointwise.{pointwise}
use Rattle.laws.specs.Bytes.{same}
use Rattle.laws.specs.Text.{ascii}
use Rattle.asked.specs.Words.{option_of}
use Rattle.asked.proofs.option.Goals as goal

alike : (a b : List ℕ) → pointwise nat_eq a b ≡ same a b
alike [] [] = refl
alike [] (y ∷ b) = refl
alike (x ∷ a) [] = refl
alike (x ∷ a) (y ∷ b) = rw (alike a b)

told : {c : Bool} (w v u : List ℕ) → c ≡ pointwise nat_eq w v → v ≡ u → same w u ≡ c
told w v u e f = rw (← f, e) (sym (alike w v))

pub returns-then-eq : goal.returns-then-eq
unfolding option_of
returns-then-eq c = rw (told c.args.word.now c.as_slice.result.now (ascii "--strict") c.eq.ensures (search rules) ∙ c.if-eq.true) (refl, omega arith)

pub returns-then-eq-2 : goal.returns-then-eq-2
unfolding option_of
returns-then-eq-2 c =
    rw (
      told c.args.word.now c.as_slice.result.now (ascii "--strict") c.eq.ensures (search rules) ∙ c.if-eq.false,
      told c.args.word.now c.as_slice-2.result.now (ascii "--sqlite") c.eq-2.ensures (search rules) ∙ c.if-eq-2.true,
    ) (refl, omega arith)

pub returns : goal.returns
unfolding option_of
returns c =
    rw (
      told c.args.word.now c.as_slice.result.now (ascii "--strict") c.eq.ensures (search rules) ∙ c.if-eq.false,
      told c.args.word.now c.as_slice-2.result.now (ascii "--sqlite") c.eq-2.ensures (search rules) ∙ c.if-eq-2.false,
    )
