-- From 01's check and the walk to the answer in a mode; and what a mode admits, one that asks for less admits.
use Rattle.std.specs.Prelude.{ℕ, zero, suc, ◌-◌, ◌≡◌, refl, List, [], ◌∷◌, Bool, true, false, ltb, length, Result, Ok, Err}
use Rattle.std.proofs.Common.{arith, ◌∙◌, ap, sym}
use Rattle.laws.specs.First.{first}
use Rattle.mode.specs.declared.Mode.{Mode}
use Rattle.utf8.specs.Rfc3629.{Encoding}
use Rattle.record.specs.Record.{count}
use Rattle.grammar.specs.Kind.{NONE}
use Rattle.grammar.specs.Classes.{root_at, root_is}
use Rattle.tree.specs.Check.{Answer, Admitted, scan_in, scan, malformed, longest, or_broken, answer_in}
use Rattle.tree.specs.declared.Refusal.{Refusal}
use Rattle.tree.specs.declared.Refusal.TheVariants.{Malformed, TooLong}
use Rattle.rules.specs.Rules.{sound_to, broken, ruled}
use Rattle.rules.proofs.Rules.{join}
use Rattle.rules.specs.Walk.{resumed, Finds}
use Rattle.rules.specs.Whole.{at_root, root_rules, Answered, Ruled, root_reached}

-- ---- what the walk finds is what is broken
module _ (m : Mode) (t x : List ℕ) (a : Answer) (c : Answered t x a) where
  -- a walk over no places is at its end
  none_left : (n i : ℕ) → broken m t x n i [] ≡ Admitted
  unfolding broken
  none_left zero i = refl
  none_left (suc n) i = refl

  walked : (w : Result ℕ Refusal) → Finds m t x (sound_to t a) 0 64 NONE 1 w → broken m t x (sound_to t a) 0 at_root ≡ resumed m t x (sound_to t a) w []
  walked w found = let z : sound_to t a - 0 ≡ sound_to t a = omega arith in rw (root_is, z) at ((found root_at root_rules).is [] (root_reached t x a c))

  ruled_same : (w : Result ℕ Refusal) → Finds m t x (sound_to t a) 0 64 NONE 1 w → ruled a (broken m t x (sound_to t a) 0 at_root) ≡ ruled a w
  unfolding resumed
  ruled_same (Ok j) found = ap (λ (b : Answer). ruled a b) (walked (Ok j) found ∙ none_left (sound_to t a - j) j)
  ruled_same (Err e) found = ap (λ (b : Answer). ruled a b) (walked (Err e) found)

  pub in_mode : (w : Result ℕ Refusal) → Finds m t x (sound_to t a) 0 64 NONE 1 w → Ruled m t x a (ruled a w)
  unfolding answer_in broken
  in_mode w found e is = sym (ruled_same w found) ∙ by (malformed t) (ltb longest (length x)) e is
    where
      by : (f l : Bool) (e : Encoding) → a ≡ first ((f, Err Malformed) ∷ (l, Err TooLong) ∷ []) (or_broken e (scan t x (count t) 0 at_root))
          → ruled a (broken m t x (sound_to t a) 0 at_root)
          ≡ first ((f, Err Malformed) ∷ (l, Err TooLong) ∷ []) (or_broken e (scan_in m t x (count t) 0 at_root))
      by true l e q = rw q
      by false true e q = rw q
      by false false (Err b) q = rw q
      by false false (Ok u) q =
          let s = scan t x (count t) 0 at_root in
          let z : sound_to t s - 0 ≡ sound_to t s = omega arith in
          rw q (sym (rw z at (join m t x (count t) 0 at_root (omega arith))))
