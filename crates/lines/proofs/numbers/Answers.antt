-- The number at a place is that of its four bytes, and those before it stay.
use Rattle.std.proofs.Common.{arith, ℕ, ◌≡◌, ◌+◌, ◌*◌, ◌<◌, List, length, length-set, take, drop, get_or, slice_set, ◌⊎◌, inl, inr, ◌∙◌, ap, sym, add-zero}
use Rattle.std.proofs.lemmas.List.{get_or-drop, get_or-set_same, get_or-set_other}
use Rattle.std.proofs.lemmas.Bool.{cases_order}
use Rattle.laws.specs.Little.{from_little, of_four}
use Rattle.lines.proofs.numbers.Goals as goal

first : (s : List ℕ) (k : ℕ) → get_or s k 0 ≡ get_or (drop k s) 0 0
first s k = sym (get_or-drop k s 0 0 ∙ ap (λ i. get_or s i 0) (add-zero k))

four_at : (s : List ℕ) (k : ℕ) → get_or s k 0 + 256 * (get_or s (k + 1) 0 + 256 * (get_or s (k + 2) 0 + 256 * (get_or s (k + 3) 0 + 0))) ≡ from_little (take 4 (drop k s))
four_at s k = rw (add-zero (get_or s (k + 3) 0), ← get_or-drop k s 1 0, ← get_or-drop k s 2 0, ← get_or-drop k s 3 0, first s k) (of_four (drop k s))

pub loop-i-preserved : goal.loop-i-preserved
loop-i-preserved g c = (simp length-set c.loop-i.invariant.0, each)
  where
    i : ℕ
    i = c.loop-i.i

    at : (j : ℕ) → (j ≡ i) ⊎ ((j < i) ⊎ (i < j)) → j < i + 1 → get_or (slice_set c.loop-i.held i c.word.result) j 0 ≡ from_little (take 4 (drop (4 * j) c.args.bytes.now))
    at j (inl e) l = rw e (get_or-set_same c.loop-i.held i c.word.result 0 (omega (arith, c.loop-i.invariant.0, c.loop-i-test.true)) ∙ c.word.ensures.0 ∙ four_at c.args.bytes.now (4 * i))
    at j (inr (inl b)) l = get_or-set_other c.loop-i.held i j c.word.result 0 (λ e. omega (arith, e, b)) ∙ c.loop-i.invariant.1 j b
    at j (inr (inr a)) l = omega (arith, a, l)

    each : (j : ℕ) → j < i + 1 → get_or (slice_set c.loop-i.held i c.word.result) j 0 ≡ from_little (take 4 (drop (4 * j) c.args.bytes.now))
    each j l = at j (cases_order j i) l
