-- Bytes stored one behind the other from a place on, those that find no room dropped: `sets` of the library, and what it does to a joined list.
use Rattle.std.specs.Prelude.{ℕ, zero, suc, ◌+◌, ◌-◌, ◌≤◌, ◌≡◌, refl, List, [], ◌∷◌, ◌++◌, length, take, drop, set}
use Rattle.std.proofs.Common.{arith, add-suc, suc-add, add-zero, le_refl, ◌∙◌, ap, sym, append-nil, append_assoc, length-set, length-drop, drop_of_length-le, drop-drop}
use Rattle.std.proofs.lemmas.List.Edits.{sets, sets-eq}
use Rattle.std.proofs.Math.Seq.{set_out, take-length}
use borrow.Rule.Slice.PartMut.{mid_of, put_mid}
use Rattle.laws.specs.Rest.{rest}

-- the first list, and then the second behind it
pub sets_append : (a b l : List ℕ) (i : ℕ) → sets l i (a ++ b) ≡ sets (sets l i a) (i + length a) b
sets_append [] b l i = rw add-zero
sets_append (x ∷ a) b l i = sets_append a b (set l i x) (suc i) ∙ ap (λ (k : ℕ). sets (sets (set l i x) (suc i) a) k b) (suc-add i (length a) ∙ sym (add-suc i (length a)))

-- past the end nothing is stored
pub sets_past : (a l : List ℕ) (i : ℕ) → length l ≤ i → sets l i a ≡ l
sets_past [] l i h = refl
sets_past (x ∷ a) l i h = rw (set_out l i x h) (sets_past a l (suc i) (omega arith))

-- what fits is stored: as many as there is room for
pub sets_part : (a l : List ℕ) (i n : ℕ) → i + n ≡ length l → sets l i a ≡ sets l i (take n a)
sets_part a l i zero e = sets_past a l i (omega (arith, add-zero i))
sets_part [] l i (suc n) e = refl
sets_part (x ∷ a) l i (suc n) e = sets_part a (set l i x) (suc i) n (suc-add i n ∙ sym (add-suc i n) ∙ e ∙ sym (length-set l i x))

-- what a copy into the part from i on leaves: the part is ys, all of v and then what stood behind it
pub sets_copied : (l v ys : List ℕ) (i : ℕ) → i + length v ≤ length l → ys ≡ take (length v) v ++ drop (length v) (mid_of i (length l - i) l) → put_mid i (length l - i) l ys ≡ sets l i v
sets_copied l v ys i h e =
    let k : length (drop i l) ≤ length l - i = rw (length-drop i l) (le_refl (length l - i)) in
    rw (e, take-length v, rest l i, drop_of_length-le (drop i l) k, append-nil, drop-drop (length v) i l, sets-eq v l i h, append_assoc)
