-- Bytes stored in two pieces that may overlap are stored as one. Assumes nothing.
use Rattle.std.specs.Prelude.{ℕ, ◌+◌, ◌-◌, ◌/◌, ◌≤◌, ◌<◌, min, suc, ◌≡◌, refl, List, [], ◌∷◌, ◌++◌, Bool, true, false, leb, length, take, drop, set, get_or}
use Rattle.std.proofs.Common.{arith, add-zero, ◌∙◌, ap, sym, append-nil, length-drop, take-append-drop, drop_of_length-le, set-set, take_all, take-add, length-take-le, leb-true, leb-false}
use Rattle.std.proofs.lemmas.List.Edits.{sets}
use Rattle.std.proofs.lemmas.List.{set_comm}
use Rattle.std.proofs.Math.Seq.{take-length}
use Rattle.laws.specs.Rest.{rest}
use Rattle.laws.specs.Sets.{sets_append, sets_part}

-- a byte before the others may be stored after them
set_sets : (c l : List ℕ) (p i x : ℕ) → p < i → set (sets l i c) p x ≡ sets (set l p x) i c
set_sets [] l p i x h = refl
set_sets (y ∷ c) l p i x h =
    set_sets c (set l i y) p (suc i) x (omega arith)
    ∙ ap (λ (m : List ℕ). sets m (suc i) c) (set_comm l i p y x (λ e. omega arith))

-- bytes stored twice
sets_again : (c d l : List ℕ) (p : ℕ) → sets (sets l p c) p (c ++ d) ≡ sets l p (c ++ d)
sets_again [] d l p = refl
sets_again (x ∷ c) d l p =
    ap (λ (m : List ℕ). sets m (suc p) (c ++ d)) (set_sets c (set l p x) p (suc p) x (omega arith) ∙ ap (λ (m : List ℕ). sets m (suc p) c) (set-set l p x x))
    ∙ sets_again c d (set l p x) (suc p)

overlapped : (l v : List ℕ) (at k w : ℕ) → k ≤ w → k ≤ length v → sets (sets l at (take w v)) (at + k) (drop k v) ≡ sets l at v
overlapped l v at k w h m =
    let a = take k v in
    let c = take (w - k) (drop k v) in
    let d = drop (w - k) (drop k v) in
    let is-w : k + (w - k) ≡ w = omega arith in
    let first : take w v ≡ a ++ c = ap (λ (n : ℕ). take n v) (sym is-w) ∙ take-add k (w - k) v in
    let second : drop k v ≡ c ++ d = sym (take-append-drop (w - k) (drop k v)) in
    let all : a ++ (c ++ d) ≡ v = ap (λ (r : List ℕ). a ++ r) (sym second) ∙ take-append-drop k v in
    let size : length a ≡ k = length-take-le k v m in
    ap (λ (x : List ℕ). sets (sets l at x) (at + k) (drop k v)) first
    ∙ ap (λ (x : List ℕ). sets (sets l at (a ++ c)) (at + k) x) second
    ∙ ap (λ (x : List ℕ). sets x (at + k) (c ++ d)) (sets_append a c l at ∙ ap (λ (n : ℕ). sets (sets l at a) (at + n) c) size)
    ∙ sets_again c d (sets l at a) (at + k)
    ∙ ap (λ (n : ℕ). sets (sets l at a) (at + n) (c ++ d)) (sym size)
    ∙ sym (sets_append a (c ++ d) l at)
    ∙ ap (λ (x : List ℕ). sets l at x) all

-- where the first i bytes are stored, the next w
pub next : (l v : List ℕ) (at i w : ℕ) → i ≤ length v
    → sets (sets l at (take i v)) (at + i) (take w (take (length v - i) (drop i v))) ≡ sets l at (take (i + w) v)
next l v at i w h =
    ap (λ (x : List ℕ). sets (sets l at (take i v)) (at + i) (take w x)) (rest v i)
    ∙ ap (λ (n : ℕ). sets (sets l at (take i v)) (at + n) (take w (drop i v))) (sym (length-take-le i v h))
    ∙ sym (sets_append (take i v) (take w (drop i v)) l at)
    ∙ ap (λ (x : List ℕ). sets l at x) (sym (take-add i w v))

-- where the first i bytes are stored, the last w, which reach back to them
pub ends : (l v : List ℕ) (at i k w : ℕ) → k + w ≡ length v → k ≤ i
    → sets (sets l at (take i v)) (at + k) (take w (take (length v - k) (drop k v))) ≡ sets l at v
ends l v at i k w e h =
    ap (λ (x : List ℕ). sets (sets l at (take i v)) (at + k) x) (ap (take w) (rest v k) ∙ take_all w (drop k v) (omega (arith, length-drop k v)))
    ∙ overlapped l v at k i h (omega arith)

-- what a copy leaves in as many bytes
pub moved : (v z b : List ℕ) (w : ℕ) → w ≤ length v → length z ≡ w → b ≡ take (length (take w v)) (take w v) ++ drop (length (take w v)) z → b ≡ take w v
moved v z b w h m e =
    let all : length z ≤ w = omega arith in
    e ∙ rw (take-length (take w v), length-take-le w v h, drop_of_length-le z all, append-nil) refl

-- none, and up to three: the first, the middle and the last
pub no_byte : (l v : List ℕ) (at : ℕ) → length v ≡ 0 → l ≡ sets l at v
no_byte l [] at e = refl
no_byte l (x ∷ v) at e = absurd (omega arith)

pub three_bytes : (l v : List ℕ) (at : ℕ) → (length v ≡ 0 → ⊥) → length v < 4
    → set (set (set l at (get_or v 0 0)) (at + length v / 2) (get_or v (length v / 2) 0)) (at + (length v - 1)) (get_or v (length v - 1) 0) ≡ sets l at v
three_bytes l [] at n h = absurd (n refl)
three_bytes l (x ∷ []) at n h = rw (add-zero at, set-set, set-set) refl
three_bytes l (x ∷ y ∷ []) at n h = let one : at + 1 ≡ suc at = omega arith in rw (one, set-set) refl
three_bytes l (x ∷ y ∷ z ∷ []) at n h = let one : at + 1 ≡ suc at = omega arith in let two : at + 2 ≡ suc (suc at) = omega arith in rw (one, two) refl
three_bytes l (x ∷ y ∷ z ∷ w ∷ v) at n h = absurd (omega arith)

-- a byte under others
pub covered : (l v : List ℕ) (at x : ℕ) → (length v ≡ 0 → ⊥) → sets (set l at x) at v ≡ sets l at v
covered l [] at x n = absurd (n refl)
covered l (y ∷ v) at x n = ap (λ (m : List ℕ). sets m (suc at) v) (set-set l at x y)

-- as many as there is room for
pub as_fits : (l v : List ℕ) (at : ℕ) → at ≤ length l → sets l at (take (min (length l - at) (length v)) v) ≡ sets l at v
as_fits l v at h = by (leb (length l - at) (length v)) refl
  where
    by : (t : Bool) → leb (length l - at) (length v) ≡ t → sets l at (take (min (length l - at) (length v)) v) ≡ sets l at v
    by true e =
        let le = leb-true (length l - at) (length v) e in
        let m : min (length l - at) (length v) ≡ length l - at = omega arith in
        rw m (sym (sets_part v l at (length l - at) (omega arith)))
    by false e =
        let lt = leb-false (length l - at) (length v) e in
        let m : min (length l - at) (length v) ≡ length v = omega arith in
        rw (m, take-length v) refl
