-- What `lay_all` leaves: where there is room for a space and all of the bytes they are stored behind it, and else nothing is.
use Rattle.std.specs.Prelude.{ℕ, suc, ◌+◌, ◌≤◌, ◌<◌, ◌≡◌, refl, List, ◌++◌, Bool, true, false, Option, Some, None, is_some, cond, leb, ltb, length, set}
use Rattle.std.proofs.Common.{arith, add-zero, ◌∙◌, ap, sym, leb-true, ltb-true, lt-ltb, le-ltb, le-leb}
use Rattle.std.proofs.lemmas.Bool.{false≢true, lt-leb}
use Rattle.std.proofs.Math.Bool.{and-false}
use Rattle.std.proofs.lemmas.List.Edits.{sets}
use Rattle.laws.specs.Tests.{and_left, and_right}
use Rattle.store.specs.Copies.{covered}
use Rattle.store.specs.Laid.{lead, room_for, laid_to, laid_out}

pub to_not_apart : (c : ℕ) → Some c ≡ None → ⊥
to_not_apart c e = false≢true (sym (ap is_some e))

-- room, and none
pub room : (at size : ℕ) (v : List ℕ) → room_for at size v ≡ true → at + (1 + length v) ≤ size
unfolding room_for
room at size v e = leb-true (at + (1 + length v)) size (and_right (ltb 0 (length v)) (leb (at + (1 + length v)) size) e)

pub some_bytes : (at size : ℕ) (v : List ℕ) → room_for at size v ≡ true → 0 < length v
unfolding room_for
some_bytes at size v e = ltb-true 0 (length v) (and_left (ltb 0 (length v)) (leb (at + (1 + length v)) size) e)

has_room : (at size : ℕ) (v : List ℕ) → (length v ≡ 0 → ⊥) → at + (1 + length v) ≤ size → room_for at size v ≡ true
unfolding room_for
has_room at size v n h = rw (lt-ltb 0 (length v) (omega arith), le-leb (at + (1 + length v)) size h) refl

pub none : (at size : ℕ) (v : List ℕ) → length v ≡ 0 → room_for at size v ≡ false
unfolding room_for
none at size v e = rw (le-ltb 0 (length v) (omega arith)) refl

pub no_room : (at size : ℕ) (v : List ℕ) → (at + (1 + length v) ≤ size → ⊥) → room_for at size v ≡ false
unfolding room_for
no_room at size v n = rw (lt-leb (at + (1 + length v)) size (omega arith)) (and-false (ltb 0 (length v)))

pub at_most_one : (spaced : Bool) → length (lead spaced) ≤ 1
unfolding lead
at_most_one true = omega arith
at_most_one false = omega arith

-- nothing laid, and all
pub not_laid : (at : ℕ) (spaced : Bool) (v out : List ℕ) → room_for at (length out) v ≡ false → (None ≡ laid_to at (length out) spaced v) × (out ≡ laid_out at out spaced v)
unfolding laid_to laid_out
not_laid at spaced v out e = rw e (refl, refl)

behind : (at a : ℕ) (spaced : Bool) (v out : List ℕ) → (length v ≡ 0 → ⊥) → a ≡ at + length (lead spaced)
    → (a + length v ≡ at + length (lead spaced ++ v)) × (sets (set out at 32) a v ≡ sets out at (lead spaced ++ v))
unfolding lead
behind at a true v out n e = rw (e, add-zero at) (refl, covered out v at 32 n)
behind at a false v out n e = let one : at + 1 ≡ suc at = omega arith in (omega arith, rw (e, one) refl)

pub all_laid : (at a : ℕ) (spaced : Bool) (v out : List ℕ) → (length v ≡ 0 → ⊥) → at + (1 + length v) ≤ length out → a ≡ at + length (lead spaced)
    → (Some (a + length v) ≡ laid_to at (length out) spaced v) × (sets (set out at 32) a v ≡ laid_out at out spaced v)
unfolding laid_to laid_out
all_laid at a spaced v out n h e = let b = behind at a spaced v out n e in rw (has_room at (length out) v n h) (ap Some b.0, b.1)

-- what an answer says
pub no : (t : Bool) (d : ℕ) (x y z : List ℕ) (r : Option ℕ) → r ≡ cond t (Some d) None → x ≡ cond t y z → r ≡ None → x ≡ z
no true d x y z r e f g = absurd (to_not_apart d (sym e ∙ g))
no false d x y z r e f g = f

pub same_end : (c d : ℕ) → Some c ≡ Some d → c ≡ d
same_end c d e = cc

pub yes : (t : Bool) (c d : ℕ) (x y z : List ℕ) (r : Option ℕ) → r ≡ cond t (Some d) None → x ≡ cond t y z → r ≡ Some c → (c ≡ d) × (x ≡ y)
yes true c d x y z r e f g = (same_end c d (sym g ∙ e), f)
yes false c d x y z r e f g = absurd (to_not_apart c (sym g ∙ e))

some : (t : Bool) (c d : ℕ) (r : Option ℕ) → r ≡ cond t (Some d) None → r ≡ Some c → t ≡ true
some true c d r e g = refl
some false c d r e g = absurd (to_not_apart c (sym g ∙ e))

pub laid_some : (at c : ℕ) (spaced : Bool) (v out : List ℕ) (r : Option ℕ) → r ≡ laid_to at (length out) spaced v → r ≡ Some c → 0 < length v
unfolding laid_to
laid_some at c spaced v out r e g =
    some_bytes at (length out) v (some (room_for at (length out) v) c (at + length (lead spaced ++ v)) r e g)

pub laid_no : (at : ℕ) (spaced : Bool) (v out out' : List ℕ) (r : Option ℕ) → r ≡ laid_to at (length out) spaced v → out' ≡ laid_out at out spaced v → r ≡ None → out' ≡ out
unfolding laid_to laid_out
laid_no at spaced v out out' r e f g =
    let b = lead spaced ++ v in
    no (room_for at (length out) v) (at + length b) out' (sets out at b) out r e f g
