-- Every row of bytes has an answer: it is a text, or the longest text that begins it ends before it does.
use Rattle.std.specs.Prelude.{ℕ, zero, suc, ◌+◌, ◌≤◌, ◌≡◌, refl, List, Bool, true, false, leb, eqb, length, take, drop, Ok}
use Rattle.std.proofs.Common.{arith, length-drop, take_all, take-add, leb-true, leb-false, eqb-true}
use Rattle.std.proofs.lemmas.Bool.{eqb-false}
use Rattle.utf8.specs.Rfc3629.{Text, none, Encoding, Encoded}
use Rattle.utf8.specs.Scan.{width, broken_at}
use Rattle.utf8.proofs.Beginnings.{broken_encoded}
use Rattle.utf8.specs.Characters.{width_starts}
use Rattle.utf8.proofs.Characters.{width_none}
use Rattle.utf8.specs.Laws.{text_append, text_char}
use Rattle.utf8.proofs.Laws.{longest_here}

abbrev Decided : List ℕ → Type 0
Decided s = (e : Encoding) × Encoded s e

-- from a place i that a text ends at, with n bytes or fewer to go
from : (s : List ℕ) (n i : ℕ) → length s ≤ i + n → i ≤ length s → Text (take i s) → Decided s
from s zero i h l t = (Ok tt, rw (take_all i s (omega arith)) at t)
from s (suc n) i h l t =
    by (leb (length s) i) refl (eqb (width (drop i s)) 0) refl (λ m a b u. from s n (i + m) a b u)
  where
    by : (e : Bool) → leb (length s) i ≡ e → (z : Bool) → eqb (width (drop i s)) 0 ≡ z
        → ((m : ℕ) → length s ≤ i + m + n → i + m ≤ length s → Text (take (i + m) s) → Decided s) → Decided s
    by true p z q go = (Ok tt, rw (take_all i s (leb-true (length s) i p)) at t)
    by false p true q go =
        let less = leb-false (length s) i p in
        (broken_at (drop i s) i, broken_encoded s i (less, longest_here s i less t (width_none (drop i s) (eqb-true (width (drop i s)) 0 q))))
    by false p false q go =
        let w = width (drop i s) in
        let some = eqb-false w 0 q in
        let st = width_starts (drop i s) some in
        let d = length-drop i s in
        let r = st.within in
        go w (omega arith) (omega arith) (rw (take-add i w s) (text_append t (text_char st.char)))

pub decided : (s : List ℕ) → (e : Encoding) × Encoded s e
decided s = from s (length s) 0 (omega arith) (omega arith) none
