-- A turn of the check's loop: `i` is the end of a text that begins `s`, and the text goes on for `n` bytes.
-- Assumes nothing.
use Prim.Native.Nat.{ℕ, ◌+◌, ◌-◌, ◌≤◌, ◌<◌}
use mathlib.Core.Path.{◌≡◌, ◌∙◌, sym}
use mathlib.Core.List.{List}
use mathlib.Core.Bool.{true}
use native.Mathlib.Omega.{arith}
use lib.ListN.{length, take, drop, length-drop}
use lib.Seq.{take-add}
use Rattle.laws.specs.Rest.{rest, left_of}
use Rattle.utf8.specs.Rfc3629.{Text, Longest}
use Rattle.utf8.specs.Scan.{width}
use Rattle.utf8.specs.Characters.{width_starts}
use Rattle.utf8.proofs.Characters.{width_none}
use Rattle.utf8.specs.Laws.{text_append, text_char}
use Rattle.utf8.proofs.Laws.{longest_here}
use Rattle.utf8.specs.Plain.{all_plain, Goes, plain_text}

-- by the length of the character that begins the row
pub goes_width : (s : List ℕ) (n : ℕ) → n ≡ width s → Goes s n
goes_width s n e =
    (λ z. width_none s (sym e ∙ z), λ h. let st = width_starts s (λ z. h (e ∙ z)) in (rw e st.within, rw e (text_char st.char)))

-- and by the plain bytes behind it
pub goes_far : (s : List ℕ) (n m : ℕ) → Goes s n → (n ≡ 0 → ⊥) → m ≤ length (drop n s) → all_plain (take m (drop n s)) ≡ true → Goes s (n + m)
goes_far s n m g h l p =
    let t = g.1 h in (
      λ z. absurd (h (omega arith)),
      λ k. (omega (arith, t.0, length-drop n s), rw (take-add n m s) (text_append t.1 (plain_text (take m (drop n s)) p))),
    )

module _ (s : List ℕ) (i : ℕ) (below : i < length s) where
  pub some_left : 0 < length (take (length s - i) (drop i s))
  some_left = left_of s i 1 (omega arith)

  module _ (text : Text (take i s)) (n : ℕ) (found : Goes (take (length s - i) (drop i s)) n) where
    here : Goes (drop i s) n
    here = rw (rest s i) at found

    -- none is found: the longest text ends at `i`
    pub stops : n ≡ 0 → Longest s i
    stops e = longest_here s i below text (here.0 e)

    -- one is found: it ends within `s`, and so does the text that it goes on with
    pub goes_on : (n ≡ 0 → ⊥) → (i + n ≤ length s) × Text (take (i + n) s)
    goes_on h =
        let t = here.1 h in
        (omega (arith, t.0, length-drop i s), rw (take-add i n s) (text_append text t.1))
