-- A token that is laid at once: what `lay` answers and leaves, and that what it laid is the token.
use Rattle.std.specs.Prelude.{ℕ, ◌+◌, ◌≤◌, ◌<◌, ◌≡◌, Bool, true, cond, ◌||◌, leb, get_or, Option, Some, None}
use Rattle.std.proofs.Common.{arith, ◌∙◌, le-leb}
use Rattle.std.proofs.Math.Path.{refl, ap, sym}
use mathlib.Core.List.{List, [], ◌∷◌, ◌++◌}
use Rattle.std.proofs.Math.Bool.{false, or-false}
use Rattle.std.proofs.Math.ListN.{length, length-append}
use Rattle.std.proofs.lemmas.List.Edits.{sets}
use Rattle.std.proofs.lemmas.Bool.{lt-leb, eqb-false}
use Rattle.laws.specs.Among.{among, all, each}
use Rattle.laws.specs.Sets.{sets_past}
use Rattle.blank.specs.Blank.{all_blank}
use Rattle.spelling.specs.Rows.{rows}
use Rattle.spelling.specs.Spelling.{row, spelling}
use Rattle.spelling.specs.Table.{spelling_in}
use Rattle.spelling.specs.Token.{TK_ID, TK_INTEGER, TK_FLOAT, TK_VARIABLE, TK_BLOB}
use Rattle.spelling.specs.Laws.{spelled_length, spelled_none}
use Rattle.store.specs.Laid.{lead, room_for, laid_to, laid_out}
use Rattle.store.specs.Laws.{room, at_most_one, no, yes}
use Rattle.stream.specs.Stream.{none, some as given, tight, opens, gap, gapped}
use Rattle.stream.specs.Sink.{State, most, count, pour, mark, step}
use Rattle.stream.specs.Laws.{count_fits, count_more, count_within, step_other, spell_one, value_none}
use Rattle.stream.specs.Shapes.{silent_kind, silent_spelling, silent_loose, silent_no_blob, spelled_no_blob, word_tight, word_opens, word_added, value_added, word_left, value_left}
use Rattle.stream.specs.declared.Sink.{Sink}

-- a space, where there is none, and v are laid where an output of size bytes has room for all of them, or for none
unfoldable pub may : ℕ → ℕ → List ℕ → Bool
may at size v = leb size at || room_for at size v

unfoldable pub led_to : Sink → ℕ → List ℕ → Option ℕ
led_to s size v = cond (may s.at size v) (Some (count s.at (length (lead s.spaced ++ v)))) None

unfoldable pub led_out : Sink → List ℕ → List ℕ → List ℕ
led_out s out v = cond (may s.at (length out) v) (sets out s.at (lead s.spaced ++ v)) out

-- the kinds of most values, which are written by them alone
abbrev pub alone_kinds : List ℕ
alone_kinds = TK_ID ∷ TK_INTEGER ∷ TK_FLOAT ∷ TK_VARIABLE ∷ []

unfoldable pub alone : ℕ → Bool
alone k = among k alone_kinds

all_silent : all silent_kind alone_kinds ≡ true
unfolding silent_kind spelling row rows tight
all_silent = refl

is_silent : (k : ℕ) → alone k ≡ true → silent_kind k ≡ true
unfolding alone
is_silent k a = each silent_kind k alone_kinds all_silent a

-- ---- `counted` and `lay`
pub counts_on : (s : Sink) (n : ℕ) → s.spaced ≡ true → count s.at n ≡ count s.at (length (lead s.spaced) + n)
unfolding lead
counts_on s n e = let z : 0 + n ≡ n = omega arith in rw (e, z)

pub counts_led : (s : Sink) (a n : ℕ) → s.spaced ≡ false → a ≡ count s.at 1 → count a n ≡ count s.at (length (lead s.spaced) + n)
unfolding lead
counts_led s a n e f = rw (e, f, count_more s.at 1 n)

module _ (s : Sink) (out v : List ℕ) where
  pub led_none : (c : ℕ) → length out ≤ s.at → c ≡ count s.at (length (lead s.spaced) + length v) → (Some c ≡ led_to s (length out) v) × (out ≡ led_out s out v)
  unfolding may led_to led_out
  led_none c h e = rw (le-leb (length out) s.at h, e, length-append (lead s.spaced) v) (refl, sym (sets_past (lead s.spaced ++ v) out s.at h))

  fitting : (t : Bool) → room_for s.at (length out) v ≡ t → length out ≤ most
      → cond t (Some (s.at + length (lead s.spaced ++ v))) None ≡ cond t (Some (count s.at (length (lead s.spaced ++ v)))) None
  fitting true e h =
      let r = room s.at (length out) v e in
      let l : length (lead s.spaced ++ v) ≤ 1 + length v = omega (arith, length-append (lead s.spaced) v, at_most_one s.spaced) in
      ap Some (sym (count_fits s.at (length (lead s.spaced ++ v)) (omega arith)))
  fitting false e h = refl

  pub led_laid : (r : Option ℕ) (out' : List ℕ) → length out ≤ most → s.at < length out → (r ≡ laid_to s.at (length out) s.spaced v) × (out' ≡ laid_out s.at out s.spaced v)
      → (r ≡ led_to s (length out) v) × (out' ≡ led_out s out v)
  unfolding may led_to led_out laid_to laid_out
  led_laid r out' m h e =
      rw (lt-leb (length out) s.at h) (e.0 ∙ fitting (room_for s.at (length out) v) refl m, e.1)

  -- what was laid, and what was not
  module _ (r : Option ℕ) (out' : List ℕ) (e : (r ≡ led_to s (length out) v) × (out' ≡ led_out s out v)) where
    pub not_led : r ≡ None → out' ≡ out
    unfolding led_to led_out
    not_led g =
        let b = lead s.spaced ++ v in
        no (may s.at (length out) v) (count s.at (length b)) out' (sets out s.at b) out r e.0 e.1 g

    led : (c : ℕ) (x : Bool) → r ≡ Some c → (record { spaced = x; at = c }, out') ≡ mark (pour (s, out) (lead s.spaced ++ v)) x
    unfolding led_to led_out mark pour
    led c x g =
        let b = lead s.spaced ++ v in
        let y = yes (may s.at (length out) v) c (count s.at (length b)) out' (sets out s.at b) out r e.0 e.1 g in
        rw (y.0, y.1)

    -- a spelling of more than one byte
    pub led_word : (t : List ℕ) (k c : ℕ) → v ≡ spelling_in t k → (length v ≡ 0 → ⊥) → (length v ≡ 1 → ⊥) → r ≡ Some c → (record { spaced = false; at = c }, out') ≡ step (s, out) k v none
    unfolding step
    led_word t k c i z o g =
        let l : length v ≡ length (spelling k) = ap length i ∙ spelled_length t k (λ h. z (ap length i ∙ h)) in
        let z' : length (spelling k) ≡ 0 → ⊥ = λ h. z (l ∙ h) in
        let o' : length (spelling k) ≡ 1 → ⊥ = λ h. o (l ∙ h) in
        let n = spelled_no_blob k z' in
        rw (← word_added s.spaced k n v, word_tight k z' o', or-false s.spaced, ← word_left s.spaced k v n z, word_opens k z' o') (led c false g)

    -- a value of a kind that is written by it alone
    pub led_value : (t : List ℕ) (k c : ℕ) (x : Bool) → alone k ≡ true → x ≡ all_blank v → r ≡ Some c → (record { spaced = x; at = c }, out') ≡ step (s, out) k (spelling_in t k) (given v)
    unfolding step
    led_value t k c x a f g =
        let i = is_silent k a in
        let n = silent_no_blob k i in
        rw (spelled_none t k (silent_spelling k i), ← value_added s.spaced k n v, silent_loose k i, or-false s.spaced, ← value_left s.spaced k [] v n, ← f) (led c x g)

-- ---- a mark, which is a spelling of one byte
one_byte : (w : List ℕ) → length w ≡ 1 → get_or w 0 0 ∷ [] ≡ w
one_byte [] e = absurd (omega arith)
one_byte (x ∷ []) e = refl
one_byte (x ∷ y ∷ w) e = absurd (omega arith)

poured : (st : State) (w : List ℕ) → (pour st w).0.at ≤ most
unfolding pour
poured st w = count_within st.0.at (length w)

pub marked : (t w : List ℕ) (st u v : State) (k : ℕ) (x : Bool) → length st.1 ≤ most → w ≡ spelling_in t k → length w ≡ 1
    → u ≡ mark (pour st (gap st.0.spaced k)) (gapped st.0.spaced k) → v ≡ pour u (get_or w 0 0 ∷ []) → x ≡ opens k
    → (record { spaced = x; at = v.0.at }, v.1) ≡ step st k w none
unfolding mark
marked t w st u v k x h i o g p f =
    let z : length w ≡ 0 → ⊥ = λ e. omega arith in
    let l : length w ≡ length (spelling k) = ap length i ∙ spelled_length t k (λ e. z (ap length i ∙ e)) in
    let n = spelled_no_blob k (λ e. z (l ∙ e)) in
    let b : v.0.at ≤ most = rw p (poured u (get_or w 0 0 ∷ [])) in
    let q : v ≡ pour u w = p ∙ ap (pour u) (one_byte w o) in
    step_other st u (mark v x) (mark v x) k w none h g (eqb-false k TK_BLOB n) (spell_one u v k w x z q f) (value_none (mark v x) none b refl)
