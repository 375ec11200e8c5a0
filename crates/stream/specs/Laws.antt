-- Laws of the sink: to pour one list and then another is to pour both joined, and what each way through the append core comes to.
use Rattle.std.specs.Prelude.{ℕ, ◌+◌, ◌≤◌, ◌<◌, ◌≡◌, refl, List, [], ◌∷◌, ◌++◌, Bool, true, false, not, ◌||◌, length, leb}
use Rattle.std.proofs.Common.{arith, suc-ne-zero, ◌∙◌, ap, sym, append_assoc, length-append, eq-eqb, ne_eqb, leb-true, leb-false}
use Rattle.std.proofs.lemmas.List.Edits.{sets}
use Rattle.std.proofs.Math.Seq.{length-sets}
use Rattle.laws.specs.Sets.{sets_append, sets_past}
use Rattle.laws.specs.Text.{ascii}
use Rattle.spelling.specs.Token.{TK_BLOB}
use Rattle.blank.specs.Blank.{blank, all_blank}
use Rattle.stream.specs.Stream.{Value, none, some, tight, opens, gap, gapped, blob, spelled_bit, written, valued_bit, added, left}
use Rattle.stream.specs.Sink.{State, most, count, pour, mark, step, given, between}

-- counting
pub count_none : (at : ℕ) → at ≤ most → count at 0 ≡ at
unfolding count
count_none at h = omega arith

pub count_fits : (at n : ℕ) → at + n ≤ most → count at n ≡ at + n
unfolding count
count_fits at n h = omega arith

pub count_full : (at n : ℕ) → most < at + n → count at n ≡ most
unfolding count
count_full at n h = omega arith

pub count_more : (at a b : ℕ) → count (count at a) b ≡ count at (a + b)
unfolding count
count_more at a b = omega arith

pub count_within : (at n : ℕ) → count at n ≤ most
unfolding count
count_within at n = omega arith

-- pouring
pub pour_none : (st : State) → st.0.at ≤ most → pour st [] ≡ st
unfolding pour
pour_none st h = rw (count_none st.0.at h)

-- where the second list begins: at the count, or past every output
begins : (l b : List ℕ) (at n : ℕ) → length l ≤ most → sets l (count at n) b ≡ sets l (at + n) b
begins l b at n h = by (leb (at + n) most) refl
  where
    by : (t : Bool) → leb (at + n) most ≡ t → sets l (count at n) b ≡ sets l (at + n) b
    by true e = rw (count_fits at n (leb-true (at + n) most e))
    by false e =
        let o : most < at + n = leb-false (at + n) most e in
        rw (count_full at n o) (sets_past b l most h ∙ sym (sets_past b l (at + n) (omega arith)))

pub pour_more : (st : State) (a b : List ℕ) → length st.1 ≤ most → pour (pour st a) b ≡ pour st (a ++ b)
unfolding pour
pour_more st a b h =
    rw (length-append a b, count_more st.0.at (length a) (length b), sets_append a b st.1 st.0.at)
    (ap (λ (l : List ℕ). (record { spaced = st.0.spaced; at = count st.0.at (length a + length b) }, l))
    (begins (sets st.1 st.0.at a) b st.0.at (length a) (rw (length-sets st.1 st.0.at a) h)))

pub pour_length : (st : State) (a : List ℕ) → length (pour st a).1 ≡ length st.1
unfolding pour
pour_length st a = length-sets st.1 st.0.at a

-- the ways through the core
mark_same : (st : State) (b : Bool) → st.0.spaced ≡ b → mark st b ≡ st
unfolding mark
mark_same st b e = rw (← e)

or_not : (s t : Bool) → (s || t) ≡ true → (s || not t) ≡ s
or_not true t h = refl
or_not false true h = refl
or_not false false h = sym h

pub gap_none : (st : State) (k : ℕ) (b : Bool) → st.0.at ≤ most → b ≡ tight k → (st.0.spaced || b) ≡ true → st ≡ mark (pour st (gap st.0.spaced k)) (gapped st.0.spaced k)
unfolding gap gapped
gap_none st k b h e t =
    let o : (st.0.spaced || not b) ≡ st.0.spaced = or_not st.0.spaced b t in
    rw (← e, t, o, pour_none st h) (sym (mark_same st st.0.spaced refl))

or_both : (s t : Bool) → (s || t) ≡ false → (s || not t) ≡ true
or_both true t h = refl
or_both false true h = sym h
or_both false false h = refl

pub gap_one : (st st' : State) (k : ℕ) (b : Bool) → b ≡ tight k → (st.0.spaced || b) ≡ false → st' ≡ pour st (ascii " ") → mark st' true ≡ mark (pour st (gap st.0.spaced k)) (gapped st.0.spaced k)
unfolding gap gapped
gap_one st st' k b e t p = rw (← e, t, or_both st.0.spaced b t, p)

pub spell_none : (st : State) (k : ℕ) (w : List ℕ) → st.0.at ≤ most → length w ≡ 0 → st ≡ mark (pour st w) (spelled_bit st.0.spaced k w)
unfolding spelled_bit
spell_none st k [] h e = rw (pour_none st h) (sym (mark_same st st.0.spaced refl))
spell_none st k (x ∷ w) h e = absurd (suc-ne-zero (length w) e)

pub spell_one : (st st' : State) (k : ℕ) (w : List ℕ) (b : Bool) → (length w ≡ 0 → ⊥) → st' ≡ pour st w → b ≡ opens k → mark st' b ≡ mark (pour st w) (spelled_bit st.0.spaced k w)
unfolding spelled_bit
spell_one st st' k [] b h p e = absurd (h refl)
spell_one st st' k (x ∷ w) b h p e = rw (p, e)

pub value_one : (st st' : State) (v : List ℕ) (w : Value) (b : Bool) → w ≡ some v → st' ≡ pour st v → b ≡ all_blank v → mark st' b ≡ mark (pour st (written w)) (valued_bit st.0.spaced w)
unfolding written valued_bit
value_one st st' v w b e p q = rw (e, p, q)

pub value_none : (st : State) (w : Value) → st.0.at ≤ most → w ≡ none → st ≡ mark (pour st (written w)) (valued_bit st.0.spaced w)
unfolding written valued_bit
value_none st w h e = rw (e, pour_none st h) (sym (mark_same st st.0.spaced refl))

pub blob_one : (st st' : State) (v : List ℕ) (w : Value) → w ≡ some v → st' ≡ pour st v → st' ≡ pour st (blob w)
unfolding blob
blob_one st st' v w e p = rw (e, p)

pub blob_none : (st st' : State) (w : Value) → w ≡ none → st' ≡ pour st (ascii "X''") → st' ≡ pour st (blob w)
unfolding blob
blob_none st st' w e p = rw (e, p)

-- the bit is set beside what is poured, and the next list goes on behind it
beside : (st : State) (x : Bool) (b : List ℕ) → pour (mark st x) b ≡ mark (pour st b) x
unfolding pour mark
beside st x b = refl

pub then : (st : State) (a b : List ℕ) (x : Bool) → length st.1 ≤ most → pour (mark (pour st a) x) b ≡ mark (pour st (a ++ b)) x
then st a b x h = beside (pour st a) x b ∙ ap (λ (s : State). mark s x) (pour_more st a b h)

again : (st : State) (a b : Bool) → mark (mark st a) b ≡ mark st b
unfolding mark
again st a b = refl

the_bit : (st : State) (b : Bool) → (mark st b).0.spaced ≡ b
unfolding mark
the_bit st b = refl

pub step_blob : (st t u : State) (k : ℕ) (w : List ℕ) (v : Value) → length st.1 ≤ most
    → t ≡ mark (pour st (gap st.0.spaced k)) (gapped st.0.spaced k) → k ≡ TK_BLOB → u ≡ pour t (blob v) → u ≡ step st k w v
unfolding step added left
step_blob st t u k w v h g e p =
    let s = st.0.spaced in
    rw (eq-eqb k TK_BLOB e, p, g, then st (gap s k) (blob v) (gapped s k) h)

pub step_other : (st t u r : State) (k : ℕ) (w : List ℕ) (v : Value) → length st.1 ≤ most
    → t ≡ mark (pour st (gap st.0.spaced k)) (gapped st.0.spaced k) → (k ≡ TK_BLOB → ⊥)
    → u ≡ mark (pour t w) (spelled_bit t.0.spaced k w) → r ≡ mark (pour u (written v)) (valued_bit u.0.spaced v) → r ≡ step st k w v
unfolding step added left mark
step_other st t u r k w v h g e p q =
    let s = st.0.spaced in
    let b = spelled_bit (gapped s k) k w in
    let u' : u ≡ mark (pour st (gap s k ++ w)) b =
    rw (p, g, the_bit (pour st (gap s k)) (gapped s k), then st (gap s k) w (gapped s k) h) (again (pour st (gap s k ++ w)) (gapped s k) b) in
    rw (ne_eqb k TK_BLOB e, q, u', the_bit (pour st (gap s k ++ w)) b, then st (gap s k ++ w) (written v) b h, append_assoc)
    (again (pour st (gap s k ++ (w ++ written v))) b (valued_bit b v))

-- what holds of a token's bytes taken whole holds of them
pub taken_whole : (r st : State) (k : ℕ) (has : Bool) (w v w' v' : List ℕ) → w' ≡ w → v' ≡ v → r ≡ step st k w' (given has v') → r ≡ step st k w (given has v)
taken_whole r st k has w v w' v' e f p = p ∙ ap (λ x. step st k x (given has v')) e ∙ ap (λ x. step st k w (given has x)) f

-- a value between quotes: its pieces are poured one behind the other, and it is no blank one
pub quotes_poured : (u x y z : State) (v : List ℕ) → length u.1 ≤ most → x ≡ pour u (ascii "'") → y ≡ pour x v → z ≡ pour y (ascii "'") → z ≡ pour u (between v)
quotes_poured u x y z v h p q r =
    let l : length x.1 ≤ most = rw (p, pour_length u (ascii "'")) h in
    let m : z ≡ pour x (v ++ ascii "'") = rw (r, q) (pour_more x v (ascii "'") l) in
    rw (m, p, pour_more u (ascii "'") (v ++ ascii "'") h)

pub quotes_one : (u z : State) (v : List ℕ) → z ≡ pour u (between v) → mark z false ≡ mark (pour u (written (some (between v)))) (valued_bit u.0.spaced (some (between v)))
unfolding written valued_bit all_blank blank
quotes_one u z v h = rw h
