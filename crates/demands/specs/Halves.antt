-- 02, x: two halves make a whole. A script may be split between calls at any token, if the record and the output that a call leaves are handed to the next:
-- the bytes and the end state (bit, count, line, column) are those of one list. From a record with the other bit the text differs by one space at most.
use Rattle.std.specs.Prelude.{ℕ, suc, ◌+◌, ◌^◌, ◌≤◌, ◌<◌, ◌≡◌, refl, List, [], ◌∷◌, ◌++◌, Bool, true, false, not, cond, ◌&&◌, eqb, length, take, drop}
use Rattle.std.proofs.Common.{arith, ◌∙◌, ap, sym, append_assoc, length-append}
use Rattle.std.proofs.lemmas.Bool.{eqb-false, not-true}
use Rattle.laws.specs.Among.{all, each}
use Rattle.laws.specs.Below.{below}
use Rattle.laws.specs.Bytes.{same}
use Rattle.laws.specs.Text.{ascii}
use Rattle.blank.specs.Blank.{blank, all_blank}
use Rattle.spelling.specs.Rows.{rows}
use Rattle.spelling.specs.Spelling.{row, spelling}
use Rattle.spelling.specs.Token.{TK_SEMI, TK_RP, TK_COMMA, TK_DOT, TK_LBRACKET, TK_RBRACKET}
use Rattle.stream.specs.Stream.{Token, tight, opens, gap, gapped, blob, spelled_bit, written, valued_bit, added, left, adds, leaves, text, bit}
use Rattle.stream.specs.Shapes.{spelled_no_blob, opened}
use Rattle.stream.specs.Cases.{Case, cases}
use Rattle.append.specs.declared.Stream.{Stream}
use Rattle.append.specs.Laws.{unique}
use Rattle.append.specs.Lists.{Lent, tokens_of, text_from, AppendsAll, AllFine, Held, held_on, succeeds, output_length}
use Rattle.append.proofs.Lists.{appended, all_succeed}
use Rattle.append.specs.Lists.{none as no-append, one as one-append}
use Rattle.wire.specs.Wire.{well_formed, unpacked}
use Rattle.wire.specs.Laws.{unique as unique-call}
use Rattle.wire.specs.Lists.{CrossesAll, all_append, all_cross, stays_well}
use Rattle.wire.specs.Lists.{none as no_call, one as one-call}

-- ---- 1. one list, and then another from the state left
-- appending ls leaves mid and half, appending ms from there end and whole; and so does appending both joined
pub record Halves (rec : Stream) (out : List ℕ) (ls ms : List Lent) : Type 0 where
  pub mid : Stream
  pub half : List ℕ
  pub end : Stream
  pub whole : List ℕ
  pub first : AppendsAll rec out ls mid half
  pub second : AppendsAll mid half ms end whole
  pub both : AppendsAll rec out (ls ++ ms) end whole

joined : {rec mid end : Stream} {out half whole : List ℕ} {ls ms : List Lent} → AppendsAll rec out ls mid half → AppendsAll mid half ms end whole
    → AppendsAll rec out (ls ++ ms) end whole
joined no-append ys = ys
joined (one-append x xs) ys = one-append x (joined xs ys)

text_joined : (b : Bool) (ts us : List Token) → text b (ts ++ us) ≡ text b ts ++ text (bit b ts) us
unfolding text bit
text_joined b [] us = refl
text_joined b (t ∷ ts) us = rw (text_joined (leaves b t) ts us) (sym (append_assoc (adds b t) (text (leaves b t) ts) (text (bit (leaves b t) ts) us)))

tokens_joined : (ls ms : List Lent) → tokens_of (ls ++ ms) ≡ tokens_of ls ++ tokens_of ms
tokens_joined [] ms = refl
tokens_joined (l ∷ ls) ms = rw (tokens_joined ls ms)

held_all : {rec rec' : Stream} {out out' : List ℕ} {ls : List Lent} → Held rec → AppendsAll rec out ls rec' out' → Held rec'
held_all h no-append = h
held_all h (one-append x xs) = held_all (held_on (succeeds x)) xs

length_all : {rec rec' : Stream} {out out' : List ℕ} {ls : List Lent} → AppendsAll rec out ls rec' out' → length out' ≡ length out
length_all no-append = refl
length_all (one-append x xs) = length_all xs ∙ output_length (succeeds x)

joined_length : (rec : Stream) (ls ms : List Lent)
    → length (text_from rec (ls ++ ms)) ≡ length (text rec.spaced (tokens_of ls)) + length (text (bit rec.spaced (tokens_of ls)) (tokens_of ms))
joined_length rec ls ms =
    let a = text rec.spaced (tokens_of ls) in
    let b = text (bit rec.spaced (tokens_of ls)) (tokens_of ms) in
    ap length (ap (text rec.spaced) (tokens_joined ls ms) ∙ text_joined rec.spaced (tokens_of ls) (tokens_of ms)) ∙ length-append a b

-- for all lists of known tokens with valid values, and room enough for the text of both
pub two_halves : (rec : Stream) (out : List ℕ) {ls ms : List Lent} → Held rec → AllFine ls → AllFine ms → rec.count + length (text_from rec (ls ++ ms)) ≤ length out
    → Halves rec out ls ms
two_halves rec out {ls} {ms} h f g room =
    let n = joined_length rec ls ms in
    let one = all_succeed rec out h f (omega arith) in
    let left = appended one.2 in
    let fits : one.0.count + length (text_from one.0 ms) ≤ length one.1 = rw left.spaced (omega (arith, left.count, length_all one.2)) in
    let two = all_succeed one.0 one.1 (held_all h one.2) g fits in
    record { mid = one.0; half = one.1; end = two.0; whole = two.1; first = one.2; second = two.2; both = joined one.2 two.2 }

-- and no other outcome is possible
pub one_end : {rec r s : Stream} {out o p : List ℕ} {ls : List Lent} → AppendsAll rec out ls r o → AppendsAll rec out ls s p → (r ≡ s) × (o ≡ p)
one_end no-append no-append = (refl, refl)
one_end {rec} {out = out} (one-append {mid = m} {o = h} {l = l} {n = a} x xs) (one-append {mid = n} {o = k} {n = b} y ys) =
    let u = unique rec out l.0 l.1 _ _ m n h k x y in
    one_end xs (rw (u.1.0, u.1.1) ys)

-- the same of kinyandoma_append, where all answers are below 2^32: what is kept between the calls is the record's bytes and the output
pub record HalvesCrossed (r out : List ℕ) (ls ms : List Lent) : Type 0 where
  pub mid : List ℕ
  pub half : List ℕ
  pub end : List ℕ
  pub whole : List ℕ
  pub first : CrossesAll r out ls mid half
  pub second : CrossesAll mid half ms end whole
  pub both : CrossesAll r out (ls ++ ms) end whole

joined_calls : {r mid end out half whole : List ℕ} {ls ms : List Lent} → CrossesAll r out ls mid half → CrossesAll mid half ms end whole → CrossesAll r out (ls ++ ms) end whole
joined_calls no_call ys = ys
joined_calls (one-call x low xs) ys = one-call x low (joined_calls xs ys)

pub two_halves_crossed : (r out : List ℕ) {ls ms : List Lent} → well_formed r ≡ true → Held (unpacked r) → AllFine ls → AllFine ms
    → (unpacked r).count + length (text_from (unpacked r) (ls ++ ms)) ≤ length out → length out < 2 ^ 64 → HalvesCrossed r out ls ms
two_halves_crossed r out {ls} {ms} w h f g room fits =
    let n = joined_length (unpacked r) ls ms in
    let one = all_cross r out w h f (omega arith) fits in
    let all = all_append one.2 fits in
    let left = appended all in
    let same = length_all all in
    let more : (unpacked one.0).count + length (text_from (unpacked one.0) ms) ≤ length one.1 = rw left.spaced (omega (arith, left.count, same)) in
    let two = all_cross one.0 one.1 (stays_well one.2 fits w) (held_all h all) g more (omega arith) in
    record { mid = one.0; half = one.1; end = two.0; whole = two.1; first = one.2; second = two.2; both = joined_calls one.2 two.2 }

pub one_end_crossed : {r s t out o p : List ℕ} {ls : List Lent} → CrossesAll r out ls s o → CrossesAll r out ls t p → (s ≡ t) × (o ≡ p)
one_end_crossed no_call no_call = (refl, refl)
one_end_crossed {r} {out = out} (one-call {m = m} {o = h} {l = l} x i xs) (one-call {m = n} {o = k} y j ys) =
    let u = unique-call r out l.0 l.1 _ _ m n h k x y in
    one_end_crossed xs (rw (u.1.0, u.1.1) ys)

-- ---- 2. three lists, in either grouping
pub grouped : {rec r : Stream} {out o : List ℕ} (ls ms ns : List Lent) → AppendsAll rec out ((ls ++ ms) ++ ns) r o → AppendsAll rec out (ls ++ (ms ++ ns)) r o
grouped ls ms ns x = rw (append_assoc ls ms ns) at x

-- ---- 3. from the two values of the bit
-- each of the six kinds without a space has a spelling
abbrev tight_kinds : List ℕ
tight_kinds = TK_COMMA ∷ TK_SEMI ∷ TK_RP ∷ TK_DOT ∷ TK_LBRACKET ∷ TK_RBRACKET ∷ []

spells : ℕ → Bool
spells k = not (eqb (length (spelling k)) 0)

all_spell : all spells tight_kinds ≡ true
unfolding spells spelling row rows
all_spell = refl

tight_spelled : (k : ℕ) → tight k ≡ true → length (spelling k) ≡ 0 → ⊥
unfolding tight spells
tight_spelled k t = eqb-false (length (spelling k)) 0 (not-true (eqb (length (spelling k)) 0) (each spells k tight_kinds all_spell t))

-- so the bit that a token leaves does not depend on the bit before it
pub either_leaves : (t : Token) → leaves false t ≡ leaves true t
unfolding leaves left gapped
either_leaves t = by (tight t.kind) refl
  where
    by : (b : Bool) → tight t.kind ≡ b → leaves false t ≡ leaves true t
    by false e = rw e
    by true e =
        let k = t.kind in
        let s = tight_spelled k e in
        rw (spelled_no_blob k s, opened (not (tight k)) k (spelling k) s, opened true k (spelling k) s)

pub either_bit : (t : Token) (ts : List Token) → bit false (t ∷ ts) ≡ bit true (t ∷ ts)
unfolding bit
either_bit t ts = ap (λ (b : Bool). bit b ts) (either_leaves t)

-- and the texts of a list that is not empty differ by what stands before its first token: one space, exactly if its kind is not one of the six
pub either_text : (t : Token) (ts : List Token) → text false (t ∷ ts) ≡ cond (tight t.kind) [] (ascii " ") ++ text true (t ∷ ts)
unfolding text adds added gap
either_text t ts = rw (either_leaves t) (append_assoc (cond (tight t.kind) [] (ascii " ")) _ (text (leaves true t) ts))

-- of the empty list both are empty, and each bit stays
pub either_none : (text false [] ≡ text true []) × (bit false [] ≡ false) × (bit true [] ≡ true)
unfolding text bit
either_none = (refl, refl, refl)

-- ---- 4. S1 to S12, S2, S6, S8 and S10 among them, cut in two at every point
cut_at : Case → ℕ → Bool
cut_at c k = same (text true (take k c.0) ++ text (bit true (take k c.0)) (drop k c.0)) c.1

cut_everywhere : List Case → Bool
cut_everywhere [] = true
cut_everywhere (c ∷ cs) = below (cut_at c) (suc (length c.0)) && cut_everywhere cs

cases_cut : cut_everywhere cases ≡ true
unfolding cut_everywhere cut_at cases text bit adds leaves added left gap gapped tight opens blob spelled_bit written valued_bit all_blank blank spelling row rows
cases_cut = refl
