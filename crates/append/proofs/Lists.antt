-- Tokens appended one after another: what a list of appends that all succeed comes to, and that it does succeed where no refusal fits.
-- Each append takes up where the one before left off, so the bytes are those of `text` from the record's bit on, behind what stood there, and the
-- bit is theirs, and so are the lines and the column that they end in.
use Rattle.std.specs.Prelude.{ℕ, ◌+◌, ◌-◌, ◌≤◌, ◌<◌, ◌≡◌, refl, List, Bool, Ok, true, false, not, ◌&&◌, ltb, length}
use Rattle.std.proofs.Common.{arith, add-zero, ◌∙◌, ap, sym, append-nil, length-append, take-append-drop, le-ltb, ltb-true}
use Rattle.stream.specs.Stream.{adds, leaves, text, bit}
use Rattle.append.specs.declared.Stream.{Stream}
use Rattle.position.specs.Position.{lines, column}
use Rattle.position.specs.Laws.{lines_append, column_append}
use Rattle.append.specs.Laws.{sound_is}
use Rattle.append.specs.Append.{Answer, Appends, present, token_of, news, longest, broken, before, room, answer_to, record_after, output_after}
use Rattle.append.specs.Lists.{Lent, tokens_of, text_from, AppendsAll, none, one, Appended, Held, succeeds, put_both, output_length, Fine, AllFine, held_on}

pub appended : {rec : Stream} {out : List ℕ} {ls : List Lent} {rec' : Stream} {out' : List ℕ} → AppendsAll rec out ls rec' out' → Appended rec out (tokens_of ls) rec' out'
unfolding text bit lines column
appended {rec} {out} none = record { spaced = refl; count = sym (add-zero rec.count); line = sym (add-zero rec.line); column = refl; writes = rw append-nil (sym (take-append-drop rec.count out)) }
appended {rec} {out} {rec' = rec'} (one {mid = mid} {o = o} {l = l} {ls = ls} x xs) =
    let s = succeeds x in
    let r = appended xs in
    let t = token_of l.0 l.1 in
    let a = adds rec.spaced t in
    let b = text (leaves rec.spaced t) (tokens_of ls) in
    let fits : rec.count + length a ≤ length out = omega (arith, s.fits, s.count) in
    let count : rec'.count ≡ rec.count + length a + length b = r.count ∙ rw (s.spaced, s.count) in
    let line : rec'.line ≡ rec.line + lines a + lines b = r.line ∙ rw (s.spaced, s.line) in
    let col : rec'.column ≡ column (column rec.column a) b = r.column ∙ rw (s.spaced, s.column) in
    record {
      spaced = r.spaced ∙ ap (λ (c : Bool). bit c (tokens_of ls)) s.spaced;
      count = omega (arith, count, length-append a b);
      line = omega (arith, line, lines_append a b);
      column = col ∙ sym (column_append rec.column a b);
      writes = r.writes ∙ rw (count, s.spaced, s.writes, s.count) (put_both out a rec.count fits b);
    }

no_stray : (p : Bool) (n : ℕ) → (0 < n → p ≡ true) → not p && ltb 0 n ≡ false
no_stray true n h = refl
no_stray false n h = by (ltb 0 n) refl
  where
    by : (b : Bool) → ltb 0 n ≡ b → b ≡ false
    by true e = sym (h (ltb-true 0 n e))
    by false e = refl

added : (rec : Stream) (out : List ℕ) (l : Lent) → Held rec → Fine l → rec.count + length (news rec l.0 l.1) ≤ length out
    → let a : Answer = Ok (length (news rec l.0 l.1)) in Appends rec out l.0 l.1 a (record_after a rec l.0 l.1) (output_after a rec out l.0 l.1)
unfolding answer_to before room broken
added rec out l h f fits =
    let n = length (news rec l.0 l.1) in
    record {
      encoding = Ok tt;
      encoded = f.valid;
      answers = rw (sound_is rec (length out) (record { within = omega arith; line = h.line; column = h.column }), f.spelled, no_stray (present l.0) (length l.1) f.lent, le-ltb longest (length l.1) f.short, le-ltb (length out - rec.count) n (omega arith));
      leave = refl;
      writes = refl;
    }

-- and room for the whole text: all of them succeed
pub all_succeed : (rec : Stream) (out : List ℕ) {ls : List Lent} → Held rec → AllFine ls → rec.count + length (text_from rec ls) ≤ length out
    → (rec' : Stream) × (out' : List ℕ) × AppendsAll rec out ls rec' out'
unfolding text news record_after
all_succeed rec out h none fits = (rec, out, none)
all_succeed rec out h (one {l = l} {ls = ls} f fs) fits =
    let t = token_of l.0 l.1 in
    let room = length-append (adds rec.spaced t) (text (leaves rec.spaced t) (tokens_of ls)) in
    let x = added rec out l h f (omega arith) in
    let a : Answer = Ok (length (adds rec.spaced t)) in
    let rest = all_succeed (record_after a rec l.0 l.1) (output_after a rec out l.0 l.1) (held_on (succeeds x)) fs (omega (arith, output_length (succeeds x))) in
    (rest.0, rest.1, one x rest.2)
