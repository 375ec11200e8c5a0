-- Laws of the tokens that are laid at once: what they write, what bit they leave, and that no refusal fits.
use Rattle.std.specs.Prelude.{ℕ, ◌+◌, ◌-◌, ◌%◌, ◌≤◌, ◌<◌, ◌≡◌, refl, List, [], ◌∷◌, ◌++◌, map, Bool, Option, Some, None, Ok, true, false, not, cond, ◌&&◌, ◌||◌, eqb, leb, ltb, get_or}
use Rattle.std.proofs.Common.{arith, ◌∙◌, ap, sym, length-append}
use Rattle.std.proofs.Math.Bool
use Rattle.std.proofs.Math.Bool.{and-false, or-false}
use Rattle.std.proofs.Math.ListN.{length}
use Rattle.std.proofs.lemmas.List.Edits.{sets, sets-eq}
use borrow.Author.Tests.{le-ltb, le-leb, lt-leb, leb-true, leb-false, eq-eqb, ne_eqb, eqb-true, not-true, not-false}
use Rattle.laws.specs.Among.{among, all, each}
use Rattle.laws.specs.Below.{below, at}
use Rattle.laws.specs.Tests.{and_left, and_right, as_one, beq}
use Rattle.utf8.specs.Plain.{plain, few, all_plain, no_newline, plain_text}
use Rattle.blank.specs.Blank.{all_blank}
use Rattle.spelling.specs.Token.{TK_ID}
use Rattle.spelling.specs.Rows.{rows}
use Rattle.spelling.specs.Spelling.{row, known, spelling}
use Rattle.spelling.specs.Laws.{count, everywhere, silent}
use Rattle.stream.specs.Stream.{tight, opens, adds, leaves}
use Rattle.stream.specs.Shapes.{silent_kind, no_length, silent_spelling, silent_loose, silent_no_blob, spelled_no_blob, word_tight, word_opens, word_added, value_added, word_left, value_left}
use Rattle.store.specs.Laid.{lead, room_for, laid_to, laid_out}
use Rattle.store.specs.Laws as store
use Rattle.store.specs.Laws.{to_not_apart, at_most_one, laid_no, same_end}
use Rattle.append.specs.declared.Stream.{Stream}
use Rattle.append.specs.Append.{Appends, number_of, present, token_of, news, longest, unsound, room, record_after, output_after}
use Rattle.append.specs.Ends.{token_lines, token_column}
use Rattle.append.specs.Lists.{Held}
use Rattle.append.specs.Steps.{Checks}
use Rattle.append.specs.Laws.{sound_is, empty, fine, accepted}
use Rattle.position.specs.Position.{newline, lines, column}
use Rattle.stream.specs.declared.Sink.{Sink}
use Rattle.quick.specs.Quick.{other_kinds, alone_words, alone, marked, tight_marks, opening_marks, value_may, word_may, quick, quick_out, Comes, on_line}

-- ---- the table: who has a spelling is known, and one of one byte is a mark of the sets
shaped : ℕ → Bool
shaped k =
    eqb (length (spelling k)) 0
    || (known k
    && (not (eqb (length (spelling k)) 1)
    || (Bool.beq (tight k) (marked tight_marks (get_or (spelling k) 0 0)) && Bool.beq (opens k) (marked opening_marks (get_or (spelling k) 0 0)))))

shaped_below : below shaped count ≡ true
unfolding shaped known spelling row rows tight opens marked
shaped_below = refl

shaped_all : (k : ℕ) → shaped k ≡ true
unfolding shaped
shaped_all k = everywhere (λ n. shaped n ≡ true) k (at shaped count shaped_below k) (λ l. rw (silent k (omega arith)))

module _ (k : ℕ) (s : length (spelling k) ≡ 0 → ⊥) where
  has : known k && (not (eqb (length (spelling k)) 1)
      || (Bool.beq (tight k) (marked tight_marks (get_or (spelling k) 0 0)) && Bool.beq (opens k) (marked opening_marks (get_or (spelling k) 0 0)))) ≡ true
  unfolding shaped
  has = rw (ne_eqb (length (spelling k)) 0 s) at (shaped_all k)

  pub spelled_known : known k ≡ true
  spelled_known = and_left (known k) _ has

  module _ (one : length (spelling k) ≡ 1) where
    of_one : Bool.beq (tight k) (marked tight_marks (get_or (spelling k) 0 0)) && Bool.beq (opens k) (marked opening_marks (get_or (spelling k) 0 0)) ≡ true
    of_one = rw (eq-eqb (length (spelling k)) 1 one) at (and_right (known k) _ has)

    mark_tight : tight k ≡ marked tight_marks (get_or (spelling k) 0 0)
    mark_tight = beq _ _ (and_left (Bool.beq (tight k) (marked tight_marks (get_or (spelling k) 0 0))) _ of_one)

    mark_opens : opens k ≡ marked opening_marks (get_or (spelling k) 0 0)
    mark_opens = beq _ _ (and_right (Bool.beq (tight k) (marked tight_marks (get_or (spelling k) 0 0))) _ of_one)

-- ---- what a spelling alone writes, and the bit that it leaves
module _ (rec : Stream) (token : ℕ) (p : present token ≡ false) (s : length (spelling (number_of token)) ≡ 0 → ⊥) where
  word_news : lead (rec.spaced || tight (number_of token)) ++ spelling (number_of token) ≡ news rec token []
  unfolding news adds token_of
  word_news = let k = number_of token in rw p (word_added rec.spaced k (spelled_no_blob k s) (spelling k))

  word_leaves : opens (number_of token) ≡ leaves rec.spaced (token_of token [])
  unfolding leaves token_of
  word_leaves = let k = number_of token in rw p (word_left rec.spaced k (spelling k) (spelled_no_blob k s) s)

-- ---- the token words of kinds with a value: bit 15, and the kind
with_bit : (token : ℕ) → 0x8000 ≤ token → token < 0x10000 → (ks : List ℕ) → among token (map (λ k. 0x8000 + k) ks) ≡ among (number_of token) ks
unfolding number_of
with_bit token h l [] = refl
with_bit token h l (k ∷ ks) = rw (with_bit token h l ks, as_one (eqb token (0x8000 + k)) (eqb (token % 0x8000) k) to from)
  where
    to : eqb token (0x8000 + k) ≡ true → eqb (token % 0x8000) k ≡ true
    to e = let q = eqb-true token (0x8000 + k) e in eq-eqb (token % 0x8000) k (omega arith)

    from : eqb (token % 0x8000) k ≡ true → eqb token (0x8000 + k) ≡ true
    from e = let q = eqb-true (token % 0x8000) k e in eq-eqb token (0x8000 + k) (omega arith)

without_bit : (token : ℕ) → token < 0x8000 → (ks : List ℕ) → among token (map (λ k. 0x8000 + k) ks) ≡ false
without_bit token h [] = refl
without_bit token h (k ∷ ks) = rw (ne_eqb token (0x8000 + k) (λ e. omega arith), without_bit token h ks)

-- the three ways through the test
pub is_id : (token : ℕ) → token ≡ 0x8000 + TK_ID → true ≡ alone token
unfolding alone
is_id token e = rw (eq-eqb token (0x8000 + TK_ID) e)

pub is_bare : (token : ℕ) (p : Bool) → p ≡ present token → not p ≡ true → false ≡ alone token
unfolding alone present
is_bare token p e n = sym (without_bit token (leb-false 0x8000 token (sym e ∙ not-true p n)) (TK_ID ∷ other_kinds))

pub is_other : (token : ℕ) (p o : Bool) (k : ℕ) → (token ≡ 0x8000 + TK_ID → ⊥) → token < 0x10000 → p ≡ present token → not p ≡ false → k ≡ number_of token → o ≡ among k other_kinds
    → o ≡ alone token
unfolding alone present
is_other token p o k i l e n ek eo =
    let h = leb-true 0x8000 token (sym e ∙ not-false p n) in
    rw (ne_eqb token (0x8000 + TK_ID) i, with_bit token h l other_kinds, ← ek) eo

-- ---- and what a value alone does
shaped_alone : ℕ → Bool
shaped_alone token = (present token && known (number_of token)) && silent_kind (number_of token)

alone_all : all shaped_alone alone_words ≡ true
unfolding shaped_alone present number_of known silent_kind spelling row rows tight
alone_all = refl

module _ (token : ℕ) (a : alone token ≡ true) where
  kind : ℕ
  kind = number_of token

  is_alone : (present token && known kind) && silent_kind kind ≡ true
  unfolding alone shaped_alone kind
  is_alone = each shaped_alone token alone_words alone_all a

  alone_present : present token ≡ true
  alone_present = and_left (present token) (known kind) (and_left (present token && known kind) _ is_alone)

  alone_known : known (number_of token) ≡ true
  unfolding kind
  alone_known = and_right (present token) (known kind) (and_left (present token && known kind) _ is_alone)

  alone_silent : silent_kind kind ≡ true
  alone_silent = and_right (present token && known kind) _ is_alone

  value_news : (rec : Stream) (value : List ℕ) → lead rec.spaced ++ value ≡ news rec token value
  unfolding kind news adds token_of
  value_news rec value =
      let n = silent_no_blob kind alone_silent in
      rw (alone_present, silent_spelling kind alone_silent, ← value_added rec.spaced kind n value, silent_loose kind alone_silent, or-false rec.spaced)

  value_leaves : (rec : Stream) (value : List ℕ) → all_blank value ≡ leaves rec.spaced (token_of token value)
  unfolding kind leaves token_of
  value_leaves rec value = rw alone_present (value_left rec.spaced kind (spelling kind) value (silent_no_blob kind alone_silent))

-- ---- what `lay_all` did is what comes of the bytes
none : (t : Bool) (d : ℕ) (l : Option ℕ) → l ≡ cond t (Some d) None → l ≡ None → t ≡ false
none true d l e n = absurd (to_not_apart d (sym e ∙ n))
none false d l e n = refl

all_of : (t : Bool) (b : Bool) (c d : ℕ) (l : Option ℕ) → l ≡ cond t (Some d) None → l ≡ Some c
    → ◌≡◌ {A = Option Sink} (Some (record { spaced = b; at = c })) (cond t (Some (record { spaced = b; at = d })) None)
all_of true b c d l e g = rw (same_end c d (sym g ∙ e))
all_of false b c d l e g = absurd (to_not_apart c (sym g ∙ e))

pub nothing : (may : Bool) (rec : Stream) (out bytes : List ℕ) (bit : Bool) → may ≡ false → Comes may rec out bytes bit None out
unfolding quick quick_out
nothing may rec out bytes bit e = rw e (refl, refl)

module _ (rec : Stream) (x : Bool) (v out out' : List ℕ) (l : Option ℕ) (e : l ≡ laid_to rec.count (length out) x v) (f : out' ≡ laid_out rec.count out x v) where
  pub laid_none : (bytes : List ℕ) (bit : Bool) → l ≡ None → Comes (room_for rec.count (length out) v) rec out bytes bit None out'
  unfolding laid_to
  laid_none bytes bit n =
      rw (laid_no rec.count x v out out' l e f n)
      (nothing _ rec out bytes bit (none (room_for rec.count (length out) v) (rec.count + length (lead x ++ v)) l e n))

  pub laid_all : (closed y bit : Bool) (c : ℕ) → l ≡ Some c → x ≡ closed → y ≡ bit
      → Comes (room_for rec.count (length out) v) rec out (lead closed ++ v) bit (Some (record { spaced = y; at = c })) out'
  unfolding laid_to laid_out quick quick_out
  laid_all closed y bit c g p q =
      rw (← p, ← q) (all_of (room_for rec.count (length out) v) y c (rec.count + length (lead x ++ v)) l e g, f)

-- ---- a value: where it may be laid, and that it is what the token writes
module _ (sized : Bool) (rec : Stream) (size token : ℕ) (value : List ℕ) where
  pub not_alone : alone token ≡ false → value_may sized rec size token value ≡ false
  unfolding value_may
  not_alone e = rw e

  pub not_plain : sized && all_plain value ≡ false → value_may sized rec size token value ≡ false
  unfolding value_may
  not_plain e = rw (e, and-false)

  pub over_long : longest < length value → value_may sized rec size token value ≡ false
  unfolding value_may
  over_long h = rw (lt-leb (length value) longest h, and-false, and-false)

  may_be : alone token ≡ true → sized && all_plain value ≡ true → length value ≤ longest → value_may sized rec size token value ≡ room_for rec.count size value
  unfolding value_may
  may_be a p h = rw (a, p, le-leb (length value) longest h)

pub value_comes : (sized : Bool) (rec : Stream) (out : List ℕ) (token : ℕ) (value : List ℕ) (r : Option Sink) (out' : List ℕ) → alone token ≡ true → sized && all_plain value ≡ true
    → length value ≤ longest
    → Comes (room_for rec.count (length out) value) rec out (lead rec.spaced ++ value) (all_blank value) r out'
    → Comes (value_may sized rec (length out) token value) rec out (news rec token value) (leaves rec.spaced (token_of token value)) r out'
value_comes sized rec out token value r out' a p h c =
    rw (may_be sized rec (length out) token value a p h, ← value_news token a rec value, ← value_leaves token a rec value) c

-- few bytes are not over-long
pub few_short : (value : List ℕ) → few value && all_plain value ≡ true → length value ≤ longest
few_short value e = omega (arith, leb-true (length value) 16 (and_left (few value) (all_plain value) e))

-- ---- a spelling
pub with_value : (rec : Stream) (size token : ℕ) → present token ≡ true → word_may rec size token ≡ false
unfolding word_may
with_value rec size token p = rw p

pub word_comes : (rec : Stream) (out : List ℕ) (token : ℕ) (w : List ℕ) (r : Option Sink) (out' : List ℕ) → w ≡ spelling (number_of token) → present token ≡ false
    → Comes (room_for rec.count (length out) w) rec out (news rec token []) (leaves rec.spaced (token_of token [])) r out'
    → Comes (word_may rec (length out) token) rec out (news rec token []) (leaves rec.spaced (token_of token [])) r out'
unfolding word_may
word_comes rec out token w r out' e p c = rw (p, ← e) c

module _ (rec : Stream) (out : List ℕ) (token : ℕ) (w : List ℕ) (r : Option Sink) (out' : List ℕ) (e : w ≡ spelling (number_of token)) (p : present token ≡ false) where
  bare_comes : (tight-is opens-is : Bool) → (length w ≡ 0 → ⊥) → tight (number_of token) ≡ tight-is → opens (number_of token) ≡ opens-is
      → Comes (room_for rec.count (length out) w) rec out (lead (rec.spaced || tight-is) ++ w) opens-is r out'
      → Comes (room_for rec.count (length out) w) rec out (news rec token []) (leaves rec.spaced (token_of token [])) r out'
  bare_comes tight-is opens-is s t o c =
      let z : length (spelling (number_of token)) ≡ 0 → ⊥ = rw e at s in
      rw (← word_news rec token p z, ← word_leaves rec token p z, t, o, ← e) c

  pub mark_comes : length w ≡ 1
      → Comes (room_for rec.count (length out) w) rec out (lead (rec.spaced || marked tight_marks (get_or w 0 0)) ++ w) (marked opening_marks (get_or w 0 0)) r out'
      → Comes (room_for rec.count (length out) w) rec out (news rec token []) (leaves rec.spaced (token_of token [])) r out'
  mark_comes one c =
      let s : length (spelling (number_of token)) ≡ 0 → ⊥ = λ z. omega (arith, ap length e) in
      let o : length (spelling (number_of token)) ≡ 1 = rw e at one in
      bare_comes _ _ (λ z. omega arith) (rw e (mark_tight (number_of token) s o)) (rw e (mark_opens (number_of token) s o)) c

  pub longer_comes : (length w ≡ 0 → ⊥) → (length w ≡ 1 → ⊥) → Comes (room_for rec.count (length out) w) rec out (lead rec.spaced ++ w) false r out'
      → Comes (room_for rec.count (length out) w) rec out (news rec token []) (leaves rec.spaced (token_of token [])) r out'
  longer_comes s m c =
      let z : length (spelling (number_of token)) ≡ 0 → ⊥ = rw e at s in
      let n : length (spelling (number_of token)) ≡ 1 → ⊥ = rw e at m in
      bare_comes false false s (word_tight (number_of token) z n) (word_opens (number_of token) z n) (rw (or-false rec.spaced) c)

-- ---- a token that was laid was appended
not_done_apart : (s : Sink) → ◌≡◌ {A = Option Sink} (Some s) None → ⊥
not_done_apart s e = let z : ◌≡◌ {A = ℕ} 0 1 = cc in omega arith

same_left : (s t : Sink) → ◌≡◌ {A = Option Sink} (Some s) (Some t) → s ≡ t
same_left s t e = cc

was : (may : Bool) (s t : Sink) (out o bytes : List ℕ) (r : Option Sink) → r ≡ cond may (Some t) None → o ≡ cond may bytes out → r ≡ Some s → (may ≡ true) × ((s ≡ t) × (o ≡ bytes))
was true s t out o bytes r e f g = (refl, (same_left s t (sym g ∙ e), f))
was false s t out o bytes r e f g = absurd (not_done_apart s (sym g ∙ e))

was_not : (may : Bool) (t : Sink) (out o bytes : List ℕ) (r : Option Sink) → r ≡ cond may (Some t) None → o ≡ cond may bytes out → r ≡ None → o ≡ out
was_not true t out o bytes r e f g = absurd (not_done_apart t (sym e ∙ g))
was_not false t out o bytes r e f g = f

pub not_done : (may : Bool) (rec : Stream) (out bytes : List ℕ) (bit : Bool) (r : Option Sink) (out' : List ℕ) → Comes may rec out bytes bit r out' → r ≡ None → out' ≡ out
unfolding quick quick_out
not_done may rec out bytes bit r out' c g = was_not may _ out out' (sets out rec.count bytes) r c.0 c.1 g

-- no plain byte is a newline
plain_lines : (v : List ℕ) → all_plain v ≡ true → lines v ≡ 0
unfolding all_plain lines
plain_lines [] t = refl
plain_lines (x ∷ v) t =
    let z : newline x ≡ 0 = rw (no_newline x (and_left (plain x) (all_plain v) t)) in
    omega (arith, plain_lines v (and_right (plain x) (all_plain v) t))

-- what is known of a token that may be laid at once
record May (rec : Stream) (out : List ℕ) (token : ℕ) (value : List ℕ) : Type 0 where
  fits : rec.count + length (news rec token value) ≤ length out
  checks : Checks rec (length out) token value (Ok tt)
  lent : not (present token) && ltb 0 (length value) ≡ false
  no_lines : lines value ≡ 0

-- the call is told the sink where it stands: that is the record on the same line
pub record Laid_is (rec : Stream) (out : List ℕ) (token : ℕ) (value : List ℕ) (s : Sink) (out' : List ℕ) : Type 0 where
  pub on : rec.count ≤ s.at
  pub within : s.at ≤ length out
  pub appends : Appends rec out token value (Ok (s.at - rec.count)) (on_line rec s) out'

done : (may : Bool) (rec : Stream) (out : List ℕ) (token : ℕ) (value : List ℕ) (s : Sink) (r : Option Sink) (out' : List ℕ) → (may ≡ true → May rec out token value)
    → Comes may rec out (news rec token value) (leaves rec.spaced (token_of token value)) r out' → r ≡ Some s → Laid_is rec out token value s out'
unfolding quick quick_out room record_after output_after news
done may rec out token value s r out' k c g =
    let w = was may s _ out out' (sets out rec.count (news rec token value)) r c.0 c.1 g in
    let n = length (news rec token value) in
    let m = k w.0 in
    let counts : s.at ≡ rec.count + n = ap (λ (t : Sink). t.at) w.1.0 in
    let bits : s.spaced ≡ leaves rec.spaced (token_of token value) = ap (λ (t : Sink). t.spaced) w.1.0 in
    let d : s.at - rec.count ≡ n = omega arith in
    let line : rec.line ≡ rec.line + lines (news rec token value) = omega (arith, token_lines rec.spaced token value m.lent, m.no_lines) in
    let on-column : rec.column + n ≡ column rec.column (news rec token value) =
    sym (token_column rec.spaced token value m.lent rec.column ∙ rw (eq-eqb (lines value) 0 m.no_lines)) in
    record {
      on = omega arith;
      within = omega (arith, m.fits);
      appends =
          accepted rec out token value (Ok tt) (Ok (s.at - rec.count)) (on_line rec s) out' m.checks refl
          (record {
            answers = rw (d, le-ltb (length out - rec.count) n (omega (arith, m.fits)));
            leave = rw (d, counts, bits, ← line, ← on-column);
            writes = rw d (w.1.1 ∙ sets-eq (news rec token value) out rec.count m.fits);
          });
    }

-- a space and the bytes have room
led : (rec : Stream) (out v : List ℕ) (b : Bool) → room_for rec.count (length out) v ≡ true → rec.count + length (lead b ++ v) ≤ length out
led rec out v b e = omega (arith, store.room rec.count (length out) v e, length-append (lead b) v, at_most_one b)

-- the record is one that appends leave, where the count is within the output
sound : (rec : Stream) (size : ℕ) → Held rec → rec.count ≤ size → unsound rec size ≡ false
sound rec size h w = sound_is rec size (record { within = w; line = h.line; column = h.column })

value_may_lem : (sized : Bool) (rec : Stream) (out : List ℕ) (token : ℕ) (value : List ℕ) → Held rec → value_may sized rec (length out) token value ≡ true → May rec out token value
unfolding value_may kind
value_may_lem sized rec out token value h t =
    let long = leb (length value) longest in
    let may = room_for rec.count (length out) value in
    let a = and_left (alone token) ((sized && all_plain value) && (long && may)) t in
    let rest = and_right (alone token) ((sized && all_plain value) && (long && may)) t in
    let p = and_right sized (all_plain value) (and_left (sized && all_plain value) (long && may) rest) in
    let last = and_right (sized && all_plain value) (long && may) rest in
    let l = leb-true (length value) longest (and_left long may last) in
    let m = and_right long may last in
    let within : rec.count ≤ length out = omega (arith, store.room rec.count (length out) value m) in
    record {
      fits = rw (← value_news token a rec value) (led rec out value rec.spaced m);
      checks = fine rec (length out) token value true (sound rec (length out) h within) (sym (alone_known token a)) true refl (sym (alone_present token a)) refl (Ok tt) l (plain_text value p) refl;
      lent = rw (alone_present token a);
      no_lines = plain_lines value p;
    }

pub value_done : (sized : Bool) (rec : Stream) (out : List ℕ) (token : ℕ) (value : List ℕ) (s : Sink) (r : Option Sink) (out' : List ℕ) → Held rec
    → Comes (value_may sized rec (length out) token value) rec out (news rec token value) (leaves rec.spaced (token_of token value)) r out' → r ≡ Some s
    → Laid_is rec out token value s out'
value_done sized rec out token value s r out' h =
    done (value_may sized rec (length out) token value) rec out token value s r out' (value_may_lem sized rec out token value h)

word_may_lem : (rec : Stream) (out : List ℕ) (token : ℕ) → Held rec → word_may rec (length out) token ≡ true → May rec out token []
unfolding word_may lines
word_may_lem rec out token h t =
    let k = number_of token in
    let w = spelling k in
    let p = not-true (present token) (and_left (not (present token)) (room_for rec.count (length out) w) t) in
    let m = and_right (not (present token)) (room_for rec.count (length out) w) t in
    let some = store.some_bytes rec.count (length out) w m in
    let within : rec.count ≤ length out = omega (arith, store.room rec.count (length out) w m) in
    let z : length w ≡ 0 → ⊥ = λ e. omega (arith, e, some) in
    record {
      fits = rw (← word_news rec token p z) (led rec out w (rec.spaced || tight k) m);
      checks = empty rec (length out) token [] true (sound rec (length out) h within) (sym (spelled_known k z)) refl refl;
      lent = and-false (not (present token));
      no_lines = refl;
    }

pub word_done : (rec : Stream) (out : List ℕ) (token : ℕ) (value : List ℕ) (s : Sink) (r : Option Sink) (out' : List ℕ) → Held rec → length value ≡ 0
    → Comes (word_may rec (length out) token) rec out (news rec token []) (leaves rec.spaced (token_of token [])) r out' → r ≡ Some s
    → Laid_is rec out token value s out'
word_done rec out token value s r out' h n c g =
    rw (no_length value (eq-eqb (length value) 0 n))
    (done (word_may rec (length out) token) rec out token [] s r out' (word_may_lem rec out token h) c g)
