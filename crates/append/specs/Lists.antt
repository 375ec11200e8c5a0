-- Tokens appended one after another: what a list of appends that all succeed comes to, and that it does succeed where no refusal fits.
-- Each append takes up where the one before left off, so the bytes are those of `text` from the record's bit on, behind what stood there, and the
-- bit is theirs, and so are the lines and the column that they end in.
use Rattle.std.specs.Prelude.{ℕ, ◌+◌, ◌-◌, ◌≤◌, ◌<◌, ◌≡◌, refl, List, [], ◌∷◌, ◌++◌, map, Bool, Ok, Err, true, false, not, cond, ◌&&◌, ltb, eqb, length, take, drop}
use Rattle.std.proofs.Common.{arith, ◌∙◌, ap, sym, append_assoc, length-append, length-drop, length-take-le, take_at, drop-drop, ltb-false}
use Rattle.std.proofs.Math.Seq.{drop-append-add}
use Rattle.utf8.specs.Rfc3629 as utf8
use Rattle.utf8.specs.Rfc3629.{Text, Encoding}
use Rattle.utf8.specs.Laws.{number_broken}
use Rattle.spelling.specs.Spelling.{known}
use Rattle.stream.specs.Stream.{Token, adds, leaves, text, bit}
use Rattle.append.specs.declared.Stream.{Stream}
use Rattle.append.specs.declared.Refusal.TheVariants.{Malformed, Unknown, TooLong, Broken, NoRoom}
use Rattle.position.specs.Position.{lines, column}
use Rattle.position.specs.Laws.{lines_length}
use Rattle.position.proofs.Laws.{column_length}
use Rattle.append.specs.Laws.{is_sound}
use Rattle.append.specs.Append.{Answer, Appends, fault, number_of, present, token_of, news, longest, broken, unsound, before, room, answer_to, record_after, output_after, number}

-- a token word and value bytes, as they are lent
abbrev pub Lent : Type 0
Lent = ℕ × List ℕ

abbrev pub tokens_of : List Lent → List Token
tokens_of ls = map (λ l. token_of l.0 l.1) ls

-- the text of tokens from the record's bit on
abbrev pub text_from : Stream → List Lent → List ℕ
text_from rec ls = text rec.spaced (tokens_of ls)

-- appends one after another, all of which succeed: from record and output to record and output
pub data AppendsAll : Stream → List ℕ → List Lent → Stream → List ℕ → Type 0 where
  none : {rec : Stream} {out : List ℕ} → AppendsAll rec out [] rec out
  one : {rec mid rec' : Stream} {out o out' : List ℕ} {l : Lent} {ls : List Lent} {n : ℕ}
      → Appends rec out l.0 l.1 (Ok n) mid o → AppendsAll mid o ls rec' out' → AppendsAll rec out (l ∷ ls) rec' out'

-- the tokens' text stands behind the count, their bit is left, so many bytes are counted, and line and column are where the text ends
pub record Appended (rec : Stream) (out : List ℕ) (ts : List Token) (rec' : Stream) (out' : List ℕ) : Type 0 where
  pub spaced : rec'.spaced ≡ bit rec.spaced ts
  pub count : rec'.count ≡ rec.count + length (text rec.spaced ts)
  pub line : rec'.line ≡ rec.line + lines (text rec.spaced ts)
  pub column : rec'.column ≡ column rec.column (text rec.spaced ts)
  pub writes : out' ≡ take rec.count out ++ text rec.spaced ts ++ drop rec'.count out

-- a record that appends leave: its line and its column are each within the count
pub record Held (rec : Stream) : Type 0 where
  pub line : rec.line ≤ rec.count
  pub column : rec.column ≤ rec.count

-- ---- one append that succeeds
pub record Succeeds (rec : Stream) (out : List ℕ) (t : Token) (rec' : Stream) (out' : List ℕ) : Type 0 where
  pub fits : rec'.count ≤ length out
  pub was : Held rec
  pub spaced : rec'.spaced ≡ leaves rec.spaced t
  pub count : rec'.count ≡ rec.count + length (adds rec.spaced t)
  pub line : rec'.line ≡ rec.line + lines (adds rec.spaced t)
  pub column : rec'.column ≡ column rec.column (adds rec.spaced t)
  pub writes : out' ≡ take rec.count out ++ adds rec.spaced t ++ drop rec'.count out

-- no number is 0 but that of success
fault_number : (e : Encoding) → utf8.number (Err (fault e)) ≡ 0 → ⊥
fault_number e z = number_broken (fault e) z

passed : (e : Encoding) (rec : Stream) (out : List ℕ) (token : ℕ) (value : List ℕ) → number (answer_to e rec out token value) ≡ 0
    → (rec.count + length (news rec token value) ≤ length out) × (answer_to e rec out token value ≡ Ok (length (news rec token value))) × Held rec
unfolding answer_to before room broken
passed e rec out token value =
    by (unsound rec (length out)) (not (known (number_of token))) (not (present token) && ltb 0 (length value)) (ltb longest (length value)) (eqb (utf8.number e) 0)
    (ltb (length out - rec.count) n) refl refl refl
  where
    n : ℕ
    n = length (news rec token value)

    by : (a b c d g f : Bool) → unsound rec (length out) ≡ a → eqb (utf8.number e) 0 ≡ g → ltb (length out - rec.count) n ≡ f
        → number (cond a (Err Malformed) (cond b (Err Unknown) (cond c (Err Unknown) (cond d (Err TooLong) (cond (not g) (Err (Broken (fault e))) (cond f (Err (NoRoom n)) (Ok n))))))) ≡ 0
        → (rec.count + n ≤ length out)
        × (cond a (Err Malformed) (cond b (Err Unknown) (cond c (Err Unknown) (cond d (Err TooLong) (cond (not g) (Err (Broken (fault e))) (cond f (Err (NoRoom n)) (Ok n)))))) ≡ Ok n)
        × Held rec
    by true b c d g f p q r z = absurd (omega arith)
    by false true c d g f p q r z = absurd (omega arith)
    by false false true d g f p q r z = absurd (omega arith)
    by false false false true g f p q r z = absurd (omega arith)
    by false false false false false f p q r z = absurd (fault_number e z)
    by false false false false true true p q r z = absurd (omega arith)
    by false false false false true false p q r z =
        let s = is_sound rec (length out) p in
        (omega (arith, s.within, ltb-false (length out - rec.count) n r), refl, record { line = s.line; column = s.column })

-- an answer of number 0 is a success
pub zero_added : {rec : Stream} {out : List ℕ} {token : ℕ} {value : List ℕ} {a : Answer} {rec' : Stream} {out' : List ℕ} → Appends rec out token value a rec' out'
    → number a ≡ 0 → a ≡ Ok (length (news rec token value))
zero_added {rec} {out} {token} {value} x z = x.answers ∙ (passed x.encoding rec out token value (ap number (sym x.answers) ∙ z)).1

pub succeeds : {rec : Stream} {out : List ℕ} {token : ℕ} {value : List ℕ} {n : ℕ} {rec' : Stream} {out' : List ℕ} → Appends rec out token value (Ok n) rec' out'
    → Succeeds rec out (token_of token value) rec' out'
unfolding record_after output_after news
succeeds {rec} {out} {token} {value} {n} {rec'} x =
    let m = length (news rec token value) in
    let p = passed x.encoding rec out token value (ap number (sym x.answers)) in
    let z : n ≡ m = let q : ◌≡◌ {A = Answer} (Ok n) (Ok m) = x.answers ∙ p.1 in cc in
    let c : rec'.count ≡ rec.count + m = ap (λ (s : Stream). s.count) x.leave ∙ ap (λ (k : ℕ). rec.count + k) z in
    record {
      fits = omega (arith, p.0);
      was = p.2;
      spaced = ap (λ (s : Stream). s.spaced) x.leave;
      count = c;
      line = ap (λ (s : Stream). s.line) x.leave;
      column = ap (λ (s : Stream). s.column) x.leave;
      writes = rw (c, ← z) x.writes;
    }

-- ---- bytes put behind the first k of an output
abbrev put : List ℕ → List ℕ → ℕ → List ℕ
put out a k = take k out ++ a ++ drop (k + length a) out

module _ (out a : List ℕ) (k : ℕ) (fits : k + length a ≤ length out) where
  head_length : length (take k out ++ a) ≡ k + length a
  head_length = length-append (take k out) a ∙ ap (λ (n : ℕ). n + length a) (length-take-le k out (omega arith))

  put_take : take (k + length a) (put out a k) ≡ take k out ++ a
  put_take = take_at (take k out ++ a) (drop (k + length a) out) (k + length a) head_length

  put_drop : (m : ℕ) → drop (k + length a + m) (put out a k) ≡ drop (k + length a + m) out
  put_drop m = rw (← head_length) (drop-append-add (take k out ++ a) (drop (length (take k out ++ a)) out) m ∙ drop-drop m (length (take k out ++ a)) out)

  put_length : length (put out a k) ≡ length out
  put_length = omega (arith, length-append (take k out ++ a) (drop (k + length a) out), head_length, length-drop (k + length a) out)

  -- and then others behind them
  pub put_both : (b : List ℕ) → take (k + length a) (put out a k) ++ b ++ drop (k + length a + length b) (put out a k) ≡ take k out ++ (a ++ b) ++ drop (k + length a + length b) out
  put_both b = rw (put_take, put_drop (length b), append_assoc (take k out) a b)

-- ---- a list of appends
pub output_length : {rec : Stream} {out : List ℕ} {t : Token} {rec' : Stream} {out' : List ℕ} → Succeeds rec out t rec' out' → length out' ≡ length out
output_length {rec} {out} {t} s = rw (s.writes, s.count) (put_length out (adds rec.spaced t) rec.count (omega (arith, s.fits, s.count)))

-- ---- where no refusal fits
-- "unknown token", "value bytes without a value", "over 65,536 bytes", "not UTF-8": none of them
pub record Fine (l : Lent) : Type 0 where
  pub spelled : known (number_of l.0) ≡ true
  pub lent : 0 < length l.1 → present l.0 ≡ true
  pub short : length l.1 ≤ longest
  pub valid : Text l.1

pub data AllFine : List Lent → Type 0 where
  none : AllFine []
  one : {l : Lent} {ls : List Lent} → Fine l → AllFine ls → AllFine (l ∷ ls)

-- what succeeds leaves such a record again
pub held_on : {rec : Stream} {out : List ℕ} {t : Token} {rec' : Stream} {out' : List ℕ} → Succeeds rec out t rec' out' → Held rec'
held_on {rec} {t = t} s =
    let n = adds rec.spaced t in
    record {
      line = omega (arith, s.was.line, s.line, s.count, lines_length n);
      column = omega (arith, s.was.column, s.column, s.count, column_length rec.column n);
    }
