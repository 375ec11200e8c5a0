-- Where a token's bytes end: its newlines are its value's, since a space, a spelling and the quotes of a missing blob have none.
use Rattle.std.specs.Prelude.{ℕ, ◌+◌, ◌≤◌, ◌≡◌, refl, List, [], ◌∷◌, ◌++◌, Bool, true, false, not, cond, ◌&&◌, ◌||◌, ltb, eqb, length}
use Rattle.std.proofs.Common.{arith, ◌∙◌, ap, sym, append-nil, append_assoc, length-append, eqb-true, lt-ltb}
use Rattle.std.proofs.lemmas.Bool.{false≢true, eqb-false}
use Rattle.laws.specs.Tests.{and_left, and_right}
use Rattle.laws.specs.Text.{ascii}
use Rattle.blank.specs.Blank.{blank}
use Rattle.spelling.specs.Token.{TK_BLOB}
use Rattle.spelling.specs.Spelling.{spelling}
use Rattle.spelling.specs.Laws.{solid, nonblank}
use Rattle.stream.specs.Stream.{tight, gap, blob, written, added, adds}
use Rattle.stream.specs.Sink.{given}
use Rattle.position.specs.Position.{newline, lines, column}
use Rattle.position.specs.Laws.{lines_append, column_append, column_on, column_anew}
use Rattle.append.specs.Append.{number_of, present, token_of}

-- ---- bytes with none before the value
pub record Led (bytes value : List ℕ) : Type 0 where
  pub before : List ℕ
  pub none : lines before ≡ 0
  pub is : bytes ≡ before ++ value

led_lines : {bytes value : List ℕ} → Led bytes value → lines bytes ≡ lines value
led_lines {bytes} {value} l = omega (arith, ap lines l.is ∙ lines_append l.before value, l.none)

led_column : {bytes value : List ℕ} → Led bytes value → (c : ℕ) → column c bytes ≡ cond (eqb (lines value) 0) (c + length bytes) (column 0 value)
led_column {bytes} {value} l c = by (eqb (lines value) 0) refl
  where
    on : column c bytes ≡ column (c + length l.before) value
    on = ap (column c) l.is ∙ column_append c l.before value ∙ ap (λ (d : ℕ). column d value) (column_on c l.before l.none)

    by : (t : Bool) → eqb (lines value) 0 ≡ t → column c bytes ≡ cond t (c + length bytes) (column 0 value)
    by true e =
        let z = column_on (c + length l.before) value (eqb-true (lines value) 0 e) in
        omega (arith, on, z, ap length l.is ∙ length-append l.before value)
    by false e = on ∙ column_anew (c + length l.before) 0 value (eqb-false (lines value) 0 e)

-- ---- what stands before a value
solid_lines : (w : List ℕ) → solid w ≡ true → lines w ≡ 0
unfolding lines blank
solid_lines [] e = refl
solid_lines (x ∷ w) e = by (eqb x 0x0A) refl (solid_lines w (and_right (not (blank x)) (solid w) e)) (and_left (not (blank x)) (solid w) e)
  where
    by : (t : Bool) → eqb x 0x0A ≡ t → lines w ≡ 0 → not (blank x) ≡ true → newline x + lines w ≡ 0
    by true q z n = let y : x ≡ 0x0A = eqb-true x 0x0A q in absurd (false≢true (rw y at n))
    by false q z n = rw q (omega arith)

gap_lines : (b : Bool) (k : ℕ) → lines (gap b k) ≡ 0
unfolding gap lines
gap_lines b k = by (b || tight k)
  where
    by : (t : Bool) → lines (cond t [] (ascii " ")) ≡ 0
    by true = refl
    by false = refl

-- ---- a token's bytes
behind : (b : Bool) (k : ℕ) (w v : List ℕ) → lines w ≡ 0 → Led (gap b k ++ (w ++ v)) v
behind b k w v e =
    record { before = gap b k ++ w; none = omega (arith, lines_append (gap b k) w, gap_lines b k); is = sym (append_assoc (gap b k) w v) }

added_led : (b : Bool) (k : ℕ) (w : List ℕ) (p : Bool) (v : List ℕ) → lines w ≡ 0 → not p && ltb 0 (length v) ≡ false → Led (added b k w (given p v)) v
unfolding added blob written lines
added_led b k w true v e n = by (eqb k TK_BLOB)
  where
    by : (t : Bool) → Led (gap b k ++ cond t v (w ++ v)) v
    by true = behind b k [] v refl
    by false = behind b k w v e
added_led b k w false [] e n = by (eqb k TK_BLOB)
  where
    by : (t : Bool) → Led (gap b k ++ cond t (ascii "X''") (w ++ [])) []
    by true = rw (← append-nil (ascii "X''")) (behind b k (ascii "X''") [] refl)
    by false = behind b k w [] e
added_led b k w false (x ∷ v) e n = absurd (false≢true (sym n ∙ lt-ltb 0 (length (x ∷ v)) (omega arith)))

module _ (b : Bool) (token : ℕ) (value : List ℕ) (lent : not (present token) && ltb 0 (length value) ≡ false) where
  token_led : Led (adds b (token_of token value)) value
  unfolding adds token_of
  token_led =
      let k = number_of token in
      added_led b k (spelling k) (present token) value (solid_lines (spelling k) (nonblank k)) lent

  pub token_lines : lines (adds b (token_of token value)) ≡ lines value
  token_lines = led_lines token_led

  pub token_column : (c : ℕ) → column c (adds b (token_of token value)) ≡ cond (eqb (lines value) 0) (c + length (adds b (token_of token value))) (column 0 value)
  token_column c = led_column token_led c

  -- and it is no shorter than the value
  pub token_longer : length value ≤ length (adds b (token_of token value))
  token_longer = omega (arith, ap length token_led.is ∙ length-append token_led.before value)
