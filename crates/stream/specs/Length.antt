-- How many bytes a token adds: at most a space, the longest spelling and its value.
use Rattle.std.specs.Prelude.{ℕ, ◌+◌, ◌≤◌, ◌≡◌, refl, List, [], ◌∷◌, ◌++◌, Bool, true, false, cond, ◌||◌, eqb, length}
use Rattle.std.proofs.Common.{arith, length-append}
use Rattle.laws.specs.Text.{ascii}
use Rattle.spelling.specs.Token.{TK_BLOB}
use Rattle.spelling.specs.Spelling.{spelling}
use Rattle.spelling.specs.Laws.{longest_spelling, short}
use Rattle.stream.specs.Stream.{Value, none, some, Token, tight, gap, blob, written, added, adds, leaves, text}
use Rattle.stream.specs.Sink.{given}

-- the bytes of a value
abbrev pub size : Value → ℕ
size none = 0
size (some v) = length v

-- no token adds more beside its value: a space and the longest spelling
abbrev pub longest_token : ℕ
longest_token = 1 + longest_spelling

gap_length : (b : Bool) (k : ℕ) → length (gap b k) ≤ 1
unfolding gap
gap_length b k = by (b || tight k)
  where
    by : (t : Bool) → length (cond t [] (ascii " ")) ≤ 1
    by true = omega arith
    by false = omega arith

blob_length : (v : Value) → length (blob v) ≤ longest_spelling + size v
unfolding blob
blob_length none = omega arith
blob_length (some v) = omega arith

written_length : (v : Value) → length (written v) ≤ size v
unfolding written
written_length none = omega arith
written_length (some v) = omega arith

added_length : (b : Bool) (k : ℕ) (w : List ℕ) (v : Value) → length w ≤ longest_spelling → length (added b k w v) ≤ longest_token + size v
unfolding added
added_length b k w v h = rw (length-append (gap b k) (cond (eqb k TK_BLOB) (blob v) (w ++ written v))) (by (eqb k TK_BLOB))
  where
    by : (t : Bool) → length (gap b k) + length (cond t (blob v) (w ++ written v)) ≤ longest_token + size v
    by true = omega (arith, gap_length b k, blob_length v)
    by false = omega (arith, gap_length b k, written_length v, length-append w (written v))

pub adds_length : (b : Bool) (t : Token) → length (adds b t) ≤ longest_token + size t.value
unfolding adds
adds_length b t = added_length b t.kind (spelling t.kind) t.value (short t.kind)

pub given_size : (p : Bool) (v : List ℕ) → size (given p v) ≤ length v
given_size true v = omega arith
given_size false v = omega arith

-- the most that tokens add, wherever the bit stands
unfoldable pub weigh : List Token → ℕ
weigh [] = 0
weigh (t ∷ ts) = length (adds false t) + weigh ts

pub weigh_append : (a b : List Token) → weigh (a ++ b) ≡ weigh a + weigh b
unfolding weigh
weigh_append [] b = omega arith
weigh_append (t ∷ a) b = let h = weigh_append a b in omega arith

pub weigh_none : weigh [] ≡ 0
unfolding weigh
weigh_none = refl

pub weigh_one : (t : Token) → weigh (t ∷ []) ≤ longest_token + size t.value
unfolding weigh
weigh_one t = omega (arith, adds_length false t)

-- a space is added at most where the bit is false
adds_most : (b : Bool) (t : Token) → length (adds b t) ≤ length (adds false t)
unfolding adds added gap
adds_most false t = omega arith
adds_most true t = let k = t.kind in let rest = cond (eqb k TK_BLOB) (blob t.value) (spelling k ++ written t.value) in omega (arith, length-append (gap false k) rest)

pub text_length : (b : Bool) (ts : List Token) → length (text b ts) ≤ weigh ts
unfolding text weigh
text_length b [] = omega arith
text_length b (t ∷ ts) = omega (arith, length-append (adds b t) (text (leaves b t) ts), adds_most b t, text_length (leaves b t) ts)
