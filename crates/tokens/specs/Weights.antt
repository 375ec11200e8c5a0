-- What single tokens and the words of a shape come to, in bytes: for the bound of a text.
use Rattle.std.specs.Prelude.{ℕ, zero, suc, ◌+◌, ◌*◌, ◌^◌, ◌≤◌, ◌<◌, ◌≡◌, refl, List, [], ◌∷◌, Bool, true, false, cond, ◌&&◌, eqb, leb, length, take, drop, nat_abs}
use Rattle.std.proofs.Common.{arith, add-mul, length-take, length-drop, leb-true, leb-false}
use Rattle.laws.specs.Text.{ascii}
use Rattle.laws.specs.Tests.{and_parts}
use Rattle.spelling.specs.Rows.{rows}
use Rattle.spelling.specs.Spelling as spellings
use Rattle.spelling.specs.Spelling.{spelling}
use Rattle.spelling.specs.Token.{TK_LP, TK_RP, TK_LBRACKET, TK_RBRACKET, TK_WITHOUT}
use Rattle.mode.specs.declared.Edition.{Edition}
use Rattle.mode.specs.declared.Edition.TheVariants.{Crate, Sqlite}
use Rattle.mode.specs.Options.{is_sqlite}
use Rattle.stream.specs.Stream.{Token, tight, gap, blob, written, added, adds}
use Rattle.stream.specs.Doubled.{doubled_length}
use Rattle.stream.specs.Length.{longest_token, weigh, weigh_append, weigh_none, weigh_one}
use Rattle.white.specs.Parts.{parts, second}
use Rattle.record.specs.Record.{signed, number_of}
use Rattle.record.specs.Laws.{signed_low, signed_high}
use Rattle.record.specs.declared.Record.{Record}
use Rattle.grammar.specs.Shape.{Shape, nothing, token, ident, word, said, line, when, is, slot, each, commas, row, lines, tuples, given, filled, replacing, decimal, brackets, quoted, rowid, source, both, later, ◌·◌}
use Rattle.grammar.specs.Grammar.{shape}
use Rattle.grammar.specs.Slots.{slots_of}
use Rattle.grammar.specs.Entries.{entry}
use Rattle.tokens.specs.Corners.{bare, id, newline, second_part, without, dashes, sourced, inner, pairs}
use Rattle.tokens.specs.Tokens.{comma, anything, between}

-- no tree and no text is longer than this, and no LIST has more elements
abbrev pub longest : ℕ
longest = 65536

-- what is written between and around two elements of a LIST: at most a token and a newline
abbrev pub around : ℕ
around = longest_token + 1

-- ---- what a shape writes itself: so many bytes of words, with the numbers and the brackets that its children stand for, and so often the text
-- part of its own record. The text of a child is the child's to pay
pub record Cost : Type 0 where
  pub words : ℕ
  pub parts : ℕ

abbrev free : Cost
free = record { words = 0; parts = 0 }

abbrev bytes : ℕ → Cost
bytes n = record { words = n; parts = 0 }

abbrev together : Cost → Cost → Cost
together a b = record { words = a.words + b.words; parts = a.parts + b.parts }

unfoldable pub base : Shape → Cost
base nothing = free
base token = record { words = longest_token; parts = 1 }
base ident = record { words = longest_token; parts = 1 }
base (word w) = bytes longest_token
base (said s) = bytes (longest_token + length (ascii s))
base (line w) = bytes around
base (when bit a) = base a
base (is n a) = base a
base (slot c) = free
base (each c) = free
base (commas c) = free
base (row c) = free
base (lines c w) = free
base (tuples c) = free
base (given a) = base a
base (filled a) = base a
base (replacing a b) = together (base a) (base b)
base decimal = bytes (longest_token + 20)
base brackets = bytes (2 * 255)
base quoted = bytes (longest_token + 2)
base rowid = bytes (2 * longest_token)
base source = bytes (longest_token + around)
base (both a b) = together (together (base a) (bytes 1)) (base b)
base (later a b) = together (base a) (base b)
base (a · b) = together (base a) (base b)

-- where the record's own part has n bytes
abbrev pub cost : Cost → ℕ → ℕ
cost c n = c.words + c.parts * n

pub cost_together : (a b : Cost) (n : ℕ) → cost (together a b) n ≡ cost a n + cost b n
cost_together a b n = omega (arith, add-mul a.parts b.parts n)

-- ---- one computed test over all entries of the grammar: the words of an entry are paid for by so much for its record and so much for each slot;
-- they are few; and the record's own part is written at most twice. The most for its slots is a TypeName's, which has three, and 255 pairs of brackets
abbrev pub own : ℕ
own = 30

abbrev pub each_slot : ℕ
each_slot = 170

pub record Affordable (c : Cost) (slots : ℕ) : Type 0 where
  pub paid : c.words ≤ own + each_slot * slots
  pub few : c.words ≤ longest
  pub twice : c.parts ≤ 2

abbrev affordable : Cost → ℕ → Bool
affordable c n = leb c.words (own + each_slot * n) && (leb c.words longest && leb c.parts 2)

tested : (c : Cost) (n : ℕ) → affordable c n ≡ true → Affordable c n
tested c n h =
    let two = and_parts (leb c.words (own + each_slot * n)) _ h in
    let more = and_parts (leb c.words longest) _ two.1 in
    record { paid = leb-true c.words _ two.0; few = leb-true c.words _ more.0; twice = leb-true c.parts 2 more.1 }

pub shape_affordable : (k : ℕ) → Affordable (base (shape k)) (length (slots_of (shape k)))
unfolding base slots_of
shape_affordable k = tested _ _ (entry (λ m s. affordable (base s) (length (slots_of s))) k refl refl)

-- ---- what single tokens come to
pub comma_weight : weigh comma ≡ 1
unfolding weigh adds added gap tight blob written spelling spellings.row rows
comma_weight = refl

pub left_weight : weigh (bare TK_LP ∷ []) ≡ 2
unfolding weigh adds added gap tight blob written spelling spellings.row rows
left_weight = refl

pub right_weight : weigh (bare TK_RP ∷ []) ≡ 1
unfolding weigh adds added gap tight blob written spelling spellings.row rows
right_weight = refl

pair_weight : weigh (bare TK_LBRACKET ∷ bare TK_RBRACKET ∷ []) ≡ 2
unfolding weigh adds added gap tight blob written spelling spellings.row rows
pair_weight = refl

pub pairs_weight : (n : ℕ) → weigh (pairs n) ≤ 2 * n
unfolding pairs
pairs_weight zero = omega (arith, weigh_none)
pairs_weight (suc n) = omega (arith, weigh_append (bare TK_LBRACKET ∷ bare TK_RBRACKET ∷ []) (pairs n), pair_weight, pairs_weight n)

pub cut_short : (n m : ℕ) (x : List ℕ) → (length (take n (drop m x)) ≤ n) × (length (take n (drop m x)) ≤ length x)
cut_short n m x = (simp length-take (omega arith), simp (length-take, length-drop) (omega arith))

pub sourced_weight : (x : List ℕ) → weigh (sourced x) ≤ longest_token + length x + around
unfolding sourced
sourced_weight x = by (dashes x)
  where
    by : (b : Bool) → weigh (id x ∷ cond b (id newline ∷ []) []) ≤ longest_token + length x + around
    by true = omega (arith, weigh_append (id x ∷ []) (id newline ∷ []), weigh_one (id x), weigh_one (id newline))
    by false = omega (arith, weigh_one (id x))

pub without_weight : (x : List ℕ) → weigh (without x) ≤ longest_token + longest_token + length x
unfolding without
without_weight x = by (eqb (length (parts x)) 2)
  where
    by : (b : Bool) → weigh (cond b (bare TK_WITHOUT ∷ id (second_part x) ∷ []) []) ≤ longest_token + longest_token + length x
    by true =
        let s = second (parts x) in
        omega (arith, weigh_append (bare TK_WITHOUT ∷ []) (id (second_part x) ∷ []), weigh_one (bare TK_WITHOUT), weigh_one (id (second_part x)), (cut_short s.len s.start x).1)
    by false = omega (arith, weigh_none)

pub between_weight : (v : Edition) (ts us : List Token) → weigh (between v ts us) ≤ 1
unfolding between
between_weight v ts us = by (is_sqlite v && (anything ts && anything us))
  where
    by : (b : Bool) → weigh (cond b comma []) ≤ 1
    by true = omega (arith, comma_weight)
    by false = omega (arith, weigh_none)

pub inner_length : (v : Edition) (x : List ℕ) → length (inner v x) ≤ 2 * length x
unfolding inner
inner_length Crate x = omega arith
inner_length Sqlite x = doubled_length x

-- a NUMBER is of 64 bits
pub number_fits : (r : Record) → r.start < 2 ^ 32 → r.len < 2 ^ 32 → nat_abs (number_of r) ≤ 2 ^ 63
unfolding number_of
number_fits r s l = by (leb (2 ^ 63) (r.start + r.len * 2 ^ 32)) refl
  where
    n : ℕ
    n = r.start + r.len * 2 ^ 32

    by : (b : Bool) → leb (2 ^ 63) n ≡ b → nat_abs (signed n) ≤ 2 ^ 63
    by true q = let h : 2 ^ 63 ≤ n = leb-true (2 ^ 63) n q in rw (signed_high n h (omega arith)) (omega arith)
    by false q = let h : n < 2 ^ 63 = leb-false (2 ^ 63) n q in rw (signed_low n h) (omega arith)
