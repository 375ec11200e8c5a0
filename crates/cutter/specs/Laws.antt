-- What the parts of a line come to when each is stored behind the one before, and how long they are.
use Rattle.std.specs.Prelude.{ℕ, ◌+◌, ◌^◌, ◌≤◌, ◌<◌, ◌≡◌, refl, List, [], ◌∷◌, ◌++◌, Bool, true, false, eqb, pos, length, take}
use Rattle.std.proofs.Common.{not-suc-le-zero, arith, sym, ap, ◌∙◌, length-append, to_z}
use Rattle.std.proofs.lemmas.List.Edits.{sets}
use Rattle.std.proofs.Math.Seq.{length-sets}
use borrow.Rule.Slice.PartMut.{mid_of, put_mid, same_len_mid}
use Rattle.std.specs.Int.{w64}
use Rattle.std.proofs.lemmas.Int.{to_z_pos}
use Rattle.laws.specs.Among.{is_nil}
use Rattle.laws.specs.First.{first}
use Rattle.laws.specs.Sets.{sets_append}
use Rattle.laws.specs.Text.{ascii}
use Rattle.decimal.specs.Decimal.{natural, decimal}
use Rattle.decimal.specs.Laws.{length_below, spelled_part}
use Rattle.decimal.specs.Spells.{Spells}
use Rattle.decimal.specs.declared.Decimal.{Decimal}
use Rattle.reader.specs.Reader.{stop}
use Rattle.cutter.specs.Line.{Stored, spaced, name_of, line_of}

-- one part, and another behind it
pub then : {out o end a b : List ℕ} {at i j : ℕ} → Stored out at a o i → Stored o i b end j → Stored out at (a ++ b) end j
then {out} {o} {end} {a} {b} {at} {i} {j} p q =
    record { stored = q.stored ∙ rw (p.stored, p.behind) (sym (sets_append a b out at)); behind = omega (arith, p.behind, q.behind, length-append a b) }

pub nothing : {out o a : List ℕ} → Stored out 0 a o 0 → Stored out 0 [] o 0
nothing {a = []} s = s
nothing {a = b ∷ w} s = absurd (not-suc-le-zero {n = length w} (omega (arith, s.behind)))

-- a number below 2^32 is no negative one of 64 bits, and its text is its digits
pub spelled : (n : ℕ) (d : Decimal) → n < 2 ^ 32 → Spells (to_z w64 n) d → take d.len d.bytes ≡ natural n
unfolding decimal
spelled n d h s = spelled_part (pos n) d (rw (to_z_pos w64 n (omega arith)) at s)

pub spaced_stored : (n : ℕ) {out o end : List ℕ} {at j : ℕ} → o ≡ sets out at (ascii " ") → Stored o (at + 1) (natural n) end j → Stored out at (spaced n) end j
unfolding spaced
spaced_stored n e q = then {a = ascii " "} (record { stored = e; behind = refl }) q

-- how long
pub length_spaced : (n : ℕ) → n < 2 ^ 32 → length (spaced n) ≤ 11
unfolding spaced
length_spaced n h = omega (arith, length_below n 9 (omega arith))

pub length_name : (k : ℕ) → length (name_of k) ≤ 8
unfolding name_of
length_name k = by (eqb k 1) (eqb k 2) (eqb k 3) (eqb k 4) (eqb k 5) (eqb k 6) (eqb k 7)
  where
    by : (a b c d e f g : Bool) → length (first ((a, ascii "word") ∷ (b, ascii "number") ∷ (c, ascii "quoted") ∷ (d, ascii "blob") ∷ (e, ascii "variable") ∷ (f, ascii "operator") ∷ (g, ascii "mark") ∷ []) []) ≤ 8
    by true b c d e f g = omega arith
    by false true c d e f g = omega arith
    by false false true d e f g = omega arith
    by false false false true e f g = omega arith
    by false false false false true f g = omega arith
    by false false false false false true g = omega arith
    by false false false false false false true = omega arith
    by false false false false false false false = omega arith

-- the line of a failure, of none, and of a lexeme
pub line_stop : (start len : ℕ) → line_of stop start len ≡ ascii "stop" ++ (spaced start ++ ascii "\n")
unfolding line_of
line_stop start len = refl

pub line_none : (k start len : ℕ) → eqb k stop ≡ false → 0 ≡ 0 + length (name_of k) → line_of k start len ≡ []
unfolding line_of
line_none k start len s h = rw (s, none (name_of k) h)
  where
    none : (w : List ℕ) → 0 ≡ 0 + length w → is_nil w ≡ true
    none [] e = refl
    none (b ∷ w) e = absurd (not-suc-le-zero {n = length w} (omega arith))

pub line_lexeme : (k start len : ℕ) → eqb k stop ≡ false → (0 ≡ 0 + length (name_of k) → ⊥) → line_of k start len ≡ name_of k ++ (spaced start ++ (spaced len ++ ascii "\n"))
unfolding line_of
line_lexeme k start len s h = rw (s, some (name_of k) h)
  where
    some : (w : List ℕ) → (0 ≡ 0 + length w → ⊥) → is_nil w ≡ false
    some [] e = absurd (e refl)
    some (b ∷ w) e = refl

pub length_line : (k start len : ℕ) → start < 2 ^ 32 → len < 2 ^ 32 → length (line_of k start len) ≤ 31
unfolding line_of
length_line k start len h g = by (eqb k stop) (is_nil (name_of k))
  where
    s : length (spaced start) ≤ 11
    s = length_spaced start h

    n : length (spaced len) ≤ 11
    n = length_spaced len g

    tail : length (spaced len ++ ascii "\n") ≤ 12
    tail = omega (arith, n, length-append (spaced len) (ascii "\n"))

    by : (a b : Bool) → length (first ((a, ascii "stop" ++ (spaced start ++ ascii "\n")) ∷ (b, []) ∷ []) (name_of k ++ (spaced start ++ (spaced len ++ ascii "\n")))) ≤ 31
    by true b = omega (arith, s, length-append (spaced start) (ascii "\n"))
    by false true = omega arith
    by false false =
        omega (arith, s, tail, length_name k, length-append (name_of k) (spaced start ++ (spaced len ++ ascii "\n")), length-append (spaced start) (spaced len ++ ascii "\n"))

pub stored_few : (k start len : ℕ) → start < 2 ^ 32 → len < 2 ^ 32 → {out o : List ℕ} {r : ℕ} → Stored out 0 (line_of k start len) o r → r ≤ 31
stored_few k start len h g s = omega (arith, length_line k start len h g, s.behind)

-- an output is as long as before where a line was stored in a part of it
pub kept : (a k : ℕ) (out : List ℕ) {w ys : List ℕ} {r : ℕ} → Stored (mid_of a k out) 0 w ys r → length (put_mid a k out ys) ≡ length out
kept a k out {w} {ys} s = same_len_mid a k out ys (ap length s.stored ∙ length-sets (mid_of a k out) 0 w)
