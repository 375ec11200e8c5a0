-- What the grammar must say for the walk and the check to go along the same records, computed over its entries: slots are held whatever the
-- flags are, what may be left out is one child, and a LIST is written only where it is a LIST that is held.
use Rattle.std.specs.Prelude.{ℕ, Bool, true, false, not, ◌&&◌, eqb, length}
use Rattle.laws.specs.Among.{all}
use Rattle.grammar.specs.Kind.{NONE, LIST, RUN, TEXT, NUMBER}
use Rattle.grammar.specs.Shape.{Class, one, list, one_or, small, ruled, Shape, nothing, token, ident, word, said, line, when, is, slot, each, commas, row, lines, tuples, given, filled, replacing, decimal, brackets, quoted, rowid, source, both, later, ◌·◌}
use Rattle.grammar.specs.Grammar.{shape}
use Rattle.grammar.specs.Slots.{slots_of}
use Rattle.grammar.specs.Laws.{same_all}

-- a place where no LIST may stand
unfoldable pub plain : Class → Bool
plain (one ks) = all (λ k. not (eqb k LIST)) ks
plain (list c) = false
plain (one_or ks c) = false
plain small = false
plain (ruled u) = false

-- so many slots
abbrev pub slots : ℕ → Shape → Bool
slots n a = eqb (length (slots_of a)) n

unfoldable pub tame : Shape → Bool
tame nothing = true
tame token = true
tame ident = true
tame (word w) = true
tame (said s) = true
tame (line w) = true
tame (when bit a) = slots 0 a && tame a
tame (is n a) = slots 0 a && tame a
tame (slot c) = plain c
tame (each c) = false
tame (commas c) = plain c
tame (row c) = plain c
tame (lines c w) = plain c
tame (tuples c) = plain c
tame (given a) = slots 1 a && tame a
tame (filled a) = slots 1 a && tame a
tame (replacing a b) = same_all (slots_of a) (slots_of b) && (tame a && tame b)
tame decimal = true
tame brackets = true
tame quoted = true
tame rowid = true
tame source = true
tame (both a b) = tame a && tame b
tame (later a b) = tame a && tame b
tame (a · b) = tame a && tame b

-- a kind whose records have no children, and a place where only such may stand
abbrev pub barren : ℕ → Bool
barren k = not (eqb k LIST) && (not (eqb k RUN) && slots 0 (shape k))

unfoldable pub barren_place : Class → Bool
barren_place (one ks) = all barren ks
barren_place (list c) = false
barren_place (one_or ks c) = false
barren_place small = barren NUMBER
barren_place (ruled u) = barren NONE && barren TEXT
