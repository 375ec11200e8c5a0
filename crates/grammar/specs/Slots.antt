-- What the grammar says of a record's children and flags, read off its entries.
use Rattle.std.specs.Prelude.{ℕ, ◌+◌, ◌^◌, max, List, [], ◌∷◌, ◌++◌, Bool, ◌||◌, eqb}
use Rattle.laws.specs.Among.{among}
use Rattle.grammar.specs.Kind.{NONE, LIST, TEXT, NUMBER}
use Rattle.grammar.specs.Shape.{Class, one, list, one_or, small, check_source, without_rowid, ruled, Shape, nothing, token, ident, word, said, line, when, is, slot, each, commas, row, lines, tuples, given, filled, replacing, decimal, brackets, quoted, rowid, source, both, later, ◌·◌}
use Rattle.grammar.specs.Grammar.{run, text, number, maybe}

-- the place of each child, in the order in which the children are held
unfoldable pub slots_of : Shape → List Class
slots_of nothing = []
slots_of token = []
slots_of ident = []
slots_of (word w) = []
slots_of (said s) = []
slots_of (line w) = []
slots_of (when f a) = slots_of a
slots_of (is n a) = slots_of a
slots_of (slot c) = c ∷ []
slots_of (each c) = []
slots_of (commas c) = list c ∷ []
slots_of (row c) = list c ∷ []
slots_of (lines c w) = list c ∷ []
slots_of (tuples c) = list (list c) ∷ []
slots_of (given a) = slots_of a
slots_of (filled a) = slots_of a
slots_of (replacing a b) = slots_of b
slots_of decimal = maybe number ∷ []
slots_of brackets = small ∷ []
slots_of quoted = text ∷ []
slots_of rowid = ruled without_rowid ∷ []
slots_of source = run ∷ ruled check_source ∷ []
slots_of (both a b) = slots_of a ++ slots_of b
slots_of (later a b) = slots_of a ++ slots_of b
slots_of (a · b) = slots_of a ++ slots_of b

-- the flags that a kind defines are the numbers below this one: bits 0 to n, or the values 0 to n
unfoldable pub flags_below : Shape → ℕ
flags_below nothing = 1
flags_below token = 1
flags_below ident = 1
flags_below (word w) = 1
flags_below (said s) = 1
flags_below (line w) = 1
flags_below (when f a) = max (2 ^ (f + 1)) (flags_below a)
flags_below (is n a) = max (n + 1) (flags_below a)
flags_below (slot c) = 1
flags_below (each c) = 1
flags_below (commas c) = 1
flags_below (row c) = 1
flags_below (lines c w) = 1
flags_below (tuples c) = 1
flags_below (given a) = flags_below a
flags_below (filled a) = flags_below a
flags_below (replacing a b) = max (flags_below a) (flags_below b)
flags_below decimal = 1
flags_below brackets = 1
flags_below quoted = 1
flags_below rowid = 1
flags_below source = 1
flags_below (both a b) = max (flags_below a) (flags_below b)
flags_below (later a b) = max (flags_below a) (flags_below b)
flags_below (a · b) = max (flags_below a) (flags_below b)

-- whether a record of a kind may stand in a place
unfoldable pub allowed : Class → ℕ → Bool
allowed (one ks) k = among k ks
allowed (list c) k = eqb k LIST
allowed (one_or ks c) k = among k ks || eqb k LIST
allowed small k = eqb k NUMBER
allowed (ruled u) k = eqb k NONE || eqb k TEXT

-- the place of each element, where a LIST stands in a place
unfoldable pub elements : Class → Class
elements (one ks) = one []
elements (list c) = c
elements (one_or ks c) = c
elements small = one []
elements (ruled u) = one []
