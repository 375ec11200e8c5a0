-- The grammar in numbers, as the code looks it up: the kinds that may stand in a place, the number of a place, a kind's rule and its slots' places.
use Rattle.std.specs.Prelude.{ℕ, zero, suc, ◌+◌, ◌*◌, ◌/◌, ◌%◌, ◌^◌, List, [], ◌∷◌, map, Bool, true, false, cond, ◌&&◌, eqb, ltb, length}
use Rattle.laws.specs.Bytes.{same}
use Rattle.laws.specs.Little.{from_little}
use Rattle.grammar.specs.Kind.{LIST}
use Rattle.grammar.specs.Shape.{Class, one, list, one_or, small, Rule, check_source, without_rowid, ruled}
use Rattle.grammar.specs.Grammar.{shape}
use Rattle.grammar.specs.Slots.{slots_of, flags_below, allowed, elements}
use Rattle.grammar.specs.Classes.{classes, classes_held, class_at}

-- the kinds are the numbers below this one
abbrev pub kinds_held : ℕ
kinds_held = 121

-- ---- a kind: a bit for each place where it may stand
-- the n places from k on that pass a test, a bit for each, the first the lowest
abbrev pub bits : (ℕ → Bool) → ℕ → ℕ → ℕ
bits f k zero = 0
bits f k (suc n) = cond (f k) 1 0 + 2 * bits f (k + 1) n

unfoldable pub stands_of : ℕ → ℕ
stands_of k = bits (λ n. allowed (class_at n) k) 0 64

-- ---- the number of a place
unfoldable pub same_rule : Rule → Rule → Bool
same_rule check_source check_source = true
same_rule check_source without_rowid = false
same_rule without_rowid check_source = false
same_rule without_rowid without_rowid = true

unfoldable pub same_class : Class → Class → Bool
same_class (one xs) (one ys) = same xs ys
same_class (one xs) (list d) = false
same_class (one xs) (one_or ys d) = false
same_class (one xs) small = false
same_class (one xs) (ruled v) = false
same_class (list c) (one ys) = false
same_class (list c) (list d) = same_class c d
same_class (list c) (one_or ys d) = false
same_class (list c) small = false
same_class (list c) (ruled v) = false
same_class (one_or xs c) (one ys) = false
same_class (one_or xs c) (list d) = false
same_class (one_or xs c) (one_or ys d) = same xs ys && same_class c d
same_class (one_or xs c) small = false
same_class (one_or xs c) (ruled v) = false
same_class small (one ys) = false
same_class small (list d) = false
same_class small (one_or ys d) = false
same_class small small = true
same_class small (ruled v) = false
same_class (ruled u) (one ys) = false
same_class (ruled u) (list d) = false
same_class (ruled u) (one_or ys d) = false
same_class (ruled u) small = false
same_class (ruled u) (ruled v) = same_rule u v

abbrev pub number_from : ℕ → List Class → Class → ℕ
number_from n [] c = n
number_from n (d ∷ ds) c = cond (same_class d c) n (number_from (n + 1) ds c)

unfoldable pub numbered : Class → ℕ
numbered c = number_from 0 classes c

-- where a LIST stands in a place, the place of its elements
unfoldable pub element_of : ℕ → ℕ
element_of n = numbered (elements (class_at n))

-- ---- a kind: the number that its flags are below, with how many slots it has
unfoldable pub rule_of : ℕ → ℕ
rule_of k = flags_below (shape k) + 256 * length (slots_of (shape k))

-- ---- a row of places: a byte for each child, the first the lowest
unfoldable pub places_of : ℕ → ℕ
places_of k = from_little (map numbered (slots_of (shape k)))

-- a one in each of eight bytes
abbrev pub each : ℕ
each = 0x0101010101010101

-- the row of the children of kind k that stands in place n: a LIST's elements all stand in the same one
unfoldable pub row_of : ℕ → ℕ → ℕ
row_of n k = cond (eqb k LIST) (element_of n * each) (places_of k)

-- a row from its second child on: behind the eighth comes the first
unfoldable pub turn : ℕ → ℕ
turn p = p / 256 + p % 256 * 2 ^ 56

-- what may stand in the first n places of a row, and whether they are all places
abbrev pub along : ℕ → ℕ → List Class
along p zero = []
along p (suc n) = class_at (p % 256) ∷ along (turn p) n

abbrev pub all_held : ℕ → ℕ → Bool
all_held p zero = true
all_held p (suc n) = ltb (p % 256) classes_held && all_held (turn p) n
