-- What the walk knows of a place, in a number: whether it takes a ported node, and whether a LIST's elements there do, and so on down.
-- A kind's places are a number, a byte for each child (`along`); they are computed from its entry, and by `codes_below` they are right for every record.
use Rattle.std.specs.Prelude.{ℕ, ◌-◌, ◌≡◌, refl, List, Bool, true, false, ◌&&◌, ◌||◌, eqb, ltb}
use Rattle.record.specs.Record.{record_at}
use Rattle.grammar.specs.Kind.{RUN}
use Rattle.grammar.specs.Shape.{Class}
use Rattle.tree.specs.Check.{place}
use Rattle.field.specs.Profile.{foreign, takes_node, deepest, breaks}
use Rattle.field.specs.Nodes.{nodes_at, breaks_by, takes_is, depthless}

-- ---- so the test by numbers is that of the profile
turned_round : (d r f : Bool) → (d || (r || f)) ≡ (f || (r || d))
turned_round true true true = refl
turned_round true true false = refl
turned_round true false true = refl
turned_round true false false = refl
turned_round false true true = refl
turned_round false true false = refl
turned_round false false true = refl
turned_round false false false = refl

pub breaks_is : (t : List ℕ) (i : ℕ) (c : Class) (left : ℕ) → breaks_by t i (nodes_at c) left ≡ breaks t i (place (25 - left) c)
unfolding breaks_by breaks
breaks_is t i c left = rw (takes_is c, depthless left) (turned_round (ltb deepest (25 - left)) (eqb (record_at t i).kind RUN && takes_node c) (foreign t i))
