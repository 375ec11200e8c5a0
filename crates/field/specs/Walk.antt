-- The walk over an admitted tree. `Sound` says that the records from an index on fill their places, by the check's scan; so each of them fits its
-- place, and the walk may go by its children. `Goes` says what the walk has come to so far: what is left to be looked at leads to the same first
-- record that breaks the profile.
use Prim.Native.Nat.{ℕ, ◌-◌, ◌%◌, ◌≤◌, ◌<◌}
use native.Mathlib.Omega.{arith}
use Rattle.std.specs.Prelude.{◌≡◌, refl, List, [], ◌∷◌, ◌++◌, map, Result, Ok, Err, IfOk}
use Rattle.mode.specs.declared.Edition.TheVariants.{Crate}
use Rattle.record.specs.Record.{count}
use Rattle.grammar.specs.Shape.{Class}
use Rattle.grammar.specs.Packed.{turn}
use Rattle.tree.specs.Check.{Place, place}
use Rattle.tree.specs.Walk.{refused}
use Rattle.tokens.specs.Tokens.{in_edition}
use Rattle.admitted.specs.Fills.{Fills}
use Rattle.field.specs.Profile.{first_break}
use Rattle.field.specs.Nodes.{nodes_at, codes}

-- the records of a tree from index i on fill these places, with some text
pub record Sound (t : List ℕ) (ps : List Place) (i : ℕ) : Type 0 where
  pub text : List ℕ
  pub fills : Fills (in_edition t text Crate) ps i
  pub short : count t < refused

-- what is broken behind a walk that came to w, where these places are left
unfoldable pub resumed : List ℕ → Result ℕ ℕ → List Place → Result ℕ ℕ
resumed t (Err i) ps = Err i
resumed t (Ok j) ps = first_break t (count t - j) j ps

-- the walk from index i with the places ps came to w with qs left, whatever places follow
pub record Goes (t : List ℕ) (i : ℕ) (ps : List Place) (w : Result ℕ ℕ) (qs : List Place) : Type 0 where
  pub is : (rest : List Place) → Sound t (ps ++ rest) i → first_break t (count t - i) i (ps ++ rest) ≡ resumed t w (qs ++ rest)
  pub on : (rest : List Place) → Sound t (ps ++ rest) i → IfOk w (λ j. Sound t (qs ++ rest) j)

-- n records from an index on stand in places with these numbers, with so much depth left
pub record Led (t : List ℕ) (i left u n : ℕ) : Type 0 where
  pub classes : List Class
  pub coded : map nodes_at classes ≡ codes u n
  pub rest : List Place
  pub sound : Sound t (map (place (25 - left)) classes ++ rest) i

-- w is what a walk over them comes to, whatever places they are
abbrev pub Finds : List ℕ → ℕ → ℕ → ℕ → ℕ → Result ℕ ℕ → Type 0
Finds t i left u n w = (cs : List Class) → map nodes_at cs ≡ codes u n → Goes t i (map (place (25 - left)) cs) w []

-- the same on the way: some places are left, with these numbers
pub record Going (t : List ℕ) (i : ℕ) (ps : List Place) (left next u n : ℕ) : Type 0 where
  pub classes : List Class
  pub coded : map nodes_at classes ≡ codes u n
  pub goes : Goes t i ps (Ok next) (map (place (25 - left)) classes)

-- ---- the first place and the others
pub record Split (cs : List Class) (u n : ℕ) : Type 0 where
  pub class : Class
  pub others : List Class
  pub are : cs ≡ class ∷ others
  pub first : nodes_at class ≡ u % 256
  pub coded : map nodes_at others ≡ codes (turn u) (n - 1)

-- no place is left
pub all_met : (t : List ℕ) (i : ℕ) (ps : List Place) (left next u n : ℕ) → n ≤ 0 → Going t i ps left next u n → Goes t i ps (Ok next) []
all_met t i ps left next u n h g = let z : n ≡ 0 = omega arith in rw (none g.classes (rw z at g.coded)) at g.goes
  where
    none : (cs : List Class) → map nodes_at cs ≡ [] → cs ≡ []
    none [] q = refl
    none (c ∷ cs) q = let z : ◌≡◌ {A = ℕ} 0 1 = cc in absurd (omega arith)
