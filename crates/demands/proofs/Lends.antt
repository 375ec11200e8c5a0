-- The tokens of S1 to S12 can be lent to append, and no refusal but 8 fits any of them: one test that is computed over all of them.
use Rattle.std.specs.Prelude.{◌≡◌, refl, Bool, true, ◌&&◌}
use Rattle.std.proofs.Common.{ap₂}
use mathlib.Core.List.{List, [], ◌∷◌, Memᴰ}
use Rattle.laws.specs.Tests.{and_left, and_right}
use Rattle.spelling.specs.Rows.{rows}
use Rattle.spelling.specs.Spelling.{row, known}
use Rattle.stream.specs.Stream.{Token}
use Rattle.stream.specs.Cases.{Case, cases}
use Rattle.append.specs.Lists.{tokens_of, AllFine}
use Rattle.append.specs.Lists.{none as none-fine, one as one-fine}
use Rattle.demands.specs.Lends.{lent_as, lent, low, lendable, one_back}

all_lendable : List Token → Bool
all_lendable [] = true
all_lendable (t ∷ ts) = lendable t.kind (lent_as t.kind t.value).1 && all_lendable ts

each_lendable : List Case → Bool
each_lendable [] = true
each_lendable (c ∷ cs) = all_lendable c.0 && each_lendable cs

computed : each_lendable cases ≡ true
unfolding each_lendable all_lendable lendable low cases known row rows
computed = refl

all_back : (ts : List Token) → all_lendable ts ≡ true → (tokens_of (lent ts) ≡ ts) × AllFine (lent ts)
unfolding all_lendable
all_back [] h = (refl, none-fine)
all_back (t ∷ ts) h =
    let b = lendable t.kind (lent_as t.kind t.value).1 in
    let o = one_back t.kind t.value (and_left b (all_lendable ts) h) in
    let r = all_back ts (and_right b (all_lendable ts) h) in
    (ap₂ (λ (x : Token) (xs : List Token). x ∷ xs) o.0 r.0, one-fine o.1 r.1)

-- the tokens of a case, lent, are those tokens, and none of them is refused
pub case_lent : {c : Case} → Memᴰ c cases → (tokens_of (lent c.0) ≡ c.0) × AllFine (lent c.0)
unfolding each_lendable
case_lent {c} m = all_back c.0 (of_each cases computed m)
  where
    of_each : (cs : List Case) → each_lendable cs ≡ true → Memᴰ c cs → all_lendable c.0 ≡ true
    of_each [] h k = elim k [ ]
    of_each (d ∷ cs) h (Memᴰ.head i) = rw i (and_left (all_lendable d.0) (each_lendable cs) h)
    of_each (d ∷ cs) h (Memᴰ.tail k) = of_each cs (and_right (all_lendable d.0) (each_lendable cs) h) k
