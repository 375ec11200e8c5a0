-- Counting: the parts that were passed and those of what is left are the parts of the text, and the struct says of those passed what it has to say of all at the end.
use Prim.Native.Nat.{ℕ, ◌-◌, ◌≤◌}
use native.Mathlib.Omega.{arith}
use mathlib.Core.Path.{◌≡◌, refl, sym, ap, ◌∙◌}
use mathlib.Core.List.{List, [], ◌∷◌, ◌++◌, append_assoc, append-nil}
use lib.ListN.{length, length-append, drop_of_length-le}
use borrow.Author.Tests.{ne_eqb}
use Rattle.white.specs.Parts.{Span, span, marks, runs, parts, split_of, first_of}
use Rattle.white.specs.Steps.{parts_from, SkipsWhite, SkipsPart, counted}
use Rattle.white.specs.declared.Parts.{Parts}
use Rattle.white.specs.declared.Part.{Part}
use Rattle.std.specs.Prelude.{Option, Some, None, slice_get}

pub record Passed (s : List ℕ) (p : Parts) (at : ℕ) : Type 0 where
  pub seen : List Span
  pub joined : seen ++ parts_from s at 0 ≡ parts s
  pub counts : p.count ≡ length seen
  pub keeps : p.second ≡ slice_get seen 1
  pub few : p.count ≤ at

keep_more : (seen : List Span) (p : Parts) (i n : ℕ) → p.count ≡ length seen → p.second ≡ slice_get seen 1 → (counted p i n).second ≡ slice_get (seen ++ span i n ∷ []) 1
unfolding counted
keep_more [] p i n c k = rw c k
keep_more (y ∷ []) p i n c k = rw c
keep_more (y ∷ z ∷ t) p i n c k = rw (ne_eqb p.count 1 (λ (e : p.count ≡ 1). omega arith)) k

pub none_passed : (s : List ℕ) (at : ℕ) → SkipsWhite s 0 at → Passed s (record { count = 0; second = None }) at
unfolding parts_from parts
none_passed s at w = record { seen = []; joined = w.same; counts = refl; keeps = refl; few = omega arith }

pub one_passed : (s : List ℕ) (p q : Parts) (at end r : ℕ) → Passed s p at → SkipsPart s at end → q ≡ counted p at (end - at) → SkipsWhite s end r → Passed s q r
unfolding counted
one_passed s p q at end r a t e w =
    record {
      seen = a.seen ++ span at (end - at) ∷ [];
      joined = rw (append_assoc, w.same, ← t.part) a.joined;
      counts = rw (e, length-append, a.counts);
      keeps = rw e (keep_more a.seen p at (end - at) a.counts a.keeps);
      few = let l = t.past in let m = w.past in let f = a.few in rw e (omega arith);
    }

pub all_passed : (s : List ℕ) (p : Parts) (at : ℕ) → length s ≤ at → Passed s p at → p ≡ split_of s
unfolding split_of parts_from runs marks
all_passed s p at h a =
    let d : a.seen ≡ parts s = sym (append-nil a.seen) ∙ rw (drop_of_length-le s h) at a.joined in
    rw (← d)
    (ap (λ (k : ℕ). record { count = k; second = p.second }) a.counts ∙ ap (λ (x : Option Part). record { count = length a.seen; second = x }) a.keeps)

-- the first part: White_Space to the end, or a part behind it
pub no_first : (s : List ℕ) (at : ℕ) → SkipsWhite s 0 at → length s ≤ at → None ≡ first_of s
unfolding first_of parts parts_from runs marks
no_first s at w h =
    let e : parts_from s at 0 ≡ parts s = w.same in
    rw (← e, drop_of_length-le s h)

pub is_first : (s : List ℕ) (at end : ℕ) → SkipsWhite s 0 at → SkipsPart s at end → Some (record { start = at; len = end - at }) ≡ first_of s
unfolding first_of parts parts_from
is_first s at end w p =
    let e : parts_from s at 0 ≡ parts s = w.same in
    rw (← e, p.part)
