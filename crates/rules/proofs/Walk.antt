-- The walk over sound records. `Reached` says that 01's scan finds the records from an index up to an end sound; so each of them fits its place, and
-- the walk may go by its children. `Goes` says what the walk has come to so far: what is left to be looked at leads to the same first broken rule.
use Rattle.std.specs.Prelude.{ℕ, zero, suc, ◌+◌, ◌-◌, ◌*◌, ◌%◌, ◌≤◌, ◌<◌, ◌≡◌, refl, List, [], ◌∷◌, ◌++◌, map, Bool, true, false, not, ◌&&◌, eqb, ltb, length, replicate, Option, Some, None, Result, Ok, Err}
use Rattle.std.proofs.Common.{arith, ◌∙◌, sym}
use borrow.Author.Tests.{eqb-true, eqb-false, ltb-false}
use Rattle.laws.specs.Below.{below, at}
use Rattle.laws.specs.Bytes.{same, equal}
use Rattle.mode.specs.declared.Mode.{Mode}
use Rattle.record.specs.Record.{record_at}
use Rattle.record.specs.declared.Record.{Record}
use Rattle.grammar.specs.Kind.{LIST, RUN}
use Rattle.grammar.specs.Shape.{Class}
use Rattle.grammar.specs.Grammar.{shape}
use Rattle.grammar.specs.Slots.{slots_of, elements}
use Rattle.grammar.specs.Classes.{classes, classes_held, class_at, token_at, token_is}
use Rattle.grammar.specs.Packed.{kinds_held, each, row_of, turn, along}
use Rattle.grammar.specs.Laws.{same_along, same_held, list_along, slots_along}
use Rattle.tree.specs.Check.{Answer, Place, place, holds, fits, inside}
use Rattle.tree.specs.declared.Refusal.{Refusal}
use Rattle.tree.proofs.Steps.{childless, fitting_kind, along_split, run_holds, row_holds, row_held, slots_counted}
use Rattle.rules.specs.declared.Rule.{Rule}
use Rattle.rules.specs.declared.Rule.TheVariants.{Source, Rowid}
use Rattle.rules.specs.Rules.{rule_at, rule_of, rule_fault}
use Rattle.rules.specs.Walk.{Reached, Goes, rules_from, Led, Finds, Going, below_reached, here_fits, here_inside, near, breaks, ends, stopped, passes, start, first_held, first_rule, others, tag, slots_ruled, Children}

-- two rows of rules that are alike by the test are one
tagged : (a b : Option Rule) → tag a ≡ tag b → a ≡ b
tagged None None h = refl
tagged None (Some Source) h = absurd (omega arith)
tagged None (Some Rowid) h = absurd (omega arith)
tagged (Some Source) None h = absurd (omega arith)
tagged (Some Source) (Some Source) h = refl
tagged (Some Source) (Some Rowid) h = absurd (omega arith)
tagged (Some Rowid) None h = absurd (omega arith)
tagged (Some Rowid) (Some Source) h = absurd (omega arith)
tagged (Some Rowid) (Some Rowid) h = refl

alike : (cs ds : List (Option Rule)) → map tag cs ≡ map tag ds → cs ≡ ds
alike [] [] h = refl
alike [] (d ∷ ds) h = absurd (cc)
alike (c ∷ cs) [] h = absurd (cc)
alike (c ∷ cs) (d ∷ ds) h =
    let first_is : tag c ≡ tag d = cc in
    let others_are : map tag cs ≡ map tag ds = cc in
    rw (tagged c d first_is, alike cs ds others_are)

-- no element of a LIST and no TOKEN has a rule, and of the slots of all kinds a CHECK's second alone
unruled_kind : (k : ℕ) → rule_of k 0 ≡ None → ((i : ℕ) → rule_of k i ≡ None) → (c : Class) (i n : ℕ) → rule_at c ≡ None → map rule_at (replicate n c) ≡ rules_from k i n
unruled_kind k z h c i zero e = refl
unruled_kind k z h c i (suc n) e = rw (e, h i, unruled_kind k z h c (i + 1) n e)

list_unruled : (i : ℕ) → rule_of LIST i ≡ None
unfolding rule_of
list_unruled i = refl

run_unruled : (i : ℕ) → rule_of RUN i ≡ None
unfolding rule_of
run_unruled i = refl

unruled : below (λ n. eqb (tag (rule_at (elements (class_at n)))) 0) classes_held ≡ true
unfolding rule_at elements class_at classes
unruled = refl

module _ (n : ℕ) (r : Record) (h : n < classes_held) (fe : fits (class_at n) r ≡ true) where
  of_a_run : r.kind ≡ RUN → Children (class_at n) r
  unfolding rule_at
  of_a_run e =
      let held : token_at < classes_held = omega arith in
      let none : rule_at (class_at token_at) ≡ None = rw token_is in
      record {
        row = token_at * each;
        rules = record {
          held = same_held token_at held r.kids;
          rules = rw (same_along token_at held r.kids, e) (unruled_kind RUN (run_unruled 0) run_unruled (class_at token_at) 0 r.kids none);
        };
        are = run_holds (class_at n) r e ∙ sym (same_along token_at held r.kids);
      }

  ruled_list : r.kind ≡ LIST → map rule_at (along (row_of n r.kind) r.kids) ≡ rules_from r.kind 0 r.kids
  ruled_list e =
      let none = tagged (rule_at (elements (class_at n))) None (eqb-true (tag (rule_at (elements (class_at n)))) 0 (at (λ m. eqb (tag (rule_at (elements (class_at m)))) 0) classes_held unruled n h)) in
      rw (list_along n h r.kind e r.kids) (rw e (unruled_kind LIST (list_unruled 0) list_unruled (elements (class_at n)) 0 r.kids none))

  module _ (no_run : r.kind ≡ RUN → ⊥) (no_list : r.kind ≡ LIST → ⊥) where
    ruled_slots : map rule_at (along (row_of n r.kind) r.kids) ≡ rules_from r.kind 0 r.kids
    ruled_slots =
        let k = fitting_kind n r h fe in
        rw (slots_counted n r h fe no_run no_list, slots_along r.kind k no_list n)
        (alike (map rule_at (slots_of (shape r.kind))) (rules_from r.kind 0 (length (slots_of (shape r.kind))))
        (equal (map tag (map rule_at (slots_of (shape r.kind)))) (map tag (rules_from r.kind 0 (length (slots_of (shape r.kind)))))
        (at (λ j. same (map tag (map rule_at (slots_of (shape j)))) (map tag (rules_from j 0 (length (slots_of (shape j)))))) kinds_held slots_ruled r.kind k)))

  not_a_run : (r.kind ≡ RUN → ⊥) → map rule_at (along (row_of n r.kind) r.kids) ≡ rules_from r.kind 0 r.kids
  not_a_run no_run = by (eqb r.kind LIST) refl
    where
      by : (b : Bool) → eqb r.kind LIST ≡ b → map rule_at (along (row_of n r.kind) r.kids) ≡ rules_from r.kind 0 r.kids
      by true e = ruled_list (eqb-true r.kind LIST e)
      by false e = ruled_slots no_run (eqb-false r.kind LIST e)

  pub children_of : Children (class_at n) r
  children_of = by (eqb r.kind RUN) refl
    where
      by : (b : Bool) → eqb r.kind RUN ≡ b → Children (class_at n) r
      by true e = of_a_run (eqb-true r.kind RUN e)
      by false e =
          let no_run = eqb-false r.kind RUN e in
          record {
            row = row_of n r.kind;
            rules = record { held = row_held n r h fe no_run; rules = not_a_run no_run };
            are = row_holds n r h fe no_run;
          }

-- ---- a turn of the loop, at a record before the end, with some place left for it
module _ {m : Mode} {t x : List ℕ} {end i : ℕ} {ps : List Place} {left next k child n : ℕ} (g : Going m t x end i ps left next k child n) (some : 0 < n) (h : next < end) where
  abbrev here : Class
  here = class_at (g.row % 256)

  abbrev left_over : List Place
  left_over = map (place (65 - left)) (along (turn g.row) (n - 1))

  goes_here : Goes m t x end i ps (Ok next) (place (65 - left) here ∷ left_over)
  goes_here = rw (along_split g.row n some) at g.goes

  -- where the record is sound, its part is inside the text and there is depth left for its children
  module _ (rest : List Place) (reached : Reached t x end i (ps ++ rest)) where
    reached_here : Reached t x end next (place (65 - left) here ∷ (left_over ++ rest))
    reached_here = goes_here.on rest reached

    pub turn_inside : inside x (record_at t next) ≡ true
    turn_inside = here_inside t x end next (65 - left) here (left_over ++ rest) h reached_here

    module _ (more : next + 1 < end) (deep : left ≤ 64) where
      pub turn_left : 1 ≤ left
      turn_left = omega (arith, near t x end next (65 - left) here (left_over ++ rest) h reached_here more)

      pub turn_led : Led t x end (next + 1) (left - 1) (record_at t next).kind (record_at t next).kids
      turn_led =
          let fe = here_fits t x end next (65 - left) here (left_over ++ rest) h reached_here in
          let b = children_of (g.row % 256) (record_at t next) (first_held g.row k child n g.rules some) fe in
          let d : 65 - left + 1 ≡ 65 - (left - 1) = omega (arith, turn_left) in
          record {
            row = b.row;
            rules = b.rules;
            rest = left_over ++ rest;
            reached = rw (b.are, d) at (below_reached t x end next (65 - left) here (left_over ++ rest) h reached_here);
          }

  module _ (f : Answer) (fe : f ≡ rule_fault m x (rule_of k child) (record_at t next) next) where
    fault_here : f ≡ rule_fault m x (rule_at here) (record_at t next) next
    fault_here = rw (first_rule g.row k child n g.rules some) fe

    pub turn_breaks : (e : Refusal) → f ≡ Err e → Goes m t x end i ps (Err e) []
    turn_breaks e z = breaks m t x end h goes_here f fault_here e z

    -- all below the record come to w
    module _ (z : f ≡ Ok tt) {w : Result ℕ Refusal} (below : fits here (record_at t next) ≡ true → Goes m t x end (next + 1) (map (place (65 - left + 1)) (holds here (record_at t next))) w []) where
      pub on_all : Goes m t x end i ps w left_over
      on_all = passes m t x end h goes_here f fault_here z below

    module _ (z : f ≡ Ok tt) where
      pub turn_found : (e : Refusal) → (fits here (record_at t next) ≡ true → Goes m t x end (next + 1) (map (place (65 - left + 1)) (holds here (record_at t next))) (Err e) []) → Goes m t x end i ps (Err e) []
      turn_found e below = stopped m t x end (on_all z below)

      pub turn_on : (j : ℕ) → (fits here (record_at t next) ≡ true → Goes m t x end (next + 1) (map (place (65 - left + 1)) (holds here (record_at t next))) (Ok j) []) → Going m t x end i ps left j k (child + 1) (n - 1)
      turn_on j below = record { row = turn g.row; rules = others g.row k child n g.rules some; goes = on_all z below }

  -- by the walk below it, or since there is nothing below it before the end
  pub walked_below : {w : Result ℕ Refusal} → 1 ≤ left → left ≤ 64 → Finds m t x end (next + 1) (left - 1) (record_at t next).kind (record_at t next).kids w
      → fits here (record_at t next) ≡ true → Goes m t x end (next + 1) (map (place (65 - left + 1)) (holds here (record_at t next))) w []
  walked_below l deep found fe =
      let b = children_of (g.row % 256) (record_at t next) (first_held g.row k child n g.rules some) fe in
      let d : 65 - left + 1 ≡ 65 - (left - 1) = omega arith in
      rw (d, b.are) (found b.row b.rules)

  pub none_below : (not (eqb (record_at t next).kids 0) && ltb (next + 1) end) ≡ false
      → fits here (record_at t next) ≡ true → Goes m t x end (next + 1) (map (place (65 - left + 1)) (holds here (record_at t next))) (Ok (next + 1)) []
  none_below e fe = by (eqb (record_at t next).kids 0) refl e
    where
      by : (b : Bool) → eqb (record_at t next).kids 0 ≡ b → (not b && ltb (next + 1) end) ≡ false
          → Goes m t x end (next + 1) (map (place (65 - left + 1)) (holds here (record_at t next))) (Ok (next + 1)) []
      by true q y = rw (childless here (record_at t next) fe (eqb-true (record_at t next).kids 0 q)) (start m t x end (next + 1) [])
      by false q y = ends m t x end (ltb-false (next + 1) end y) (start m t x end (next + 1) _)
