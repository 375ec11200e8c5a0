-- Laws of the statements: the groups that the kinds are in, the two ways of an INSERT, and that a flagged one keeps the output's length.
use Rattle.std.specs.Prelude.{ℕ, zero, suc, ◌≤◌, ◌<◌, ◌≡◌, refl, List, [], ◌∷◌, ◌++◌, Bool, true, false, ◌||◌, eqb, length}
use Rattle.std.proofs.Common.{arith, ◌∙◌, sym, ap}
use borrow.Author.Tests.{eq-eqb, ne_eqb}
use Rattle.laws.specs.Among.{among}
use Rattle.spelling.specs.Token.{TK_INSERT, TK_OR, TK_REPLACE}
use Rattle.record.specs.Record.{record_at}
use Rattle.record.specs.declared.Record.{Record}
use Rattle.grammar.specs.Kind.{RUN, REPLACE, AlterTable, Delete, Savepoint}
use Rattle.grammar.specs.Shape.{Shape, word, slot, given, ◌·◌}
use Rattle.grammar.specs.Grammar.{from, run, maybe, clause, conflict, shape}
use Rattle.grammar.specs.Groups.{before_all, behind_all, among_both, or_none}
use Rattle.grammar.specs.Slots.{allowed}
use Rattle.tokens.specs.Tokens.{Source, of, flagged, placed, means, node}
use Rattle.mode.specs.declared.Edition.{Edition}
use Rattle.mode.specs.declared.Edition.TheVariants.{Crate}
use Rattle.pen.specs.declared.Pen.{Pen}
use Rattle.tokens.specs.Tokens.{in_edition}
use Rattle.pen.specs.Pen.{Lent, source, Spot, Past, Writes}
use Rattle.pen.specs.Laws.{◌▹◌, same, puts_next}
use Rattle.pen.specs.Flags.{bits, first_bit, second_bit, third_bit}
use Rattle.pen.specs.Places.{skipped}
use Rattle.stmt.specs.Parts.{insert_or}

-- ---- the kinds of a group
abbrev firsts : List ℕ
firsts = RUN ∷ from AlterTable 11

abbrev seconds : List ℕ
seconds = from Delete 12

abbrev thirds : List ℕ
thirds = from Savepoint 10

all_three : (k : ℕ) → among k (RUN ∷ from AlterTable 33) ≡ (among k firsts || (among k seconds || among k thirds))
all_three k = among_both k firsts (seconds ++ thirds) ∙ ap (λ (b : Bool). among k firsts || b) (among_both k seconds thirds)

pub in_first : (k : ℕ) → k < Delete → among k firsts ≡ among k (RUN ∷ from AlterTable 33)
in_first k h = sym (all_three k ∙ rw (before_all k Delete 12 h, before_all k Savepoint 10 (omega arith)) (or_none (among k firsts)))

pub in_second : (k : ℕ) → Delete ≤ k → k < Savepoint → among k (RUN ∷ seconds) ≡ among k (RUN ∷ from AlterTable 33)
in_second k h l =
    sym (all_three k ∙ rw (ne_eqb k RUN (λ e. omega arith), behind_all k AlterTable 11 h, before_all k Savepoint 10 l) (or_none (among k seconds)))

pub in_third : (k : ℕ) → Savepoint ≤ k → among k (RUN ∷ thirds) ≡ among k (RUN ∷ from AlterTable 33)
in_third k h =
    sym (all_three k ∙ rw (ne_eqb k RUN (λ e. omega arith), behind_all k AlterTable 11 (omega arith), behind_all k Delete 12 h))

-- ---- REPLACE INTO, or INSERT with or without OR
node_replace : (e : Source) (d j : ℕ) → node e d REPLACE j ≡ of e j []
unfolding node means shape
node_replace e zero j = refl
node_replace e (suc d) j = refl

-- a word leaves the pen where it is
stays : {e : Lent} {w : List ℕ} {d k : ℕ} {r : Record} {a b : Spot} → Writes e w d r (word k) a b → b.0.next ≡ a.0.next
unfolding means
stays h = puts_next (h.puts Crate)

module _ {t x w : List ℕ} {d : ℕ} {r : Record} where
  passed_over : {o : List ℕ} {q s : Pen} → ((u : Edition) → placed (in_edition t x u) (node (in_edition t x u) d) conflict q.next ≡ of (in_edition t x u) q.next []) → Past t q s
      → Writes (source t x) w d r (slot conflict) (q, o) (s, o)
  unfolding means
  passed_over e past = record { puts = λ u. rw (e u) (skipped past x u) }

  or_is : {b c : Spot} → ((u : Edition) → placed (in_edition t x u) (node (in_edition t x u) d) conflict b.0.next ≡ placed (in_edition t x u) (node (in_edition t x u) d) (maybe run) b.0.next)
      → Writes (source t x) w d r (clause TK_OR run) b c → Writes (source t x) w d r (given (word TK_OR · slot conflict)) b c
  unfolding means
  or_is e g = record { puts = λ u. rw (e u) (g.puts u) }

  replaced : {p : Pen} {o : List ℕ} {c : Spot} → eqb (record_at t p.next).kind REPLACE ≡ true → Writes (source t x) w d r (word TK_REPLACE · slot conflict) (p, o) c
      → Writes (source t x) w d r insert_or (p, o) c
  unfolding means
  replaced e g = record { puts = λ u. rw e (g.puts u) }

  inserted : {p : Pen} {o : List ℕ} {c : Spot} → eqb (record_at t p.next).kind REPLACE ≡ false
      → Writes (source t x) w d r (word TK_INSERT · given (word TK_OR · slot conflict)) (p, o) c → Writes (source t x) w d r insert_or (p, o) c
  unfolding means
  inserted e g = record { puts = λ u. rw e (g.puts u) }

module _ (t x : List ℕ) (d j : ℕ) (k : Record) (read : k ≡ record_at t j) where
  conflict_kind : (b : Bool) → eqb k.kind REPLACE ≡ b → eqb (record_at t j).kind REPLACE ≡ b
  conflict_kind b e = rw (← read) e

  replace_placed : (i : ℕ) → i ≡ j → k.kind ≡ REPLACE → (u : Edition) → placed (in_edition t x u) (node (in_edition t x u) d) conflict i ≡ of (in_edition t x u) i []
  unfolding placed allowed
  replace_placed i e z u = rw (e, ← read, z) (node_replace (in_edition t x u) d j)

  other_placed : (i : ℕ) → i ≡ j → (k.kind ≡ REPLACE → ⊥) → (u : Edition) → placed (in_edition t x u) (node (in_edition t x u) d) conflict i ≡ placed (in_edition t x u) (node (in_edition t x u) d) (maybe run) i
  unfolding placed allowed
  other_placed i e z u = rw (e, ← read, ne_eqb k.kind REPLACE z)

module _ {t x w o : List ℕ} {d : ℕ} {r k : Record} {p : Pen} (read : k ≡ record_at t p.next) where
  pub replacing_is : {o' : List ℕ} {q s : Pen} → k.kind ≡ REPLACE → Writes (source t x) w d r (word TK_REPLACE) (p, o) (q, o') → Past t q s → Writes (source t x) w d r insert_or (p, o) (s, o')
  replacing_is {o'} {q} {s} z h past =
      replaced (conflict_kind t x d p.next k read true (eq-eqb k.kind REPLACE z))
      (h ▹ passed_over (replace_placed t x d p.next k read q.next (stays h) z) past)

  pub replacing_not : {b c : Spot} → (k.kind ≡ REPLACE → ⊥) → Writes (source t x) w d r (word TK_INSERT) (p, o) b → Writes (source t x) w d r (clause TK_OR run) b c
      → Writes (source t x) w d r insert_or (p, o) c
  replacing_not {b} {c} z h g =
      inserted (conflict_kind t x d p.next k read false (ne_eqb k.kind REPLACE z))
      (h ▹ or_is (other_placed t x d p.next k read b.0.next (stays h) z) g)

-- ---- whatever a record's first flags are, there is one that has them: so an output keeps its length
module _ {e : Lent} {w : List ℕ} {d : ℕ} {s : Shape} {p q : Spot} where
  pub same_one : {a : Bool} → ((r : Record) → a ≡ flagged 0 r → Writes e w d r s p q) → length q.1 ≡ length p.1
  same_one {a} h = same (h (bits a false false) (first_bit a false false))

  pub same_two : {a b : Bool} → ((r : Record) → a ≡ flagged 0 r → b ≡ flagged 1 r → Writes e w d r s p q) → length q.1 ≡ length p.1
  same_two {a} {b} h = same (h (bits a b false) (first_bit a b false) (second_bit a b false))

  pub same_three : {a b c : Bool} → ((r : Record) → a ≡ flagged 0 r → b ≡ flagged 1 r → c ≡ flagged 2 r → Writes e w d r s p q) → length q.1 ≡ length p.1
  same_three {a} {b} {c} h = same (h (bits a b c) (first_bit a b c) (second_bit a b c) (third_bit a b c))
