-- Laws of the root: the groups that the kinds are in, and the ways through a root.
use Rattle.std.specs.Prelude.{ℕ, suc, ◌+◌, ◌≤◌, ◌<◌, ◌≡◌, refl, List, [], ◌∷◌, ◌++◌, Bool, false, ◌||◌}
use Rattle.std.proofs.Common.{arith, ◌∙◌, sym, ap}
use Rattle.std.proofs.Math.Bool.{true}
use Rattle.std.proofs.Math.Dec.{eqb}
use borrow.Author.Tests.{eq-eqb, ne_eqb}
use Rattle.laws.specs.Among.{among}
use Rattle.record.specs.Record.{record_at}
use Rattle.record.specs.declared.Record.{Record}
use Rattle.grammar.specs.Kind.{LIST, RUN, Cmd, AlterTable, Select, ColumnDefinition, NamedTableConstraint}
use Rattle.grammar.specs.Shape.{one, slot}
use Rattle.grammar.specs.Grammar.{from, node, shape, root_kinds}
use Rattle.grammar.specs.Groups.{before_all, behind_all, inside, among_both, or_none}
use Rattle.grammar.specs.Slots.{allowed}
use Rattle.stream.specs.declared.Sink.{Sink}
use Rattle.tokens.specs.Tokens as tokens
use Rattle.tokens.specs.Tokens.{placed, comma, means, whole, tokens_of}
use Rattle.pen.specs.declared.Pen.{Pen}
use Rattle.mode.specs.declared.Edition.{Edition}
use Rattle.tokens.specs.Tokens.{in_edition}
use Rattle.pen.specs.Pen.{Scope, lent, source_in, Spot, Past, emit, put, Writes}
use Rattle.pen.specs.Places.{index, entered, alike}
use Rattle.parts.specs.Laws.{a_list_in}
use Rattle.cmd.specs.Root.{late_clauses, RootRow, root_out, Rooted}

-- ---- a group within another: kinds lo to hi are of both
or_true : (b : Bool) → (b || true) ≡ true
or_true true = refl
or_true false = refl

module _ {t x w o : List ℕ} {g : Scope} {d : ℕ} {r k : Record} {p : Pen} {b : Spot} (read : k ≡ record_at t p.next) where
  pub group_of : {ls : List ℕ} (lo n : ℕ) → lo ≤ k.kind → k.kind < lo + n → among k.kind ls ≡ true → Writes (lent t x g) w d r (slot (node (from lo n))) (p, o) b
      → Writes (lent t x g) w d r (slot (node ls)) (p, o) b
  group_of {ls} lo n h l m p = alike read (rw (inside k.kind lo n h l, m)) p

pub early_in : (k : ℕ) → Select ≤ k → k < ColumnDefinition → among k (from Select 20) ≡ true
early_in k h l = inside k Select 20 h l

pub late_in : (k : ℕ) → ColumnDefinition ≤ k → k < 119 → among k late_clauses ≡ true
late_in k h l = among_both k (from ColumnDefinition 19) (NamedTableConstraint ∷ []) ∙ rw (inside k ColumnDefinition 19 h l)

pub not_late : (k : ℕ) → k < ColumnDefinition → among k late_clauses ≡ false
not_late k h =
    among_both k (from ColumnDefinition 19) (NamedTableConstraint ∷ []) ∙ rw (before_all k ColumnDefinition 19 h, ne_eqb k NamedTableConstraint (λ e. omega arith))

pub last_late : (k : ℕ) → 118 < k → among k (RUN ∷ NamedTableConstraint ∷ []) ≡ among k (RUN ∷ late_clauses)
last_late k h =
    ap (λ (b : Bool). eqb k RUN || b) (sym (among_both k (from ColumnDefinition 19) (NamedTableConstraint ∷ []) ∙ rw (behind_all k ColumnDefinition 19 h)))

-- ---- what may be a root is a statement, or a clause
abbrev early : List ℕ
early = from Select 20

all_roots : (k : ℕ) → among k root_kinds ≡ (among k (RUN ∷ from AlterTable 33) || (among k early || among k late_clauses))
all_roots k =
    among_both k (RUN ∷ from AlterTable 33) (early ++ late_clauses) ∙ ap (λ (b : Bool). among k (RUN ∷ from AlterTable 33) || b) (among_both k early late_clauses)

pub root_stmt : (k : ℕ) → k < Select → among k (RUN ∷ from AlterTable 33) ≡ among k root_kinds
root_stmt k h = sym (all_roots k ∙ rw (before_all k Select 20 h, not_late k (omega arith)) (or_none (among k (RUN ∷ from AlterTable 33))))

none_low : (k : ℕ) → Select ≤ k → among k (RUN ∷ from AlterTable 33) ≡ false
none_low k h = rw (ne_eqb k RUN (λ e. omega arith)) (behind_all k AlterTable 33 (omega arith))

no_run : (k : ℕ) (ls : List ℕ) → Select ≤ k → among k (RUN ∷ ls) ≡ among k ls
no_run k ls h = rw (ne_eqb k RUN (λ e. omega arith))

pub root_early : (k : ℕ) → Select ≤ k → k < ColumnDefinition → among k (RUN ∷ early) ≡ among k root_kinds
root_early k h l = no_run k early h ∙ sym (all_roots k ∙ rw (none_low k h, not_late k l) (or_none (among k early)))

pub root_late : (k : ℕ) → ColumnDefinition ≤ k → among k (RUN ∷ late_clauses) ≡ among k root_kinds
root_late k h = no_run k late_clauses (omega arith) ∙ sym (all_roots k ∙ rw (none_low k (omega arith), behind_all k Select 20 h))

-- ---- the ways through a root
module _ {t w o : List ℕ} {k : Record} {p : Pen} (x : List ℕ) (v : Edition) (read : k ≡ record_at t p.next) where
  pub root_list : {d : ℕ} {q : Pen} {b : Spot} → Past t p q → k.kind ≡ LIST → RootRow (in_edition t x v) w d k.kids (q, o) b → Rooted (in_edition t x v) w d (p, o) b
  unfolding root_out
  root_list {d} past z h =
      let e : eqb (record_at t p.next).kind LIST ≡ true = rw (← read) (eq-eqb k.kind LIST z) in
      record { puts = rw e (a_list_in x (λ u. placed (in_edition t x u) (tokens.node (in_edition t x u) d) (one root_kinds)) comma read past z v h) }

  pub root_cmd : {d : ℕ} {q : Pen} {b : Spot} → Past t p q → k.kind ≡ Cmd → Writes (source_in t x v) w d k (shape Cmd) (q, o) b → Rooted (in_edition t x v) w (suc d) (p, o) b
  unfolding root_out placed allowed tokens.node means shape
  root_cmd past z h = record { puts = rw (← read, z, ← index past x v) (entered past (h.puts v)) }

  pub root_else : {d : ℕ} {r : Record} {b : Spot} → (k.kind ≡ LIST → ⊥) → (k.kind ≡ Cmd → ⊥) → Writes (source_in t x v) w d r (slot (one root_kinds)) (p, o) b
      → Rooted (in_edition t x v) w d (p, o) b
  unfolding root_out placed allowed means
  root_else z y h =
      record { puts = rw (← read, ne_eqb k.kind LIST z, ne_eqb k.kind Cmd y, or_none (among k.kind root_kinds)) (rw (← read) at (h.puts v)) }

-- the tokens of the tree are those of the root at its first record
pub all_tokens : {t x w o o' : List ℕ} {v : Edition} {s : Sink} {q : Pen} → Rooted (in_edition t x v) w 64 (record { sink = s; next = 0 }, o) (q, o') → (q.sink, o') ≡ emit w (s, o) (tokens_of (in_edition t x v))
unfolding root_out tokens_of whole put
all_tokens h = ap (λ (a : Spot). (a.0.sink, a.1)) h.puts.is
