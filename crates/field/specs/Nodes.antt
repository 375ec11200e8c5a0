-- What the walk knows of a place, in a number: whether it takes a ported node, and whether a LIST's elements there do, and so on down.
-- A kind's places are a number, a byte for each child (`along`); they are computed from its entry, and by `codes_below` they are right for every record.
use Rattle.std.specs.Prelude.{ℕ, zero, suc, ◌+◌, ◌-◌, ◌*◌, ◌/◌, ◌%◌, ◌^◌, ◌≤◌, ◌<◌, ◌≡◌, refl, List, [], ◌∷◌, map, Bool, true, false, not, cond, ◌&&◌, ◌||◌, eqb, ltb, replicate}
use Rattle.std.proofs.Common.{arith, ◌∙◌, sym}
use Rattle.std.proofs.Math.Path.{ap}
use Rattle.std.proofs.Math.Bool.{or-true}
use Rattle.std.proofs.Math.ListN.{length}
use borrow.Author.Tests.{eqb-true, eqb-false, eq-eqb, ne_eqb, lt-ltb, le-ltb}
use Rattle.laws.specs.Among.{among, all}
use Rattle.laws.specs.Bytes.{same, equal}
use Rattle.laws.specs.Little.{from_little}
use Rattle.laws.specs.Tests.{or_left}
use Rattle.record.specs.Record.{record_at}
use Rattle.record.specs.declared.Record.{Record}
use Rattle.grammar.specs.Kind.{LIST, TOKEN, RUN, Cmd, AlterTable, CreateIndex, CreateTable, CreateView, CreateMaterializedView, Delete, Insert, SelectStmt, Update, CreateType, CreateDomain, Select, SelectBody, CompoundSelect, OneSelect, FromClause, JoinedTable, TableSelect, Sub, AddColumn, AlterColumn, ColumnsAndConstraints, AsSelect, ColumnDefinition, ForeignKey, CommonTableExpr, With, Struct, Union, CustomType, TypeField, NamedTableConstraint}
use Rattle.grammar.specs.Shape.{Class, one, list, one_or, small, ruled, Shape, nothing}
use Rattle.grammar.specs.Grammar.{table, shape}
use Rattle.grammar.specs.Slots.{slots_of, elements}
use Rattle.grammar.specs.Packed.{each, turn}
use Rattle.grammar.specs.Entries.{entries, entry}
use Rattle.tree.specs.Check.{holds, fits}
use Rattle.tree.proofs.Steps.{kids_are}
use Rattle.field.specs.Profile.{foreign, first_node, takes_node, deepest}

-- ---- the numbers
unfoldable pub nodes_at : Class → ℕ
nodes_at (one ks) = cond (takes_node (one ks)) 1 0
nodes_at (list c) = 2 * nodes_at c
nodes_at (one_or ks c) = cond (takes_node (one_or ks c)) 1 0 + 2 * nodes_at c
nodes_at small = 0
nodes_at (ruled u) = 0

-- the places of a kind's children, the first the lowest byte
unfoldable pub nodes_of : ℕ → ℕ
nodes_of k = from_little (map nodes_at (slots_of (shape k)))

-- of the children of a kind that stands in a place: a LIST's elements all stand in the same one
unfoldable pub nodes_below : ℕ → ℕ → ℕ
nodes_below u k = cond (eqb k LIST) (u / 2 * each) (nodes_of k)

-- the first n places of a number: it goes round
abbrev pub codes : ℕ → ℕ → List ℕ
codes u zero = []
codes u (suc n) = u % 256 ∷ codes (turn u) n

-- a record in a place with a number, with so much depth left
unfoldable pub breaks_by : List ℕ → ℕ → ℕ → ℕ → Bool
breaks_by t i u left = eqb left 0 || ((eqb (record_at t i).kind RUN && eqb (u % 2) 1) || foreign t i)

-- ---- a place's number says what the place takes
module _ (n : ℕ) where
  bit_told : (b : Bool) → eqb ((cond b 1 0 + 2 * n) % 2) 1 ≡ b
  bit_told true = eq-eqb ((1 + 2 * n) % 2) 1 (omega arith)
  bit_told false = ne_eqb ((0 + 2 * n) % 2) 1 (λ e. omega arith)

  half_told : (b : Bool) → (cond b 1 0 + 2 * n) / 2 ≡ n
  half_told true = omega arith
  half_told false = omega arith

single_told : (b : Bool) → eqb (cond b 1 0 % 2) 1 ≡ b
single_told true = refl
single_told false = refl

single_half : (b : Bool) → cond b 1 0 / 2 ≡ 0
single_half true = refl
single_half false = refl

pub takes_is : (c : Class) → eqb (nodes_at c % 2) 1 ≡ takes_node c
unfolding nodes_at takes_node
takes_is (one ks) = single_told (not (all (λ k. ltb k first_node) ks))
takes_is (list c) = ne_eqb (2 * nodes_at c % 2) 1 (λ e. omega arith)
takes_is (one_or ks c) = bit_told (nodes_at c) (not (all (λ k. ltb k first_node) ks))
takes_is small = refl
takes_is (ruled u) = refl

elements_are : (c : Class) → nodes_at c / 2 ≡ nodes_at (elements c)
unfolding nodes_at takes_node elements
elements_are (one ks) = single_half (not (all (λ k. ltb k first_node) ks))
elements_are (list c) = omega arith
elements_are (one_or ks c) = half_told (nodes_at c) (not (all (λ k. ltb k first_node) ks))
elements_are small = refl
elements_are (ruled u) = refl

pub depthless : (left : ℕ) → eqb left 0 ≡ ltb deepest (25 - left)
depthless left = by (eqb left 0) refl
  where
    by : (b : Bool) → eqb left 0 ≡ b → eqb left 0 ≡ ltb deepest (25 - left)
    by true e = let z = eqb-true left 0 e in e ∙ sym (lt-ltb deepest (25 - left) (omega arith))
    by false e = let z = eqb-false left 0 e in e ∙ sym (le-ltb deepest (25 - left) (omega arith))

pub depth_left : (t : List ℕ) (i u left : ℕ) → breaks_by t i u left ≡ false → 1 ≤ left
unfolding breaks_by
depth_left t i u left e = let z = eqb-false left 0 (or_left (eqb left 0) _ e) in omega arith

-- ---- the places of a record's children
-- a byte over and over is the same when it is turned
pub same_codes : (e : ℕ) → e < 256 → (n : ℕ) → codes (e * each) n ≡ replicate n e
unfolding turn
same_codes e h zero = refl
same_codes e h (suc n) =
    let f : e * each % 256 ≡ e = omega arith in
    let g : e * each / 256 + e * 2 ^ 56 ≡ e * each = omega arith in
    rw (f, g, same_codes e h n)

mapped : (c : Class) (n : ℕ) → map nodes_at (replicate n c) ≡ replicate n (nodes_at c)
mapped c zero = refl
mapped c (suc n) = rw (mapped c n)

-- of every entry the number has the bytes of its slots
abbrev coded : ℕ → Shape → Bool
coded k s = same (map nodes_at (slots_of s)) (codes (from_little (map nodes_at (slots_of s))) (length (slots_of s)))

all_coded : entries coded table ≡ true
unfolding nodes_at takes_node slots_of turn
all_coded = refl

no_slots : (k : ℕ) → coded k nothing ≡ true
unfolding slots_of
no_slots k = refl

slots_coded : (k : ℕ) → map nodes_at (slots_of (shape k)) ≡ codes (nodes_of k) (length (slots_of (shape k)))
unfolding nodes_of
slots_coded k = equal _ _ (entry coded k (no_slots k) all_coded)

module _ (c : Class) (r : Record) where
  list_coded : nodes_at c < 256 → r.kind ≡ LIST → map nodes_at (holds c r) ≡ codes (nodes_below (nodes_at c) r.kind) r.kids
  unfolding holds nodes_below
  list_coded h e =
      rw (eq-eqb r.kind LIST e, mapped (elements c) r.kids, ← elements_are c) (sym (same_codes (nodes_at c / 2) (omega arith) r.kids))

  run_coded : (r.kind ≡ LIST → ⊥) → r.kind ≡ RUN → map nodes_at (holds c r) ≡ codes (nodes_below (nodes_at c) r.kind) r.kids
  unfolding holds nodes_below nodes_of nodes_at takes_node slots_of shape
  run_coded no_list e = rw (e, mapped (one (TOKEN ∷ [])) r.kids) (sym (same_codes 0 (omega arith) r.kids))

  slots_hold : (r.kind ≡ LIST → ⊥) → (r.kind ≡ RUN → ⊥) → holds c r ≡ slots_of (shape r.kind)
  unfolding holds
  slots_hold no_list no_run = rw (ne_eqb r.kind LIST no_list, ne_eqb r.kind RUN no_run)

  node_coded : fits c r ≡ true → (r.kind ≡ LIST → ⊥) → (r.kind ≡ RUN → ⊥) → map nodes_at (holds c r) ≡ codes (nodes_below (nodes_at c) r.kind) r.kids
  unfolding nodes_below
  node_coded fe no_list no_run =
      let h = slots_hold no_list no_run in
      let n : r.kids ≡ length (slots_of (shape r.kind)) = kids_are c r fe ∙ ap length h in
      ap (map nodes_at) h ∙ slots_coded r.kind ∙ rw (ne_eqb r.kind LIST no_list) (ap (codes (nodes_of r.kind)) (sym n))

  -- a record that fits a place with a number has children in the places with those below it
  pub codes_below : nodes_at c < 256 → fits c r ≡ true → map nodes_at (holds c r) ≡ codes (nodes_below (nodes_at c) r.kind) r.kids
  codes_below h fe = by (eqb r.kind LIST) (eqb r.kind RUN) refl refl
    where
      by : (a b : Bool) → eqb r.kind LIST ≡ a → eqb r.kind RUN ≡ b → map nodes_at (holds c r) ≡ codes (nodes_below (nodes_at c) r.kind) r.kids
      by true b p q = list_coded h (eqb-true r.kind LIST p)
      by false true p q = run_coded (eqb-false r.kind LIST p) (eqb-true r.kind RUN q)
      by false false p q = node_coded fe (eqb-false r.kind LIST p) (eqb-false r.kind RUN q)

-- ---- the kinds whose number is not 0, the last first
abbrev pub holders : List ℕ
holders =
    NamedTableConstraint
    ∷ TypeField
    ∷ CustomType
    ∷ Union
    ∷ Struct
    ∷ With
    ∷ CommonTableExpr
    ∷ ForeignKey
    ∷ ColumnDefinition
    ∷ AsSelect
    ∷ ColumnsAndConstraints
    ∷ AlterColumn
    ∷ AddColumn
    ∷ Sub
    ∷ TableSelect
    ∷ JoinedTable
    ∷ FromClause
    ∷ OneSelect
    ∷ CompoundSelect
    ∷ SelectBody
    ∷ Select
    ∷ CreateDomain
    ∷ CreateType
    ∷ Update
    ∷ SelectStmt
    ∷ Insert
    ∷ Delete
    ∷ CreateMaterializedView
    ∷ CreateView
    ∷ CreateTable
    ∷ CreateIndex
    ∷ AlterTable
    ∷ Cmd
    ∷ []

abbrev told : ℕ → Shape → Bool
told k s = among k holders || eqb (from_little (map nodes_at (slots_of s))) 0

all_told : entries told table ≡ true
unfolding nodes_at takes_node slots_of
all_told = refl

slotless : (k : ℕ) → told k nothing ≡ true
unfolding slots_of
slotless k = or-true (among k holders)

pub none_held : (k : ℕ) → among k holders ≡ false → 0 ≡ nodes_of k
unfolding nodes_of
none_held k h = sym (eqb-true _ 0 (rw h at (entry told k (slotless k) all_told)))
