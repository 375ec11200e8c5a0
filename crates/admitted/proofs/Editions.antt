-- Where the texts of the two editions are equal (02, viii): "no operator text with a quote, not both table options: then byte for byte".
-- A shape looks at the edition in two places only, `quoted` and `both`. One that has neither writes the same in both editions, whatever the
-- records below it write. All entries are of this sort but those of OperatorClause and ColumnsAndConstraints: that is one computed test.
-- The one writes the same where its text has no quote to double, and the other where not both of its options are there.
-- So a function that says of each record what its shape makes of what it says of the records below, in the crate's edition, does so in SQLite's
-- too. For a tree that the check admits such a function writes the tree's tokens, so both editions have the same ones.
use Prim.Native.Nat.{ℕ}
use Rattle.std.specs.Prelude.{◌≡◌, Bool, ◌&&◌, ◌||◌}
use Rattle.std.proofs.Math.Path.{refl, ap, ap₂, fun_ext, sym}
use Rattle.std.proofs.Common.{◌∙◌, eqb-true}
use mathlib.Core.List.{List, [], ◌∷◌, ◌++◌}
use Rattle.std.proofs.Math.Bool.{true, false, cond, or-true, and-false}
use Rattle.std.proofs.lemmas.Bool.{false≢true}
use Rattle.std.proofs.Math.Dec.{eqb}
use Rattle.laws.specs.Text.{ascii}
use Rattle.laws.specs.Tests.{and_parts}
use Rattle.mode.specs.declared.Edition.TheVariants.{Crate, Sqlite}
use Rattle.stream.specs.Stream as stream
use Rattle.stream.specs.Stream.{Token}
use Rattle.stream.specs.Doubled.{has_quote, doubled_none}
use Rattle.record.specs.Record.{count, bytes_at, record_at}
use Rattle.record.specs.declared.Record.{Record}
use Rattle.grammar.specs.Kind.{NONE, TEXT, ColumnsAndConstraints, OperatorClause, REPLACE}
use Rattle.grammar.specs.Shape.{Shape, nothing, token, ident, word, said, line, when, is, slot, each, commas, row, lines, tuples, given, filled, replacing, decimal, brackets, quoted, rowid, source, both, later, ◌·◌}
use Rattle.grammar.specs.Grammar.{text, maybe, shape}
use Rattle.grammar.specs.Slots.{allowed}
use Rattle.grammar.specs.Entries.{entry}
use Rattle.tree.specs.Check.{Admitted, Checks}
use Rattle.tokens.specs.Corners.{id, inner, quote, without}
use Rattle.tokens.specs.Tokens.{Source, in_edition, Out, at, behind, part, token_of, flagged, say, of, then, rows, listed, placed, checked, anything, between, means, node, deepest, whole, tokens_of, text_of}
use Rattle.admitted.specs.Watched.{whole_by}
use Rattle.admitted.specs.Same.{swapped}
use Rattle.admitted.specs.Solved.{Solves}
use Rattle.admitted.proofs.Solved.{solved}
use Rattle.admitted.proofs.Admitted.{as_solved}
use Rattle.admitted.specs.Editions.{Alike, both_at, columns, first_option, free, options, tree}

pub columns_first : shape ColumnsAndConstraints ≡ columns · options
unfolding shape
columns_first = refl

first_case : first_option (in_edition tree [] Crate) 0 ≡ 5
unfolding first_option node means placed listed rows behind allowed shape record_at bytes_at
first_case = refl

both_case : both_at (in_edition tree [] Crate) 5 ≡ true
unfolding behind record_at bytes_at
both_case = refl

-- all entries but two
all_free : (k : ℕ) → eqb k OperatorClause ≡ false → eqb k ColumnsAndConstraints ≡ false → free (shape k) ≡ true
unfolding free
all_free k p q =
    rw (p, q) at (entry (λ m s. (eqb m OperatorClause || eqb m ColumnsAndConstraints) || free s) k (or-true (eqb k OperatorClause || eqb k ColumnsAndConstraints)) refl)

-- no comma where not both are written
no_comma : (ts us : List Token) → anything ts && anything us ≡ false → between Sqlite ts us ≡ between Crate ts us
unfolding between
no_comma ts us h = rw h

-- ---- a tree and its text
module _ (t x : List ℕ) where
  abbrev crate : Source
  crate = in_edition t x Crate

  abbrev sqlite : Source
  sqlite = in_edition t x Sqlite

  -- whatever the records below write, as f says
  module _ (f : ℕ → ℕ → Out) (r : Record) where
    means_free : (a : Shape) → free a ≡ true → (j : ℕ) → means sqlite f r a j ≡ means crate f r a j
    unfolding means free placed listed checked token_of behind
    means_free nothing h j = refl
    means_free token h j = refl
    means_free ident h j = refl
    means_free (word w) h j = refl
    means_free (said w) h j = refl
    means_free (line w) h j = refl
    means_free (when bit a) h j = ap (λ (o : Out). cond (flagged bit r) o (say [] j)) (means_free a h j)
    means_free (is n a) h j = ap (λ (o : Out). cond (eqb r.flags n) o (say [] j)) (means_free a h j)
    means_free (slot d) h j = refl
    means_free (each d) h j = refl
    means_free (commas d) h j = refl
    means_free (row d) h j = refl
    means_free (lines d w) h j = refl
    means_free (tuples d) h j = refl
    means_free (given a) h j = ap (cond (eqb (at crate j).kind NONE) (of crate j [])) (means_free a h j)
    means_free (filled a) h j = ap (cond (eqb (at crate j).kids 0) (of crate j [])) (means_free a h j)
    means_free (replacing a b) h j =
        let p = and_parts (free a) (free b) h in
        ap₂ (cond (eqb (at crate j).kind REPLACE)) (means_free a p.0 j) (means_free b p.1 j)
    means_free decimal h j = refl
    means_free brackets h j = refl
    means_free quoted h j = absurd (false≢true h)
    means_free rowid h j = refl
    means_free source h j = refl
    means_free (both a b) h j = absurd (false≢true h)
    means_free (later a b) h j =
        let p = and_parts (free a) (free b) h in
        ap₂ swapped (means_free a p.0 j) (fun_ext (means_free b p.1))
    means_free (a · b) h j =
        let p = and_parts (free a) (free b) h in
        ap₂ then (means_free a p.0 j) (fun_ext (means_free b p.1))

    -- ---- an operator's text
    means_quoted : (j : ℕ) → has_quote (part crate (at crate j)) ≡ false → means sqlite f r quoted j ≡ means crate f r quoted j
    unfolding means quote inner behind
    means_quoted j h = rw (doubled_none (part crate (at crate j)) h)

    means_operator : (j : ℕ) → has_quote (part crate (at crate j)) ≡ false → means sqlite f r (shape OperatorClause) j ≡ means crate f r (shape OperatorClause) j
    unfolding means shape placed behind
    means_operator j h = ap (λ (o : Out). then (say (id (ascii "OPERATOR") ∷ []) j) (λ k. then o (means crate f r (slot (maybe text))))) (means_quoted j h)

    -- ---- the options: the second one writes nothing where it is no TEXT
    second_none : Solves crate f → (j : ℕ) → eqb (at crate j).kind TEXT ≡ false → (placed crate f (maybe text) j).tokens ≡ []
    unfolding placed allowed means shape
    second_none solves j q = by (eqb (at crate j).kind NONE) refl
      where
        by : (b : Bool) → eqb (at crate j).kind NONE ≡ b → (cond (b || (eqb (at crate j).kind TEXT || false)) (f (at crate j).kind j) (of crate j [])).tokens ≡ []
        by true z =
            let w : means crate f (at crate j) (shape (at crate j).kind) (behind crate j) ≡ say [] (behind crate j) = rw (eqb-true (at crate j).kind NONE z) in
            ap (λ (o : Out). o.tokens) (solves j ∙ w)
        by false z = rw q

    -- nor does the first one, so where not both are there, not both are written
    not_both_lem : Solves crate f → (j : ℕ) → both_at crate j ≡ false
        → anything (means crate f r rowid j).tokens && anything (placed crate f (maybe text) (behind crate j)).tokens ≡ false
    unfolding means anything
    not_both_lem solves j h = by (eqb (at crate j).kind TEXT) h
      where
        by : (b : Bool) → b && eqb (at crate (behind crate j)).kind TEXT ≡ false
            → anything (cond b (without (part crate (at crate j))) []) && anything (placed crate f (maybe text) (behind crate j)).tokens ≡ false
        by true q = rw (second_none solves (behind crate j) q, and-false (anything (without (part crate (at crate j)))))
        by false q = refl

    means_options : Solves crate f → (j : ℕ) → both_at crate j ≡ false → means sqlite f r options j ≡ means crate f r options j
    unfolding means placed behind
    means_options solves j h =
        let a = means crate f r rowid j in
        let b = placed crate f (maybe text) (behind crate j) in
        ap (λ (m : List Token). record { tokens = a.tokens ++ (m ++ b.tokens); next = b.next }) (no_comma a.tokens b.tokens (not_both_lem solves j h))

    -- the brackets, and the options behind them
    means_columns : Solves crate f → (j : ℕ) → both_at crate (means crate f r columns j).next ≡ false
        → means sqlite f r (columns · options) j ≡ means crate f r (columns · options) j
    unfolding means free
    means_columns solves j h =
        ap (λ (o : Out). then o (means sqlite f r options)) (means_free columns refl j)
        ∙ ap (λ (o : Out). then (means crate f r columns j) (λ k. o)) (means_options solves (means crate f r columns j).next h)

  -- what each record writes in the crate's edition
  abbrev written : ℕ → ℕ → Out
  written = node crate (count t)

  -- one function for both editions, for every tree
  pub solves_both : Alike crate → Solves sqlite written
  unfolding behind first_option
  solves_both alike j = solved crate j ∙ sym (by (eqb k OperatorClause) (eqb k ColumnsAndConstraints) refl refl)
    where
      k : ℕ
      k = (at crate j).kind

      by : (a b : Bool) → eqb k OperatorClause ≡ a → eqb k ColumnsAndConstraints ≡ b
          → means sqlite written (at crate j) (shape k) (behind crate j) ≡ means crate written (at crate j) (shape k) (behind crate j)
      by true b p q = let z = eqb-true k OperatorClause p in rw (ap shape z) (means_operator written (at crate j) (behind crate j) (alike.no_quote j z))
      by false true p q =
          let z = eqb-true k ColumnsAndConstraints q in
          rw (ap shape z ∙ columns_first) (means_columns written (at crate j) (solved crate) (behind crate j) (alike.not_both j z))
      by false false p q = means_free written (at crate j) (shape k) (all_free k p q) (behind crate j)

  same_whole : Checks t x Admitted → Alike crate → whole sqlite deepest ≡ whole crate deepest
  unfolding whole_by listed placed behind
  same_whole admitted alike = sym (as_solved sqlite admitted written (solves_both alike)) ∙ as_solved crate admitted written (solved crate)

-- ---- a tree that the check admits, byte for byte
pub same_tokens : (t x : List ℕ) → Checks t x Admitted → Alike (in_edition t x Crate) → tokens_of (in_edition t x Sqlite) ≡ tokens_of (in_edition t x Crate)
unfolding tokens_of
same_tokens t x admitted alike = ap (λ (o : Out). o.tokens) (same_whole t x admitted alike)

pub same_text : (t x : List ℕ) → Checks t x Admitted → Alike (in_edition t x Crate) → text_of (in_edition t x Sqlite) ≡ text_of (in_edition t x Crate)
unfolding text_of
same_text t x admitted alike = ap (stream.text true) (same_tokens t x admitted alike)
