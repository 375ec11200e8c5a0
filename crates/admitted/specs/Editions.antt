-- Where the texts of the two editions are equal (02, viii): "no operator text with a quote, not both table options: then byte for byte".
-- A shape looks at the edition in two places only, `quoted` and `both`. One that has neither writes the same in both editions, whatever the
-- records below it write. All entries are of this sort but those of OperatorClause and ColumnsAndConstraints: that is one computed test.
-- The one writes the same where its text has no quote to double, and the other where not both of its options are there.
-- So a function that says of each record what its shape makes of what it says of the records below, in the crate's edition, does so in SQLite's
-- too. For a tree that the check admits such a function writes the tree's tokens, so both editions have the same ones.
use Prim.Native.Nat.{ℕ}
use Rattle.std.specs.Prelude.{◌≡◌, Bool, ◌&&◌}
use mathlib.Core.List.{List, [], ◌∷◌, ◌++◌}
use Rattle.std.proofs.Math.Bool.{true, false}
use Rattle.std.proofs.Math.Dec.{eqb}
use Rattle.laws.specs.Little.{little}
use Rattle.spelling.specs.Token.{TK_COMMA}
use Rattle.stream.specs.Doubled.{has_quote}
use Rattle.record.specs.Record.{count}
use Rattle.grammar.specs.Kind.{LIST, TOKEN, RUN, TEXT, ColumnsAndConstraints, OperatorClause, NamedTableConstraint}
use Rattle.grammar.specs.Shape.{Shape, nothing, token, ident, word, said, line, when, is, slot, each, commas, row, lines, tuples, given, filled, replacing, decimal, brackets, quoted, rowid, source, both, later, ◌·◌}
use Rattle.grammar.specs.Grammar.{text, maybe, column_definition, parens}
use Rattle.grammar.specs.Grammar.{node as node_of}
use Rattle.tokens.specs.Tokens.{Source, at, behind, part, means, node}

-- what ColumnsAndConstraints writes before its options, and its options
abbrev pub columns : Shape
columns = parens (commas column_definition · filled (word TK_COMMA · commas (node_of (NamedTableConstraint ∷ []))))

abbrev pub options : Shape
options = both rowid (slot (maybe text))

-- the index of the first option of the ColumnsAndConstraints at j: the one behind its brackets
unfoldable pub first_option : Source → ℕ → ℕ
first_option e j = (means e (node e (count e.tree)) (at e j) columns (behind e j)).next

-- whether both options are there, the first one at j: an option is a TEXT, and NONE where there is none
abbrev pub both_at : Source → ℕ → Bool
both_at e j = eqb (at e j).kind TEXT && eqb (at e (behind e j)).kind TEXT

-- a case: the brackets have one column, a RUN of one TOKEN, and an empty LIST of constraints
abbrev pub rec : ℕ → ℕ → List ℕ
rec kind kids = 0x53 ∷ 0x4E ∷ little 2 kind ++ little 2 0 ++ little 2 kids ++ little 8 0

abbrev pub tree : List ℕ
tree = rec ColumnsAndConstraints 4 ++ rec LIST 1 ++ rec RUN 1 ++ rec TOKEN 0 ++ rec LIST 0 ++ rec TEXT 0 ++ rec TEXT 0

-- "no operator text with a quote, not both table options"
pub record Alike (e : Source) : Type 0 where
  -- the operator's text is the clause's first child
  pub no_quote : (j : ℕ) → (at e j).kind ≡ OperatorClause → has_quote (part e (at e (behind e j))) ≡ false
  pub not_both : (j : ℕ) → (at e j).kind ≡ ColumnsAndConstraints → both_at e (first_option e j) ≡ false

-- ---- a shape that does not look at the edition
unfoldable pub free : Shape → Bool
free nothing = true
free token = true
free ident = true
free (word w) = true
free (said s) = true
free (line w) = true
free (when bit a) = free a
free (is n a) = free a
free (slot c) = true
free (each c) = true
free (commas c) = true
free (row c) = true
free (lines c w) = true
free (tuples c) = true
free (given a) = free a
free (filled a) = free a
free (replacing a b) = free a && free b
free decimal = true
free brackets = true
free quoted = false
free rowid = true
free source = true
free (both a b) = false
free (later a b) = free a && free b
free (a · b) = free a && free b
