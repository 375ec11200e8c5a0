-- How long the text of a tree can be: one induction over shapes and one over the depth.
-- Each record that is there pays for what its shape writes itself, and twice for its text part, and the index goes on behind it; so a row of
-- records writes at most what those pay that it takes up. Past the end of the tree nothing is written but what stands between and around the
-- elements of a LIST, for which the LIST has paid.
use Prim.Native.Nat.{ℕ, ◌+◌, ◌*◌, ◌≤◌, ◌<◌}
use Rattle.std.specs.Prelude.{cond, length, get_or}
use Rattle.std.proofs.Math.Dec.{eqb}
use Rattle.stream.specs.Length.{weigh}
use Rattle.record.specs.Record.{count}
use Rattle.record.specs.declared.Record.{Record}
use Rattle.grammar.specs.Kind.{LIST}
use Rattle.grammar.specs.Grammar.{shape}
use Rattle.tokens.specs.Tokens.{Source, Out, part}
use Rattle.tokens.specs.Ample.{sum}
use Rattle.tokens.specs.Weights.{longest, around, base}

-- what a record pays: a LIST for what stands between and around its elements, and any other for the words of its entry and twice for its text
-- part, since quotes may be doubled
unfoldable pub pays : Source → Record → ℕ
pays e r = cond (eqb r.kind LIST) (around * r.kids) ((base (shape r.kind)).words + 2 * length (part e r))

-- what the records before the index j pay
abbrev pub paid : Source → ℕ → ℕ
paid e j = sum (pays e) e.tree j

-- ---- from the index j on: the index goes on within the tree, and what is written is n bytes and what the records on the way pay
pub record Within (e : Source) (n j : ℕ) (o : Out) : Type 0 where
  pub low : j ≤ o.next
  pub high : o.next ≤ count e.tree
  pub weight : weigh o.tokens + paid e j ≤ n + paid e o.next

-- ---- a tree and a text of bytes that are not over-long
pub record Bounded (e : Source) : Type 0 where
  pub tree : length e.tree ≤ longest
  pub bytes : (k : ℕ) → get_or e.tree k 0 < 256
  pub text : length e.text ≤ longest
