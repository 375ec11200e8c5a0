-- What holds of a tree that the check admits: the depth of 64 that its tokens are defined with is never used up, the walk reads the whole of
-- it and passes over no record, and its tokens are those of the definition without a depth. `Reads` has the argument.
use Prim.Native.Nat.{ℕ, suc, ◌+◌, ◌-◌, ◌≤◌}
use native.Mathlib.Omega.{arith}
use Rattle.std.specs.Prelude.{◌≡◌, refl, []}
use Rattle.std.proofs.Common.{◌∙◌}
use Rattle.std.proofs.Math.Path.{ap, sym}
use Rattle.std.proofs.Math.Bool.{true}
use Rattle.stream.specs.Stream as stream
use Rattle.record.specs.Record.{count}
use Rattle.grammar.specs.Grammar.{shape}
use Rattle.tree.specs.Check.{Admitted, Checks}
use Rattle.tokens.specs.Tokens.{Source, Out, at, behind, node, deepest, whole, tokens_of, text_of}
use Rattle.admitted.specs.Watched.{levels, passed, whole_by}
use Rattle.admitted.specs.Watched.{watched_whole}
use Rattle.admitted.proofs.Watched.{watched_passed, whole_passed}
use Rattle.admitted.specs.Same.{Same}
use Rattle.admitted.specs.Fills.{Fills}
use Rattle.admitted.proofs.Fills.{root_filled, at_end}
use Rattle.admitted.specs.Reads.{Rises}
use Rattle.admitted.proofs.Watching.{whole_same}
use Rattle.admitted.specs.Solved.{Solves}
use Rattle.admitted.proofs.Solved.{one_solution, solved}
use Rattle.admitted.specs.Admitted.{left_open}

module _ (e : Source) (admitted : Checks e.tree e.text Admitted) where
  nodes : (d : ℕ) → Rises e (passed e) (λ n. node e (n + d))
  unfolding node
  nodes d n j = let z : suc n + d ≡ suc (n + d) = omega arith in rw z (sym (watched_passed e (node e (n + d)) (at e j) (shape (at e j).kind) (behind e j)))

  -- 64 levels of any such rows come to the same, and no record is left behind them
  walks : (u : ℕ → Out) (φ : ℕ → ℕ → ℕ → Out) → Rises e u φ → Same (Fills e []) (whole e deepest) (watched_whole e u (φ deepest))
  unfolding whole whole_by
  walks u φ r = rw (whole_passed e (node e deepest)) at (whole_same e (passed e) u (λ n. node e (n + 0)) φ (nodes 0) r (root_filled e admitted))

  -- nothing is asked of a record below level 64, nor of one whose kind may not stand in its place: whatever is said of them, the tokens are the tree's
  pub never_asked : (u : ℕ → Out) (f : ℕ → ℕ → Out) → left_open e u f ≡ whole e deepest
  unfolding left_open levels
  never_asked u f = sym (walks u (levels e u f) (λ n j. refl)).is

  -- so any greater depth writes the same
  pub deep_enough : (d : ℕ) → deepest ≤ d → whole e d ≡ whole e deepest
  unfolding whole whole_by
  deep_enough d h =
      let z : d ≡ deepest + (d - deepest) = omega arith in
      rw z (sym ((walks (passed e) (λ n. node e (n + (d - deepest))) (nodes (d - deepest))).is ∙ whole_passed e (node e (deepest + (d - deepest)))))

  -- every record is read: the walk ends at the end of the tree
  pub reads_all : (whole e deepest).next ≡ count e.tree
  reads_all = at_end (walks (passed e) (λ n. node e (n + 0)) (nodes 0)).on

  -- without a depth: if f says of each record what its shape makes of what f says of the records below it, f writes the tree's tokens
  module _ (f : ℕ → ℕ → Out) (solves : Solves e f) where
    pub as_solved : whole_by e f ≡ whole e deepest
    as_solved =
        sym ((walks (passed e) (λ n. f) (λ n j. solves j ∙ sym (watched_passed e f (at e j) (shape (at e j).kind) (behind e j)))).is ∙ whole_passed e f)

    pub text_solved : stream.text true (whole_by e f).tokens ≡ text_of e
    unfolding text_of tokens_of
    text_solved = ap (λ (o : Out). stream.text true o.tokens) as_solved

-- and there is such an f for every tree, and of no record do two say different things
pub solution : (e : Source) → Solves e (node e (count e.tree))
solution e = solved e

pub no_other : (e : Source) (f g : ℕ → ℕ → Out) → Solves e f → Solves e g → (j : ℕ) → f (at e j).kind j ≡ g (at e j).kind j
no_other e f g p q = one_solution e f g p q
