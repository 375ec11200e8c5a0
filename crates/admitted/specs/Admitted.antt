-- What holds of a tree that the check admits: the depth of 64 that its tokens are defined with is never used up, the walk reads the whole of
-- it and passes over no record, and its tokens are those of the definition without a depth. `Reads` has the argument.
use Prim.Native.Nat.{ℕ}
use Rattle.tokens.specs.Tokens.{Source, Out, deepest}
use Rattle.admitted.specs.Watched.{levels, watched_whole}

-- what a tree writes where u says what is written of a record whose kind may not stand in its place, and f of one below level 64
unfoldable pub left_open : Source → (ℕ → Out) → (ℕ → ℕ → Out) → Out
left_open e u f = watched_whole e u (levels e u f deepest)
