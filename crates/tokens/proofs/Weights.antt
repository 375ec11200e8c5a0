-- What single tokens and the words of a shape come to, in bytes: for the bound of a text.
use Rattle.std.specs.Prelude.{ℕ, ◌+◌, ◌*◌, ◌≤◌, List, [], ◌∷◌, length}
use Rattle.std.proofs.Common.{arith, length-append}
use Rattle.laws.specs.Text.{ascii}
use Rattle.mode.specs.declared.Edition.{Edition}
use Rattle.stream.specs.Length.{longest_token, weigh, weigh_one}
use Rattle.tokens.specs.Corners.{inner, quote}
use Rattle.tokens.specs.Weights.{inner_length}

pub quote_weight : (v : Edition) (x : List ℕ) → weigh (quote v x ∷ []) ≤ longest_token + 2 + 2 * length x
unfolding quote
quote_weight v x = omega (arith, weigh_one (quote v x), length-append (inner v x) (ascii "'"), inner_length v x)
