-- Elements of lists of RUNs and of LISTs of RUNs, whatever the depth is.
use Rattle.std.specs.Prelude.{ℕ, List, [], ◌∷◌, cond, eqb}
use Rattle.grammar.specs.Grammar.{run, maybe}
use Rattle.mode.specs.declared.Edition.{Edition}
use Rattle.grammar.specs.Kind.{NONE}
use Rattle.spelling.specs.Token.{TK_SEMI}
use Rattle.tokens.specs.Corners.{valued, id, newline}
use Rattle.tokens.specs.Tokens.{Source, Out, at, say, of, then, listed, placed, comma, bracketed, node}
use Rattle.pen.specs.Pen.{Lent, source_of, Spot, Puts}

-- a RUN with a `;` and a newline behind it
abbrev pub ended : Source → ℕ → ℕ → Out
ended e d k = then (placed e (node e d) run k) (say (valued TK_SEMI newline ∷ []))

abbrev pub Ended : Lent → List ℕ → Spot → Spot → Type 0
Ended e w a b = (d : ℕ) (v : Edition) → Puts w (ended (source_of v e) d a.0.next) a b

-- a LIST of RUNs in brackets
abbrev pub tuple : Source → ℕ → ℕ → Out
tuple e d k = bracketed (listed e (placed e (node e d) run) comma) k

-- TK_ID with this text and a RUN, unless that is NONE
pub record SaidClause (e : Lent) (w v : List ℕ) (a b : Spot) : Type 0 where
  pub puts : (d : ℕ) (u : Edition)
      → Puts w (cond (eqb (at (source_of u e) a.0.next).kind NONE) (of (source_of u e) a.0.next []) (then (say (id v ∷ []) a.0.next) (placed (source_of u e) (node (source_of u e) d) (maybe run)))) a b
