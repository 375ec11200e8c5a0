-- `blank::all_blank` meets its contract: a first byte past the space is none of the five, and the chain asks the bytes one after the other, as the definition does.
use Rattle.std.proofs.Common.{rules, tests, arith, ◌∙◌, sym}
use Rattle.std.proofs.lemmas.Iterator.{YieldsList-from_slice}
use Rattle.std.proofs.lemmas.Iterator.Search.{all_from_yields_List}
use Rattle.blank.specs.Blank.{blank}
use Rattle.blank.specs.Laws.{all_listed, first_past}
use Rattle.blank.proofs.all_blank.Goals as goal

pub returns : goal.returns
returns c =
    all_from_yields_List blank _ _ c.all.result c.all.ensures.ran (YieldsList-from_slice c.args.v.now cc) (λ x b q k. search (rules, tests))
    ∙ sym (all_listed c.args.v.now)

pub returns-then-v-gt-SPACE : goal.returns-then-v-gt-SPACE
returns-then-v-gt-SPACE c = first_past _ (search (rules, tests)) (omega (arith, c.if-v-gt-SPACE.true))
