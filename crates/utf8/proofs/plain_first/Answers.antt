-- `utf8::plain_first` meets its contract: the fold goes on with the test of each byte. Assumes nothing.
use Rattle.std.proofs.Common.{◌∙◌, Bool, true, ◌&&◌, take, rules, tests}
use Rattle.std.proofs.lemmas.Iterator.{YieldsList-from_slice}
use Rattle.std.proofs.lemmas.Iterator.Consumers.{fold_from_yields_List}
use Rattle.utf8.specs.Plain.{plain, folded}
use Rattle.utf8.proofs.plain_first.Goals as goal

pub returns : goal.returns
returns g c =
    let s = take g.row.N c.args.s.now in
    fold_from_yields_List {s = c.iter.result} _ (λ (a : Bool) b. a && plain b) true c.fold.result c.fold.ensures.ran (YieldsList-from_slice s cc) (λ a x b q k. search (rules, tests)) ∙ folded true s
