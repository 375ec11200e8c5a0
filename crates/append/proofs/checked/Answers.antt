-- `append::checked` meets its contract: the first fitting refusal, or what `put` does.
use Rattle.append.specs.Laws.{all_refused, all_accepted}
use Rattle.append.proofs.Laws.{all_ready}
use Rattle.append.proofs.checked.Goals as goal

pub put-requires : goal.put-requires
put-requires c =
    let at_told = c in
    let at-any = at_told in
    let start = at-any in
    all_ready _ start.args.out.now _ _ _ _ start.requires at-any.any_refusal-first.ensures at_told.in-Ok.is

pub returns-in-Err : goal.returns-in-Err
returns-in-Err c = all_refused _ _ _ _ _ _ c.any_refusal-first.ensures c.in-Err.is

pub returns-in-Ok : goal.returns-in-Ok
returns-in-Ok c =
    let at-put = c in
    let at_told = at-put in
    all_accepted _ _ _ _ _ _ _ _ at_told.any_refusal-first.ensures at_told.in-Ok.is at-put.put.ensures
