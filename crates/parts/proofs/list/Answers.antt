-- `parts::list` writes the elements of a LIST.
use Rattle.parts.specs.Laws.{no_list, a_list_in}
use Rattle.parts.proofs.list.Goals as goal

pub returns-then-r-ne-LIST : goal.returns-then-r-ne-LIST
returns-then-r-ne-LIST g c v f h =
    let at_pass = c in
    let at_read = at_pass in
    no_list at_read.args.from.now.text.now (λ u. f) _ at_read.read-r.ensures at_pass.pass-q.ensures c.if-r-ne-LIST.true v

pub returns : goal.returns
returns g c v f h =
    let at_elements = c in
    let at_if1 = at_elements in
    let at_pass = at_if1 in
    let at_read = at_pass in
    a_list_in at_read.args.from.now.text.now (λ u. f) _ at_read.read-r.ensures at_pass.pass-q.ensures at_if1.if-r-ne-LIST.false v (at_elements.elements.ensures f h)
