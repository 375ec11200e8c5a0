-- `root` writes Cmd, the elements of a LIST, or what stands there.
use mathlib.Core.Path.{refl}
use Rattle.record.specs.Laws as records
use Rattle.cmd.specs.Laws.{root_list, root_cmd, root_else}
use Rattle.cmd.proofs.root.Goals as goal

pub returns-then-r-eq-LIST : goal.returns-then-r-eq-LIST
returns-then-r-eq-LIST c =
    let at-root-elements = c in
    let at-if1 = at-root-elements in
    let at-pass = at-if1 in
    let at_read = at-pass in
    let at-args = at_read in
    root_list at-args.args.from.now.text.now at-args.args.from.now.edition at_read.read-r.ensures at-pass.pass-q.ensures at-if1.if-r-eq-LIST.true at-root-elements.root_elements.ensures

pub returns-then-r-eq-CMD : goal.returns-then-r-eq-CMD
returns-then-r-eq-CMD c =
    let at-cmd = c in
    let at-if2 = at-cmd in
    let at-pass = at-if2 in
    let at_read = at-pass in
    let at-args = at_read in
    root_cmd at-args.args.from.now.text.now at-args.args.from.now.edition at_read.read-r.ensures at-pass.pass-q.ensures at-if2.if-r-eq-CMD.true (at-cmd.cmd.ensures _ refl)

pub returns : goal.returns
returns c =
    let at-root-element = c in
    let at-if2 = at-root-element in
    let at-if1 = at-if2 in
    let at_read = at-if1 in
    let at-args = at_read in
    root_else at-args.args.from.now.text.now at-args.args.from.now.edition at_read.read-r.ensures at-if1.if-r-eq-LIST.false at-if2.if-r-eq-CMD.false (at-root-element.root_element.ensures records.nothing)
