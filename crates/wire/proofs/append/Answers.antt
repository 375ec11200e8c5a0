-- `wire::append` meets its contract: a record that is not well formed is refused; one that is not held goes the long way; without value bytes and with some
-- there is a way each.
use native.Mathlib.Omega.{arith}
use mathlib.Core.Path.{sym, ◌∙◌}
use borrow.Author.Tests.{not-false}
use Rattle.wire.specs.Laws.{not_well}
use Rattle.wire.proofs.append.Goals as goal

pub returns-then-not-well_formed : goal.returns-then-not-well_formed
returns-then-not-well_formed c = not_well _ _ _ _ _ _ c.well_formed-2.ensures c.if-not-well_formed.true-raw c.code.ensures

pub unpack-requires : goal.unpack-requires
unpack-requires c = let at-if1 = c in sym at-if1.well_formed-2.ensures ∙ not-false _ at-if1.if-not-well_formed.false-raw

pub checked-requires : goal.checked-requires
checked-requires c =
    let at-if1 = c in
    sym at-if1.well_formed-2.ensures ∙ not-false _ at-if1.if-not-well_formed.false-raw

pub bare-requires : goal.bare-requires
bare-requires c =
    let at-if3 = c in
    let at-if2 = at-if3 in
    let at_held = at-if2 in
    let at-unpack = at_held in
    let at-if1 = at-unpack in (
      sym at-if1.well_formed-2.ensures ∙ not-false _ at-if1.if-not-well_formed.false-raw,
      (rw (← at-unpack.unpack.ensures) (sym at_held.held.ensures ∙ not-false _ at-if2.if-not-held.false-raw), omega (arith, at-if3.if-value-eq0.true)),
    )

pub valued-requires : goal.valued-requires
valued-requires c =
    let at-if2 = c in
    let at_held = at-if2 in
    let at-unpack = at_held in
    let at-if1 = at-unpack in (
      sym at-if1.well_formed-2.ensures ∙ not-false _ at-if1.if-not-well_formed.false-raw,
      rw (← at-unpack.unpack.ensures) (sym at_held.held.ensures ∙ not-false _ at-if2.if-not-held.false-raw),
    )

pub returns-then-not-held : goal.returns-then-not-held
returns-then-not-held c = c.checked.ensures

pub returns-then-value-eq0 : goal.returns-then-value-eq0
returns-then-value-eq0 c = c.bare.ensures

pub returns : goal.returns
returns c = c.valued.ensures
