-- `utf8::low` meets its contract: each way through it is the definition's at the same tests.
-- Assumes nothing.
use borrow.Author.Tests.{eq-eqb, ne_eqb}
use Rattle.utf8.specs.Scan.{low}
use Rattle.utf8.proofs.low.Goals as goal

pub returns-then-lead-eq-LEAD_E0 : goal.returns-then-lead-eq-LEAD_E0
unfolding low
returns-then-lead-eq-LEAD_E0 c = rw (eq-eqb c.args.lead 0xE0 c.if-lead-eq-LEAD_E0.true)

pub returns-then-lead-eq-LEAD_F0 : goal.returns-then-lead-eq-LEAD_F0
unfolding low
returns-then-lead-eq-LEAD_F0 c =
    let lead = c.args.lead in
    rw (ne_eqb lead 0xE0 c.if-lead-eq-LEAD_E0.false, eq-eqb lead 0xF0 c.if-lead-eq-LEAD_F0.true)

pub returns : goal.returns
unfolding low
returns c =
    let lead = c.args.lead in
    rw (ne_eqb lead 0xE0 c.if-lead-eq-LEAD_E0.false, ne_eqb lead 0xF0 c.if-lead-eq-LEAD_F0.false)
