-- `utf8::high` meets its contract: each way through it is the definition's at the same tests.
-- Assumes nothing.
use borrow.Author.Tests.{eq-eqb, ne_eqb}
use Rattle.utf8.specs.Scan.{high}
use Rattle.utf8.proofs.high.Goals as goal

pub returns-then-lead-eq-LEAD_ED : goal.returns-then-lead-eq-LEAD_ED
unfolding high
returns-then-lead-eq-LEAD_ED c = rw (eq-eqb c.args.lead 0xED c.if-lead-eq-LEAD_ED.true)

pub returns-then-lead-eq-LEAD_F4 : goal.returns-then-lead-eq-LEAD_F4
unfolding high
returns-then-lead-eq-LEAD_F4 c =
    let lead = c.args.lead in
    rw (ne_eqb lead 0xED c.if-lead-eq-LEAD_ED.false, eq-eqb lead 0xF4 c.if-lead-eq-LEAD_F4.true)

pub returns : goal.returns
unfolding high
returns c =
    let lead = c.args.lead in
    rw (ne_eqb lead 0xED c.if-lead-eq-LEAD_ED.false, ne_eqb lead 0xF4 c.if-lead-eq-LEAD_F4.false)
