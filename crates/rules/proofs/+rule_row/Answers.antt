-- `rules::rule_row` meets its contract: it calls itself on child records, and the depth that is left falls at each step down. Along a row goes a loop:
-- what is left of it from here leads to the same first broken rule as all of it from the start (`Going`). A record breaks a rule, or it has nothing
-- below it before the end, or what is below it is walked.
use Rattle.std.specs.Prelude.{◌+◌, ◌-◌, ◌<◌, ◌≤◌, ◌≡◌, refl}
use Rattle.std.proofs.Common.{arith}
use Rattle.std.proofs.lemmas.Result.{err_from_is_err_and}
use Rattle.tree.proofs.Steps.{along_none}
use Rattle.rules.specs.Walk.{start, ends, more_below}
use Rattle.rules.proofs.Walk.{turn_inside, turn_left, turn_led, turn_breaks, turn_found, turn_on, walked_below, none_below}
use Rattle.rules.proofs.+rule_row.Goals.{then-r-next+in_ok-next, else-r-next}
use Rattle.rules.proofs.+rule_row.Goals as goal

pub loop-child-init : goal.loop-child-init
loop-child-init t c =
    let z : c.args.n - 0 ≡ c.args.n = omega arith in
    rw z (λ p r. record { row = p; rules = r; goes = start _ _ _ _ _ _ })

pub returns-then-on-next : goal.returns-then-on-next
returns-then-on-next t c = λ p r. ends _ _ _ _ c.if-on-next.true (c.loop-child.invariant p r).goes

pub rule_fault-requires : goal.rule_fault-requires
rule_fault-requires t c =
    let led = c.requires.1 in
    let some : 0 < c.args.n - c.loop-child.child = omega arith in
    rw c.read-r.ensures (turn_inside (c.loop-child.invariant led.row led.rules) some c.if-on-next.false led.rest led.reached)

pub returns-in_err-rule_fault : goal.returns-in_err-rule_fault
returns-in_err-rule_fault t c =
    let some : 0 < c.args.n - c.loop-child.child = omega arith in
    let q = err_from_is_err_and c.from_residual.result c.from_residual.ensures.1 in
    rw (q.1, q.2)
    (λ p r.
    turn_breaks (c.loop-child.invariant p r) some c.if-on-next.false _ (rw (c.rule_of.ensures, c.read-r.ensures) at c.in_err-rule_fault.ensures) _ refl)

pub overflow_sub-left : goal.overflow_sub-left
overflow_sub-left t c =
    let led = c.requires.1 in
    let some : 0 < c.args.n - c.loop-child.child = omega arith in
    let more = more_below c.read-r.result.kids (c.loop-child.next + 1) c.args.on.now.end c.if-r-next.true in
    turn_left (c.loop-child.invariant led.row led.rules) some c.if-on-next.false led.rest led.reached more c.requires.0

pub rule_row-requires : goal.rule_row-requires
rule_row-requires t c =
    let led = c.requires.1 in
    let some : 0 < c.args.n - c.loop-child.child = omega arith in
    let going = c.loop-child.invariant led.row led.rules in
    let more = more_below c.read-r.result.kids (c.loop-child.next + 1) c.args.on.now.end c.if-r-next.true in
    let l = turn_left going some c.if-on-next.false led.rest led.reached more c.requires.0 in (
      omega (arith, c.decreases),
      (omega (arith, c.requires.0), rw c.read-r.ensures (turn_led going some c.if-on-next.false led.rest led.reached more c.requires.0)),
    )

pub returns-in_err-next : goal.returns-in_err-next
returns-in_err-next t c =
    let led = c.requires.1 in
    let some : 0 < c.args.n - c.loop-child.child = omega arith in
    let more = more_below c.read-r.result.kids (c.loop-child.next + 1) c.args.on.now.end c.if-r-next.true in
    let l = turn_left (c.loop-child.invariant led.row led.rules) some c.if-on-next.false led.rest led.reached more c.requires.0 in
    let q = err_from_is_err_and c.from_residual-in_err-next.result c.from_residual-in_err-next.ensures.1 in
    rw (q.1, q.2)
    (λ p r.
    turn_found (c.loop-child.invariant p r) some c.if-on-next.false _ (rw (c.rule_of.ensures, c.read-r.ensures) at c.in_ok-rule_fault.ensures) refl _
    (walked_below (c.loop-child.invariant p r) some c.if-on-next.false l c.requires.0 (rw c.read-r.ensures at c.in_err-next.ensures)))

pub loop-child-preserved : goal.loop-child-preserved
loop-child-preserved t c =
    let led = c.requires.1 in
    let some : 0 < c.args.n - c.loop-child.child = omega arith in
    let z : c.args.n - (c.loop-child.child + 1) ≡ c.args.n - c.loop-child.child - 1 = omega arith in
    let h = c.if-on-next.false in
    let fe = rw (c.rule_of.ensures, c.read-r.ensures) at c.in_ok-rule_fault.ensures in
    rw z
    (λ p r.
    elim c.if-r-next.branch [
      | then-r-next+in_ok-next w ↦
          let more = more_below c.read-r.result.kids (c.loop-child.next + 1) c.args.on.now.end w.if-r-next.true in
          let l = turn_left (c.loop-child.invariant led.row led.rules) some h led.rest led.reached more c.requires.0 in
          rw w.next-is
          (turn_on (c.loop-child.invariant p r) some h _ fe refl _
          (walked_below (c.loop-child.invariant p r) some h l c.requires.0 (rw c.read-r.ensures at w.in_ok-next.ensures)))
      | else-r-next w ↦
          rw w.next-is (turn_on (c.loop-child.invariant p r) some h _ fe refl _ (none_below (c.loop-child.invariant p r) some h (rw c.read-r.ensures at w.if-r-next.false)))
    ])

pub returns : goal.returns
returns t c =
    let over : c.args.n - c.loop-child.child ≤ 0 = omega arith in
    λ p r. rw (along_none _ _ over) at (c.loop-child.invariant p r).goes
