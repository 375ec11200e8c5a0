-- `reader::number_end` meets its contract: the digits end the number, unless a dot with a digit behind it follows.
use Rattle.std.proofs.Common.{◌+◌, sym, ◌∙◌, arith}
use borrow.Author.Tests.{ne_eqb, eq-eqb}
use Rattle.reading.specs.Bytes.{digit, dot}
use Rattle.reader.specs.Numbers.{takes_inside, number_whole, no_dot_left, no_dot}
use Rattle.reader.proofs.Numbers.{number_dotted}
use Rattle.reader.proofs.number_end.Goals.{else-end-text-via-then-end-text+then-text-end-eq-DOT+else-digit, else-end-text-via-then-end-text+else-text-end-eq-DOT, else-end-text-via-else-end-text}
use Rattle.reader.proofs.number_end.Goals as goal

pub overflow_add-end : goal.overflow_add-end
overflow_add-end c =
    let args = c.args in
    let digits = c.long_end-end in
    let first = c.requires in
    let inside = takes_inside digit args.text.now (args.at + 1) digits.result (omega arith) (digits.ensures digit (λ b r is. is)) in
    omega arith

pub returns-then-digit : goal.returns-then-digit
returns-then-digit c =
    let args = c.args in
    let digits = c.long_end-end in
    number_dotted args.text.now args.at digits.result _ c.requires (digits.ensures digit (λ b r is. is)) c.if-end-text.true
    c.if-text-end-eq-DOT.true (sym c.digit.ensures ∙ c.if-digit.true) (c.long_end.ensures digit (λ b r is. is))

pub returns : goal.returns
returns c =
    let args = c.args in
    let text = args.text.now in
    let digits = c.long_end-end in
    let first = c.requires in
    let ends = digits.ensures digit (λ b r is. is) in
    let whole = number_whole text args.at digits.result first ends in
    elim c.else-end-text.branch [
      | else-end-text-via-then-end-text+then-text-end-eq-DOT+else-digit w ↦
          whole (no_dot text digits.result w.if-end-text.true (rw (eq-eqb _ dot w.if-text-end-eq-DOT.true, sym w.digit.ensures ∙ w.if-digit.false)))
      | else-end-text-via-then-end-text+else-text-end-eq-DOT w ↦ whole (no_dot text digits.result w.if-end-text.true (rw (ne_eqb _ dot w.if-text-end-eq-DOT.false)))
      | else-end-text-via-else-end-text w ↦
          whole (no_dot_left text digits.result (takes_inside digit text (args.at + 1) digits.result (omega arith) ends) w.if-end-text.false)
    ]
