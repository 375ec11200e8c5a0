-- `reader::lexeme_at` meets its contract: the first byte is of one sort, which begins one kind of lexeme; of none, it cannot be read.
use Prim.Native.Nat.{◌+◌}
use mathlib.Core.Path.{sym, ◌∙◌}
use lib.ListN.{drop, get_or}
use native.Mathlib.Omega.{arith}
use Rattle.laws.specs.Tests.{and_right}
use Rattle.laws.specs.Among.{among}
use Rattle.reading.specs.Bytes.{word_byte, exes}
use Rattle.reading.specs.Reading.{operator_byte, opened}
use Rattle.reader.specs.Laws.{opened_inside, not_blank}
use Rattle.reader.specs.Sorts.{begins_word, begins_mark, begins_digits, begins_quote, begins_operator, begins_variable, begins_nothing}
use Rattle.reader.proofs.Finds.{found_mark, found_quoted, found_operator, found_variable, found_word, found_blob, found_number, found_nothing}
use Rattle.reader.proofs.lexeme_at.Goals as goal

pub returns-then-opens_blob : goal.returns-then-opens_blob
returns-then-opens_blob c _ =
    let start = c in
    let text = start.args.text.now in
    let at = start.args.at in
    let byte = (c.shared_slice_known-1.given at).fits in
    rw c.closed.ensures
    (found_blob text at _ start.requires (begins_word _ byte (sym c.word_first.ensures ∙ c.if-word_first.true))
    (sym c.opens_blob.ensures ∙ c.if-opens_blob.true) c.through_end.ensures)

pub returns-then-word_first : goal.returns-then-word_first
returns-then-word_first c _ =
    let start = c in
    let text = start.args.text.now in
    let at = start.args.at in
    let byte = (c.shared_slice_known-1.given at).fits in
    rw c.closed-then-word_first.ensures
    (found_word text at _ start.requires (begins_word _ byte (sym c.word_first.ensures ∙ c.if-word_first.true))
    (sym c.opens_blob.ensures ∙ c.if-opens_blob.false) (c.bytes_end.ensures word_byte (λ b r is. is)))

pub returns-then-mark : goal.returns-then-mark
returns-then-mark c _ =
    let start = c in
    let text = start.args.text.now in
    let at = start.args.at in
    let byte = (c.shared_slice_known-1.given at).fits in
    rw c.closed-then-mark.ensures
    (found_mark text at start.requires (begins_mark _ byte (sym c.mark.ensures ∙ c.if-mark.true)))

pub returns-then-digit : goal.returns-then-digit
returns-then-digit c _ =
    let start = c in
    let text = start.args.text.now in
    let at = start.args.at in
    let byte = (c.shared_slice_known-1.given at).fits in
    rw c.closed-then-digit.ensures
    (found_number text at _ start.requires (begins_digits _ byte (sym c.digit.ensures ∙ c.if-digit.true)) c.number_end.ensures)

pub returns-then-quote : goal.returns-then-quote
returns-then-quote c _ =
    let start = c in
    let text = start.args.text.now in
    let at = start.args.at in
    let byte = (c.shared_slice_known-1.given at).fits in
    rw c.closed-then-quote.ensures
    (found_quoted text at _ start.requires (begins_quote _ byte (sym c.quote.ensures ∙ c.if-quote.true)) c.closing_end.ensures)

pub returns-then-operator_byte : goal.returns-then-operator_byte
returns-then-operator_byte c _ =
    let start = c in
    let text = start.args.text.now in
    let at = start.args.at in
    let byte = (c.shared_slice_known-1.given at).fits in
    rw c.closed-then-operator_byte.ensures
    (found_operator text at _ start.requires (begins_operator _ byte (sym c.operator_byte.ensures ∙ c.if-operator_byte.true)) (c.bytes_end-then-operator_byte.ensures operator_byte (λ b r is. is)))

pub returns-then-variable : goal.returns-then-variable
returns-then-variable c _ =
    let start = c in
    let text = start.args.text.now in
    let at = start.args.at in
    let byte = (c.shared_slice_known-1.given at).fits in
    rw c.closed-then-variable.ensures
    (found_variable text at _ start.requires (begins_variable _ byte (sym c.variable.ensures ∙ c.if-variable.true)) (c.bytes_end-then-variable.ensures word_byte (λ b r is. is)))

pub returns : goal.returns
returns c bare =
    let start = c in
    let text = start.args.text.now in
    let at = start.args.at in
    let no_word = sym c.word_first.ensures ∙ c.if-word_first.false in
    let no-mark = sym c.mark.ensures ∙ c.if-mark.false in
    let no_digit = sym c.digit.ensures ∙ c.if-digit.false in
    let no_quote_lem = sym c.quote.ensures ∙ c.if-quote.false in
    let no-operator = sym c.operator_byte.ensures ∙ c.if-operator_byte.false in
    let no-variable = sym c.variable.ensures ∙ c.if-variable.false in
    rw c.closed-2.ensures
    (found_nothing text at start.requires (begins_nothing _ (not_blank text at start.requires bare) no_word no-mark no_digit no_quote_lem no-operator no-variable))

pub through_end-requires : goal.through_end-requires
through_end-requires c =
    let args = c.args in
    let text = args.text.now in
    let opens = sym c.opens_blob.ensures ∙ c.if-opens_blob.true in
    let quoted = opened_inside text (args.at + 1) (and_right (among (get_or text args.at 0) exes) (opened (drop (args.at + 1) text)) opens) in
    omega arith
