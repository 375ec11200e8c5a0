-- `rowid::names` meets its contract: the count tells whether there are two parts, and each call says of one of them what the definition asks.
use Rattle.rowid.proofs.Two.{without_first, without_second, not_two, first_within, second_within, two}
use Rattle.rowid.proofs.names.Goals as goal

pub part_is-requires : goal.part_is-requires
part_is-requires c = first_within _ _ _ c.first_part.ensures c.in-Some-Some.is-0

pub part_is-requires-in-Some-Some : goal.part_is-requires-in-Some-Some
part_is-requires-in-Some-Some c = second_within _ _ _ c.split-parts.ensures c.in-Some-Some.is-1

pub returns-then-parts-ne-TWO_PARTS : goal.returns-then-parts-ne-TWO_PARTS
returns-then-parts-ne-TWO_PARTS c = not_two _ _ c.split-parts.ensures c.if-parts-ne-TWO_PARTS.true

pub returns-in-Some-Some : goal.returns-in-Some-Some
returns-in-Some-Some c =
    two _ _ _ _ _ _ _ c.split-parts.ensures c.first_part.ensures c.in-Some-Some.is-0 c.in-Some-Some.is-1 c.if-parts-ne-TWO_PARTS.false
    c.part_is.ensures c.part_is-in-Some-Some.ensures

pub returns-in_default : goal.returns-in_default
returns-in_default c = without_second _ _ c.split-parts.ensures c.in_default.is-1

pub returns-in_default-2 : goal.returns-in_default-2
returns-in_default-2 c = without_first _ _ c.first_part.ensures c.in_default.is-0
