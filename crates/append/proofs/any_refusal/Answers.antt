-- `append::any_refusal` meets its contract: the first of 1, 4, 2, and then 8.
use Rattle.std.proofs.Common.{rules, ◌≡◌, Err}
use Rattle.append.specs.Steps.{Check}
use Rattle.append.specs.Laws.{early_refused, then_room, room_known}
use Rattle.append.proofs.any_refusal.Goals as goal

pub no_room-requires : goal.no_room-requires
no_room-requires c = (room_known _ _ _ _ _ c.first_refusal.ensures c.in_ok-first_refusal.was, c.requires)

pub returns-in_err-first_refusal : goal.returns-in_err-first_refusal
returns-in_err-first_refusal c =
    let e : ◌≡◌ {A = Check} c.from_residual.result (Err c.in_err-first_refusal.field-0.0) = search rules in
    rw e (early_refused _ _ _ _ _ _ c.first_refusal.ensures c.in_err-first_refusal.was)

pub returns : goal.returns
returns c = then_room _ _ _ _ _ _ c.first_refusal.ensures c.in_ok-first_refusal.was c.no_room.ensures
