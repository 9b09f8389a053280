use Rattle.std.proofs.lemmas.Result.{err_from_is_err_and}
use Rattle.versions.proofs.Told.{draft_counted}
use mathlib.Core.Path.{ap}
use mathlib.Core.Bool.{not}
use Rattle.writing.proofs.Plans.{create_plans}
use Rattle.writing.proofs.create.plan_create.Goals as goal

pub returns-in_err-control : goal.returns-in_err-control
returns-in_err-control c =
    let p = err_from_is_err_and c.from_residual.result c.from_residual.ensures.1 in
    rw (p.1, p.2) (search (create_plans, c.in_err-control.was))

pub count_full-requires : goal.count_full-requires
count_full-requires c = search (create_plans, c.in_ok-control.was)

pub returns-then-count_full : goal.returns-then-count_full
returns-then-count_full c = search (create_plans, c.in_ok-control.was)

pub returns-then-not-is_right : goal.returns-then-not-is_right
returns-then-not-is_right c = search (create_plans, c.in_ok-control.was)

pub need-need-requires : goal.need-need-requires
need-need-requires c = draft_counted _ _ _ _ c.is_right.ensures (ap not c.if-not-is_right.false)

pub create_slot-requires : goal.create_slot-requires
create_slot-requires c = search (create_plans, c.in_ok-control.was)

pub returns-in_err-create_slot : goal.returns-in_err-create_slot
returns-in_err-create_slot c =
    let p = err_from_is_err_and c.from_residual-in_err-create_slot.result c.from_residual-in_err-create_slot.ensures.1 in
    rw (p.1, p.2) (search (create_plans, c.in_ok-control.was, c.in_err-create_slot.was))

pub returns : goal.returns
returns c = search (create_plans, c.in_ok-control.was, c.in_ok-create_slot.was)
