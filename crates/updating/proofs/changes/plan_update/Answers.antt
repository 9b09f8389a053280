use Rattle.std.proofs.lemmas.Result.{err_from_is_err_and}
use mathlib.Core.Path.{ap}
use mathlib.Core.Bool.{not}
use Rattle.versions.proofs.Told.{draft_counted}
use Rattle.updating.proofs.Plans.{open_end_small, draft_small, update_plans}
use Rattle.updating.proofs.changes.plan_update.Goals as goal

pub returns-in_err-store : goal.returns-in_err-store
returns-in_err-store c =
    let p = err_from_is_err_and c.from_residual.result c.from_residual.ensures.1 in
    rw (p.1, p.2) (search (update_plans, c.in_err-store.ensures.refused))

pub returns-then-not-is_right : goal.returns-then-not-is_right
returns-then-not-is_right c = search (update_plans, c.in_ok-store.ensures.lent)

pub returns-in_err-place : goal.returns-in_err-place
returns-in_err-place c =
    let p = err_from_is_err_and c.from_residual-in_err-place.result c.from_residual-in_err-place.ensures.1 in
    rw (p.1, p.2) (search (update_plans, c.in_ok-store.ensures.lent, c.in_err-place.was))

pub returns-then-place : goal.returns-then-place
returns-then-place c = search (update_plans, c.in_ok-store.ensures.lent, c.in_ok-place.was)

pub need-need-requires : goal.need-need-requires
need-need-requires c = draft_counted _ _ _ _ c.is_right.ensures (ap not c.if-not-is_right.false)

pub plan_room-requires : goal.plan_room-requires
plan_room-requires c = (open_end_small _ _ _ c.in_ok-store.ensures.lent _ c.in_ok-store.store.open, search draft_small)

pub returns : goal.returns
returns c = search (update_plans, c.in_ok-store.ensures.lent, c.in_ok-place.was)
