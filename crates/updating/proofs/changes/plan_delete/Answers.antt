use native.Mathlib.Omega.{arith}
use Rattle.std.proofs.lemmas.Result.{err_from_is_err_and}
use Rattle.updating.proofs.Plans.{delete_plans}
use Rattle.updating.proofs.changes.plan_delete.Goals as goal

pub returns-in_err-was : goal.returns-in_err-was
returns-in_err-was c =
    let p = err_from_is_err_and c.from_residual.result c.from_residual.ensures.1 in
    rw (p.1, p.2) (search (delete_plans, c.in_err-was.was))

pub returns-then-was : goal.returns-then-was
returns-then-was c = search (delete_plans, c.in_ok-was.was)

pub count_none-requires : goal.count_none-requires
count_none-requires c = search (delete_plans, c.in_ok-was.was)

pub returns-then-count_none : goal.returns-then-count_none
returns-then-count_none c = search (delete_plans, c.in_ok-was.was)

pub own_need-need-requires : goal.own_need-need-requires
own_need-need-requires c = search (delete_plans, c.in_ok-was.was)

pub plan_room-requires : goal.plan_room-requires
plan_room-requires c = (search (delete_plans, c.in_ok-was.was), omega arith)

pub returns-in-Settled : goal.returns-in-Settled
returns-in-Settled c = search (delete_plans, c.in_ok-was.was)

pub returns-in-Changed : goal.returns-in-Changed
returns-in-Changed c = search (delete_plans, c.in_ok-was.was)
