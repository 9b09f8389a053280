use Rattle.std.proofs.lemmas.Result.{err_from_is_err_and}
use Rattle.writing.proofs.Plans.{settle_plans}
use Rattle.writing.proofs.settling.plan_settle.Goals as goal

pub returns-in_err-reached : goal.returns-in_err-reached
returns-in_err-reached c =
    let p = err_from_is_err_and c.from_residual.result c.from_residual.ensures.1 in
    rw (p.1, p.2) (search (settle_plans, c.in_err-reached.was))

pub returns-then-eq : goal.returns-then-eq
returns-then-eq c = search (settle_plans, c.in_ok-reached.was)

pub returns : goal.returns
returns c = search (settle_plans, c.in_ok-reached.was)
