use Rattle.std.proofs.lemmas.Result.{err_from_is_err_and}
use Rattle.writing.proofs.Plans.{revert_counts, revert_plans}
use Rattle.writing.proofs.settling.plan_revert.Goals as goal

pub returns-in_err-store : goal.returns-in_err-store
returns-in_err-store c =
    let p = err_from_is_err_and c.from_residual.result c.from_residual.ensures.1 in
    rw (p.1, p.2) (search (revert_plans, c.in_err-store.ensures.refused))

pub count_full-requires : goal.count_full-requires
count_full-requires c = revert_counts _ _ c.args.m.0 _ c.in_ok-store.ensures.lent _ c.in_ok-store.store.open

pub returns-then-count_full : goal.returns-then-count_full
returns-then-count_full c = search (revert_plans, c.in_ok-store.ensures.lent)

pub returns-in_err-place : goal.returns-in_err-place
returns-in_err-place c =
    let p = err_from_is_err_and c.from_residual-in_err-place.result c.from_residual-in_err-place.ensures.1 in
    rw (p.1, p.2) (search (revert_plans, c.in_ok-store.ensures.lent, c.in_err-place.was))

pub returns-in-Settled : goal.returns-in-Settled
returns-in-Settled c = search (revert_plans, c.in_ok-store.ensures.lent, c.in_ok-place.was)

pub returns-in-Changed : goal.returns-in-Changed
returns-in-Changed c = search (revert_plans, c.in_ok-store.ensures.lent, c.in_ok-place.was)

pub returns-in-New : goal.returns-in-New
returns-in-New c = search (revert_plans, c.in_ok-store.ensures.lent, c.in_ok-place.was)
