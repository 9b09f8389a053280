use Rattle.std.proofs.lemmas.Result.{err_from_is_err_and}
use Rattle.store.proofs.Reaching.{reach_answers}
use Rattle.store.proofs.gate.reach.Goals as goal

pub returns-in_err-store : goal.returns-in_err-store
returns-in_err-store c =
    let p = err_from_is_err_and c.from_residual.result c.from_residual.ensures.1 in
    rw (p.1, p.2) (search (reach_answers, c.in_err-store.ensures.refused))

pub returns-in_err-place : goal.returns-in_err-place
returns-in_err-place c =
    let p = err_from_is_err_and c.from_residual-in_err-place.result c.from_residual-in_err-place.ensures.1 in
    rw (p.1, p.2) (search (reach_answers, c.in_ok-store.ensures.lent, c.in_err-place.was))

pub returns : goal.returns
returns c = search (reach_answers, c.in_ok-store.ensures.lent, c.in_ok-place.was)
