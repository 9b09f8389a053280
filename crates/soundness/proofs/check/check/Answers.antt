use Rattle.std.proofs.lemmas.Result.{err_from_is_err_and}
use Rattle.soundness.proofs.CheckAnswers.{check_answers, check_miscounted}
use Rattle.soundness.proofs.check.check.Goals as goal

pub returns-in_err-live : goal.returns-in_err-live
returns-in_err-live c =
    let p = err_from_is_err_and c.from_residual.result c.from_residual.ensures.1 in
    rw (p.1, p.2) (search (check_answers, c.in_err-live.was))

pub returns-else-count_is : goal.returns-else-count_is
returns-else-count_is c = check_miscounted _ _ _ c.count_live.ensures _ c.in_ok-live.was _ c.count_is.ensures c.if-count_is.false
