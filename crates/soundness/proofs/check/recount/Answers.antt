use Rattle.std.proofs.lemmas.Result.{err_from_is_err_and}
use Rattle.soundness.proofs.CheckAnswers.{recount_refused, count_asks, recount_kept, recount_put}
use Rattle.soundness.proofs.check.recount.Goals as goal

pub returns-in_err-live : goal.returns-in_err-live
returns-in_err-live c =
    let p = err_from_is_err_and c.from_residual.result c.from_residual.ensures.1 in
    let h = recount_refused _ _ _ c.count_live.ensures _ c.in_err-live.was in
    record { answers = rw (p.1, p.2) h.0; left = h.1 }

pub count_is-requires : goal.count_is-requires
count_is-requires c = count_asks _ _ _ c.count_live.ensures _ c.in_ok-live.was

pub returns-then-count_is : goal.returns-then-count_is
returns-then-count_is c =
    let h = recount_kept _ _ _ c.count_live.ensures _ c.in_ok-live.was _ c.count_is.ensures c.if-count_is.true in
    record { answers = h.0; left = h.1 }

pub put_count-requires : goal.put_count-requires
put_count-requires c = (count_asks _ _ _ c.count_live.ensures _ c.in_ok-live.was).0

pub returns : goal.returns
returns c =
    let h = recount_put _ _ _ c.count_live.ensures _ c.in_ok-live.was _ c.count_is.ensures c.if-count_is.false _ c.put_count.ensures in
    record { answers = h.0; left = h.1 }
