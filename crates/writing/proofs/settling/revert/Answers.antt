use Rattle.std.proofs.lemmas.Result.{err_from_is_err_and}
use Rattle.writing.proofs.Results.{revert_refused, revert_asks, revert_long, revert_done}
use Rattle.writing.proofs.settling.revert.Goals as goal

pub returns-in_err-reached : goal.returns-in_err-reached
returns-in_err-reached c =
    let p = err_from_is_err_and c.from_residual.result c.from_residual.ensures.1 in
    let h = revert_refused _ _ _ _ c.plan_revert.ensures _ c.in_err-reached.was in
    record { answers = rw (p.1, p.2) h.0; left = h.1 }

pub put_entry-requires : goal.put_entry-requires
put_entry-requires c =
    let h = revert_asks _ _ _ _ c.plan_revert.ensures _ c.in_ok-reached.was in
    record { le_m = h.0; le_block = h.1 }

pub count_more-requires : goal.count_more-requires
count_more-requires c = revert_long _ _ _ _ c.plan_revert.ensures _ c.in_ok-reached.was

pub returns : goal.returns
returns c =
    let h = revert_done _ _ _ _ c.plan_revert.ensures _ c.in_ok-reached.was _ _ c.count_more.ensures c.put_entry.ensures in
    record { answers = h.0; left = h.1 }
