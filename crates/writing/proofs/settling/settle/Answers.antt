use Rattle.std.proofs.lemmas.Result.{err_from_is_err_and}
use Rattle.writing.proofs.Results.{settle_refused, settle_asks, settle_done}
use Rattle.writing.proofs.settling.settle.Goals as goal

pub returns-in_err-reached : goal.returns-in_err-reached
returns-in_err-reached c =
    let p = err_from_is_err_and c.from_residual.result c.from_residual.ensures.1 in
    let h = settle_refused _ _ _ _ c.plan_settle.ensures _ c.in_err-reached.was in
    record { answers = rw (p.1, p.2) h.0; left = h.1 }

pub settle_place-requires : goal.settle_place-requires
settle_place-requires c =
    let h = settle_asks _ _ _ _ c.plan_settle.ensures _ c.in_ok-reached.was in
    record { has_slot = h.0; record_read = h.1 }

pub returns : goal.returns
returns c =
    let e = c.settle_place.ensures in
    let h = settle_done _ _ _ _ c.plan_settle.ensures _ c.in_ok-reached.was _ _ e.master e.cross in
    record { answers = h.0; left = h.1 }
