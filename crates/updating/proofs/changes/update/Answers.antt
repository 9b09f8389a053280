use Rattle.std.proofs.lemmas.Result.{err_from_is_err_and}
use Rattle.updating.proofs.Results.{update_refused, update_append_asks, update_appended, update_in_place_asks, update_replaced}
use Rattle.updating.proofs.changes.update.Goals as goal

pub returns-in_err-was : goal.returns-in_err-was
returns-in_err-was c =
    let p = err_from_is_err_and c.from_residual.result c.from_residual.ensures.1 in
    let h = update_refused _ _ _ _ _ _ _ c.plan_update.ensures _ c.in_err-was.was in
    record { answers = rw (p.1, p.2) h.0; left = h.1 }

pub update_at_end-requires : goal.update_at_end-requires
update_at_end-requires c =
    let h = update_append_asks _ _ _ _ _ _ _ c.plan_update.ensures _ c.in_ok-was.was c.if-appends.true in
    record { has_slot = h.0; draft_fits = h.1.0; at_end = h.1.1 }

pub returns-then-appends : goal.returns-then-appends
returns-then-appends c =
    let e = c.update_at_end.ensures in
    let h = update_appended _ _ _ _ _ _ _ c.plan_update.ensures _ c.in_ok-was.was c.if-appends.true _ _ e.master e.cross in
    record { answers = h.0; left = h.1 }

pub update_in_place-requires : goal.update_in_place-requires
update_in_place-requires c =
    let h = update_in_place_asks _ _ _ _ _ _ _ c.plan_update.ensures _ c.in_ok-was.was c.if-appends.false in
    record { le_block = h.0; draft_fits = h.1 }

pub returns-else-appends : goal.returns-else-appends
returns-else-appends c =
    let h = update_replaced _ _ _ _ _ _ _ c.plan_update.ensures _ c.in_ok-was.was c.if-appends.false _ c.update_in_place.ensures in
    record { answers = h.0; left = h.1 }
