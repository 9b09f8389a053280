use Rattle.std.proofs.lemmas.Result.{err_from_is_err_and}
use Rattle.updating.proofs.Results.{delete_refused, delete_append_asks, delete_copied, delete_in_place_asks, delete_marked}
use Rattle.updating.proofs.changes.delete.Goals as goal

pub returns-in_err-was : goal.returns-in_err-was
returns-in_err-was c =
    let p = err_from_is_err_and c.from_residual.result c.from_residual.ensures.1 in
    let h = delete_refused _ _ _ _ c.plan_delete.ensures _ c.in_err-was.was in
    record { answers = rw (p.1, p.2) h.0; left = h.1 }

pub delete_at_end-requires : goal.delete_at_end-requires
delete_at_end-requires c =
    let h = delete_append_asks _ _ _ _ c.plan_delete.ensures _ c.in_ok-was.was c.if-appends.true in
    record { has_slot = h.0; record_read = h.1.0; at_end = h.1.1 }

pub returns-then-appends : goal.returns-then-appends
returns-then-appends c =
    let e = c.delete_at_end.ensures in
    let h = delete_copied _ _ _ _ c.plan_delete.ensures _ c.in_ok-was.was c.if-appends.true _ _ e.master e.cross in
    record { answers = h.0; left = h.1 }

pub delete_in_place-requires : goal.delete_in_place-requires
delete_in_place-requires c =
    let h = delete_in_place_asks _ _ _ _ c.plan_delete.ensures _ c.in_ok-was.was c.if-appends.false in
    record { has_slot = h.0; record_read = h.1 }

pub returns-else-appends : goal.returns-else-appends
returns-else-appends c =
    let e = c.delete_in_place.ensures in
    let h = delete_marked _ _ _ _ c.plan_delete.ensures _ c.in_ok-was.was c.if-appends.false _ _ e.master e.cross in
    record { answers = h.0; left = h.1 }
