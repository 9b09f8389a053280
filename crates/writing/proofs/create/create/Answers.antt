use Rattle.std.proofs.lemmas.Result.{err_from_is_err_and}
use Rattle.writing.proofs.Results.{create_refused, create_asks, create_done}
use Rattle.writing.proofs.create.create.Goals as goal

pub returns-in_err-next : goal.returns-in_err-next
returns-in_err-next c =
    let p = err_from_is_err_and c.from_residual.result c.from_residual.ensures.1 in
    let h = create_refused _ _ _ _ _ _ c.plan_create.ensures _ c.in_err-next.was in
    record { answers = rw (p.1, p.2) h.0; left = h.1 }

pub create_at_end-requires : goal.create_at_end-requires
create_at_end-requires c =
    let h = create_asks _ _ _ _ _ _ c.plan_create.ensures _ c.in_ok-next.was in
    record { has_slot = h.0; at_end = h.1.0; draft_fits = h.1.1 }

pub returns : goal.returns
returns c =
    let e = c.create_at_end.ensures in
    let h = create_done _ _ _ _ _ _ c.plan_create.ensures _ c.in_ok-next.was _ _ e.master e.cross in
    record { answers = h.0; left = h.1 }
