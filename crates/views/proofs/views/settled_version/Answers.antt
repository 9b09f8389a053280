use Rattle.std.proofs.lemmas.Result.{err_from_is_err_and}
use Rattle.views.proofs.VersionAnswers.{settled_found, settled_legible, version_answers}
use Rattle.views.proofs.views.settled_version.Goals as goal

pub returns-in_err-end-clause-is : goal.returns-in_err-end-clause-is
returns-in_err-end-clause-is c =
    let p = err_from_is_err_and c.from_residual.result c.from_residual.ensures.1 in
    rw (p.1, p.2) (search (version_answers, c.in_err-end.was))

pub returns-clause-readable : goal.returns-clause-readable
returns-clause-readable c =
    settled_legible _ _ _ _ (settled_found _ _ _ _ c.reach_both.ensures _ c.in_ok-end.was _ c.settled_of.ensures)
