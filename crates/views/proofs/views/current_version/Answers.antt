use Rattle.std.specs.Prelude.{Ok}
use Rattle.std.proofs.lemmas.Result.{err_from_is_err_and}
use Rattle.views.proofs.VersionAnswers.{current_found, current_legible, version_answers}
use Rattle.views.proofs.views.current_version.Goals as goal

pub returns-in_err-end-clause-is : goal.returns-in_err-end-clause-is
returns-in_err-end-clause-is c =
    let p = err_from_is_err_and c.from_residual.result c.from_residual.ensures.1 in
    rw (p.1, p.2) (search (version_answers, c.in_err-end.was))

pub returns-then-place-clause-is : goal.returns-then-place-clause-is
returns-then-place-clause-is c = search (version_answers, c.in_ok-end.was)

pub returns-clause-readable : goal.returns-clause-readable
returns-clause-readable c =
    current_legible _ _ _ (Ok _) (current_found _ _ _ _ c.reach.ensures _ c.in_ok-end.was _ c.if-place.false c.place_address.ensures)
