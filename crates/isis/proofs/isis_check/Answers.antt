use mathlib.Core.Path.{ap, ◌∙◌}
use Rattle.store.specs.Answer.{number_of}
use Rattle.isis.proofs.isis_check.Goals as goal

pub returns : goal.returns
returns c =
    c.number.ensures ∙ ap number_of c.check.ensures
