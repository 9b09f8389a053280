use mathlib.Core.Path.{ap, ◌∙◌}
use Rattle.store.specs.Answer.{number_of}
use Rattle.isis.proofs.isis_settle_list.Goals as goal

pub returns : goal.returns
returns c =
    let e = c.settle_list.ensures in
    record { answers = c.number.ensures ∙ ap number_of e.answers; left = e.left; told = e.told }
