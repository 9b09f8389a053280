use Rattle.soundness.proofs.PassAnswers.{tally_found}
use Rattle.soundness.proofs.passes.tally_entry.Goals as goal

pub returns-in-Ok : goal.returns-in-Ok
returns-in-Ok c =
    tally_found _ _ _ c.args.opened.now.open _ c.requires.0 c.requires.1 _ c.find_both.ensures _ _ _ c.in-Ok.is c.named_under.ensures c.from.ensures
