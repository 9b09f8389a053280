use Rattle.versions.proofs.Writes.{back_cleared, mark_removed}
use Rattle.versions.proofs.settling.settle_place.Goals as goal

pub returns : goal.returns
returns c = search (back_cleared, mark_removed)
