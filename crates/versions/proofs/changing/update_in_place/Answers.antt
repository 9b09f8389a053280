use Rattle.versions.proofs.Writes.{draft_in_place}
use Rattle.versions.proofs.changing.update_in_place.Goals as goal

pub returns : goal.returns
returns c = search draft_in_place
