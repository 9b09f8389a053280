use Rattle.versions.proofs.Writes.{record_created, entry_created}
use Rattle.versions.proofs.create.create_at_end.Goals as goal

pub returns : goal.returns
returns c = search (record_created, entry_created)
