use Rattle.versions.proofs.Writes.{tail_readable, same_mfrl, rewritten}
use Rattle.versions.proofs.changing.delete_in_place.Goals as goal

pub rewrite_record-requires : goal.rewrite_record-requires
rewrite_record-requires c = search (tail_readable, same_mfrl)

pub returns-clause-master : goal.returns-clause-master
returns-clause-master c = search rewritten
