use native.Mathlib.Omega.{arith}
use Rattle.versions.proofs.Writes.{own_lent_readable, end_small, copy_kept, copy_appended}
use Rattle.versions.proofs.changing.append_copy.Goals as goal

pub copy_record-requires-clause-readable : goal.copy_record-requires-clause-readable
copy_record-requires-clause-readable c = search own_lent_readable

pub put_end-requires : goal.put_end-requires
put_end-requires c =
    (search copy_kept, end_small _ _ c.args.l c.requires.at_end.0 _ _ c.end_moved.ensures (omega arith))

pub returns : goal.returns
returns c = search copy_appended
