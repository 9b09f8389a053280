use native.Mathlib.Omega.{arith}
use Rattle.versions.proofs.Writes.{control_kept, end_small, draft_appended}
use Rattle.versions.proofs.create.append_draft.Goals as goal

pub put_end-requires : goal.put_end-requires
put_end-requires c =
    (search control_kept, end_small _ _ c.args.l c.requires.at_end.0 _ _ c.end_moved.ensures (omega arith))

pub returns : goal.returns
returns c = search draft_appended
