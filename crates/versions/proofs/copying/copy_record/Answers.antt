use native.Mathlib.Omega.{arith}
use lib.ListN.{length-take, length-drop}
use Rattle.drafts.proofs.Writing.{record_copied}
use Rattle.versions.proofs.Body.{body_in}
use Rattle.versions.proofs.copying.copy_record.Goals as goal

pub copy_body-requires : goal.copy_body-requires
copy_body-requires c =
    let b = body_in _ _ _ c.args.l.mfrl _ c.requires.readable c.used_by-used.ensures.0 c.requires.at_le_end.0 c.requires.at_le_end.2 in
    omega (arith, b)

pub frame_record-requires : goal.frame_record-requires
frame_record-requires c =
    let b = body_in _ _ _ c.args.l.mfrl _ c.requires.readable c.used_by-used.ensures.0 c.requires.at_le_end.0 c.requires.at_le_end.2 in
    (b.0, b.2, simp (length-take, length-drop) (omega arith))

pub returns : goal.returns
returns c =
    let b = body_in _ _ _ c.args.l.mfrl _ c.requires.readable c.used_by-used.ensures.0 c.requires.at_le_end.0 c.requires.at_le_end.2 in
    record_copied c.args.mst.now c.args.at c.args.end (λ i. (c.slice_known-1.given i).fits) c.requires.readable c.args.l _ c.used_by-used.ensures.0
    b.2 c.requires.at_le_end.1 c.copy_body.ensures c.frame_record.ensures
