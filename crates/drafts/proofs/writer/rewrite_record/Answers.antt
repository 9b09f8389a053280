use Rattle.std.proofs.Common.{rules, ◌∙◌}
use Rattle.record.proofs.Facts.{readable_facts}
use Rattle.drafts.proofs.Writing.{record_rewritten}
use Rattle.drafts.proofs.writer.rewrite_record.Goals as goal

pub frame_record-requires : goal.frame_record-requires
frame_record-requires c = search (rules, readable_facts c.requires.readable)

pub returns : goal.returns
returns c =
    c.frame_record.ensures
    ∙ record_rewritten _ c.args.l c.requires.readable (λ i. (c.slice_known-1.given i).fits) _ c.used_by-used.ensures.0 c.requires.mfrl_value
