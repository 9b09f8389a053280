use Rattle.std.proofs.Common.{arith}
use Rattle.drafts.specs.Draft.{need_of}
use Rattle.drafts.proofs.Writing.{record_written}
use Rattle.drafts.proofs.writer.write_record.Goals as goal

pub overflow_mul-base : goal.overflow_mul-base
unfolding need_of
overflow_mul-base c = omega arith

pub overflow_add-base : goal.overflow_add-base
unfolding need_of
overflow_add-base c = omega arith

pub put_directory-requires : goal.put_directory-requires
unfolding need_of
put_directory-requires c = record { right = c.requires.right; room = omega arith }

pub copy_to-requires : goal.copy_to-requires
unfolding need_of
copy_to-requires c = omega arith

pub overflow_add-base-2 : goal.overflow_add-base-2
unfolding need_of
overflow_add-base-2 c = omega arith

pub frame_record-requires : goal.frame_record-requires
unfolding need_of
frame_record-requires c = omega arith

pub returns : goal.returns
unfolding need_of
returns c =
    record_written _ c.args.l _ _ _ c.requires.right c.put_directory.ensures c.copy_to.ensures c.frame_record.ensures (omega arith) c.requires.room.1
