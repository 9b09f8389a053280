use Rattle.files.proofs.Answers.{end_put}
use Rattle.files.proofs.control.put_end.Goals as goal

pub returns : goal.returns
returns c = end_put _ _ _ _ _ _ _ c.put_u32.ensures c.block_at.ensures c.put_u16.ensures c.offset_at.ensures.is c.from.ensures c.requires.0
