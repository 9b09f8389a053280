use Rattle.drafts.specs.Inner.{framed}
use Rattle.drafts.proofs.writer.frame_record.Goals as goal

pub returns : goal.returns
unfolding framed
returns c = rw (c.fill.ensures, c.put_leader.ensures, c.from.ensures)
