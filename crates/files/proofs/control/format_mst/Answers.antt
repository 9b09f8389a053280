use Rattle.std.proofs.Common.{arith}
use Rattle.files.proofs.Answers.{long_zero, long_next, mst_put}
use Rattle.files.proofs.control.format_mst.Goals as goal

pub put_next-requires : goal.put_next-requires
put_next-requires c = long_zero _ _ c.requires (c.fill.ensures.after (λ y e. e))

pub put_end-requires : goal.put_end-requires
put_end-requires c = (long_next _ _ c.requires (c.fill.ensures.after (λ y e. e)) _ c.put_next.ensures, omega arith)

pub returns : goal.returns
returns c = mst_put _ _ c.requires (c.fill.ensures.after (λ y e. e)) _ c.put_next.ensures _ c.put_end.ensures
