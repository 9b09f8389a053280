use Rattle.std.proofs.Common.{arith}
use Rattle.layout.specs.Leader.{leader_of}
use Rattle.record.proofs.Facts.{readable_facts}
use Rattle.drafts.proofs.DirectoryBytes.{used_is}
use Rattle.drafts.proofs.Draftable.{readable_used}
use Rattle.drafts.proofs.writer.used_by.Goals as goal

pub u16_at-requires : goal.u16_at-requires
u16_at-requires c = omega (arith, readable_facts c.requires)

pub overflow_add-result : goal.overflow_add-result
unfolding leader_of
overflow_add-result c = omega (arith, readable_facts c.requires, used_is _ c.requires, readable_used _ c.requires)

pub returns : goal.returns
unfolding leader_of
returns c = omega (arith, used_is _ c.requires, readable_used _ c.requires)
