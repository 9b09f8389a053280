-- `put_heads`: after k turns the first integers of the first k blocks are written.
use Rattle.std.proofs.Common.{refl, arith}
use Rattle.layout.specs.Sizes.{xrf_blocks}
use Rattle.files.specs.CrossReference.{with_heads}
use Rattle.layout.proofs.Facts.{blocks_facts}
use Rattle.files.proofs.Answers.{head_put}
use Rattle.files.proofs.cross_reference.put_heads.Goals as goal

pub loop-k-init : goal.loop-k-init
unfolding with_heads
loop-k-init c = (refl, refl)

pub head_bits-requires : goal.head_bits-requires
head_bits-requires c = let f = blocks_facts xrf_blocks _ c.requires in (omega arith, omega arith)

pub loop-k-preserved : goal.loop-k-preserved
loop-k-preserved c =
    let l = c.loop-k in
    (omega arith, head_put _ _ l.k _ _ _ l.invariant.1 c.head_bits.ensures c.put_u32.ensures)
