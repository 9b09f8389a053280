-- What is given and what is still to come are the postings, after each run.
use Prim.Native.Nat.{◌+◌, ◌≤◌}
use native.Mathlib.Omega.{arith}
use lib.ListN.{length}
use borrow.Author.Tests.{leb-true}
use Rattle.postings.specs.Cursor.{row}
use Rattle.postings.proofs.Runs.{row_length}
use Rattle.postings.proofs.Cursors.{past_in_block, read_inside, read_past, read_rest, read_less}
use Rattle.postings.proofs.Steps.{gave_none, gave_run, gave_fits}
use Rattle.postings.proofs.list.give.Goals as goal

pub loop-d-init : goal.loop-d-init
loop-d-init c = let p = c.requires in (p.0, p.1, gave_none _ _ p.2)

pub copy_run-requires : goal.copy_run-requires
copy_run-requires c =
    let i = c.loop-d.invariant in
    let f = c.args.ifp.now in
    let d = c.in-Ok-Some.d in
    let q = row f c.run_size-n.result d.at in
    let t = rw c.in-Ok-Some.field-0-is at c.in-Ok-Some.ensures in
    let n = c.run_size-n.ensures.0 in
    let k : c.loop-d.i + length q ≤ length c.loop-d.out = gave_fits _ _ _ _ _ i.2 q _ (read_rest f _ d t i.1 _ n) in (
      leb-true _ _ (read_inside f _ d t i.1 _ n),
      omega (arith, k, row_length f c.run_size-n.result d.at),
    )

pub loop-d-smaller : goal.loop-d-smaller
loop-d-smaller c =
    let t = rw c.in-Ok-Some.field-0-is at c.in-Ok-Some.ensures in
    rw c.past-c.ensures (read_less _ _ _ t c.loop-d.invariant.1 _ c.run_size-n.ensures.0)

pub loop-d-preserved : goal.loop-d-preserved
loop-d-preserved c =
    let i = c.loop-d.invariant in
    let f = c.args.ifp.now in
    let d = c.in-Ok-Some.d in
    let t = rw c.in-Ok-Some.field-0-is at c.in-Ok-Some.ensures in
    let n = c.run_size-n.ensures.0 in
    let p = c.past-c.ensures in (
      rw p (past_in_block f d c.run_size-n.result (leb-true _ _ (read_inside f _ d t i.1 _ n))),
      rw p (read_past f _ d t i.1 _ n),
      rw p (gave_run _ _ _ _ _ i.2 _ _ (read_rest f _ d t i.1 _ n) _ _ (row_length f _ _) c.copy_run.ensures),
    )
