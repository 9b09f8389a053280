use native.Mathlib.Omega.{arith}
use mathlib.Core.Path.{◌≡◌}
use mathlib.Core.List.{[]}
use Rattle.std.proofs.Common.{rules}
use Rattle.postings.specs.Cursor.{rest_of}
use Rattle.postings.proofs.Runs.{size_some}
use Rattle.merging.proofs.Heading.{refill_over, refill_inside, refill_found}
use Rattle.merging.proofs.merge.refill.Goals as goal

pub returns-in_default : goal.returns-in_default
returns-in_default c =
    let e : rest_of c.args.ifp.now c.args.start ≡ [] = search rules in
    refill_over _ _ c.requires.0 c.requires.1 e

pub mfn_at-requires : goal.mfn_at-requires
mfn_at-requires c =
    let p = c.requires in
    let t = rw c.in-Ok-Some.field-0-is at c.in-Ok-Some.ensures in
    let n = c.run_size-n.ensures.0 in
    let f = c.args.ifp.now in
    omega (arith, size_some f _ _ _ t.in_block.0 t.some n, refill_inside f _ p.0 p.1 _ t _ n)

pub returns : goal.returns
returns c =
    let p = c.requires in
    let t = rw c.in-Ok-Some.field-0-is at c.in-Ok-Some.ensures in
    refill_found c.args.ifp.now _ p.0 p.1 _ t _ c.run_size-n.ensures.0 _ c.past.ensures _ c.mfn_at.ensures.0 c.mfn_at.ensures.1
