use Prim.Native.Nat.{◌≤◌}
use mathlib.Core.Path.{◌≡◌, ◌∙◌}
use native.Mathlib.Omega.{arith}
use lib.ListN.{length}
use Rattle.postings.specs.Cursor.{rest_of}
use Rattle.merging.specs.Merge.{mfns_of, merged}
use Rattle.merging.specs.Calls.{both_of}
use Rattle.merging.proofs.Both.{merge_full, merge_given}
use Rattle.merging.proofs.merge.merge.Goals.{else-out-most-via-then-out-most+else-out-take, else-out-most-via-else-out-most, Joined-else-out-most}
use Rattle.merging.proofs.merge.merge.Goals as goal

-- behind the count, or without it: the list is as it was, and has room
ready : (c : Joined-else-out-most)
    → (c.else-out-most.out ≡ c.args.out.now)
    × (length (merged (both_of c.args.which) (mfns_of (rest_of c.args.ifp.now c.args.a)) (mfns_of (rest_of c.args.ifp.now c.args.b))) ≤ length c.args.out.now)
ready c =
    let p = c.requires in
    elim c.else-out-most.branch [
      | else-out-most-via-then-out-most+else-out-take w ↦ (w.out-is ∙ w.take.ensures.writes, omega (arith, w.take.ensures.counts, w.if-out-take.false))
      | else-out-most-via-else-out-most w ↦ (w.out-is, omega (arith, p.2, w.if-out-most.false))
    ]

pub returns-then-out-take : goal.returns-then-out-take
returns-then-out-take c =
    let k = c.take.ensures in
    let p = merge_full _ c.args.out.now _ _ k.counts c.if-out-take.true k.writes in
    record { answers = p.answers; writes = p.writes }

pub returns : goal.returns
returns c =
    let k = c.take-2.ensures in
    let r = ready (goal.at.returns c).Joined-else-out-most in
    let p = merge_given _ c.args.out.now r.1 _ _ k.counts (k.writes ∙ rw r.0) in
    record { answers = p.answers; writes = p.writes }
