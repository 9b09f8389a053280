-- What is taken and what the two heads stand for are the merged MFNs, after each turn.
use Prim.Native.Nat.{◌+◌, ◌≤◌, ◌<◌}
use native.Mathlib.Omega.{arith}
use lib.ListN.{length}
use Rattle.merging.specs.Heads.{head_size}
use Rattle.merging.specs.Calls.{both_of}
use Rattle.merging.proofs.Taking.{Took, took_length, took_all}
use Rattle.merging.proofs.Heading.{Filled, filled_none, filled_read, Passed, pass_other, pass_on}
use Rattle.merging.proofs.Stepping.{items, items_whole, standing_none, took_filled, filled_size, turning_none, heads_over, turn_small, turn_first, turn_index, turn_count, turn_less, Wrote, wrote, wrote_none, turn_again, turn_stands, turn_less_all}
use Rattle.merging.proofs.merge.take.Goals.{then-x, else-x, then-y, else-y, then-writes, else-writes, then-not-q-p, else-not-q-p, then-not-p-q, else-not-p-q, Joined-y, Joined-not-p-q}
use Rattle.merging.proofs.merge.take.Goals as goal

-- the next run of each head is read
x-filled : (c : Joined-y) → Filled c.args.ifp.now c.loop-x.last c.loop-x.x c.if-x.x
x-filled c =
    let s = c.loop-x in
    elim c.if-x.branch [
      | then-x w ↦ rw w.x-is (filled_read _ s.last s.x s.invariant.x_right s.invariant.x_rises w.if-x.true _ w.refill-x.ensures)
      | else-x w ↦ rw w.x-is (filled_none _ s.last s.x s.invariant.x_right s.invariant.x_rises w.if-x.false)
    ]

y-filled : (c : Joined-y) → Filled c.args.ifp.now c.loop-x.last c.loop-x.y c.if-y.y
y-filled c =
    let s = c.loop-x in
    elim c.if-y.branch [
      | then-y w ↦ rw w.y-is (filled_read _ s.last s.y s.invariant.y_right s.invariant.y_rises w.if-y.true _ w.refill-y.ensures)
      | else-y w ↦ rw w.y-is (filled_none _ s.last s.y s.invariant.y_right s.invariant.y_rises w.if-y.false)
    ]

-- what was taken before the run
entered : (c : Joined-y)
    → Took c.args.put (items (both_of c.args.which) c.args.ifp.now 16777216 c.unread-x.result c.unread-y.result)
    (items (both_of c.args.which) c.args.ifp.now c.loop-x.last c.if-x.x c.if-y.y) c.args.out.now c.loop-x.out c.loop-x.i
entered c = took_filled _ _ _ _ _ _ _ _ _ _ c.loop-x.invariant _ _ (x-filled c) (y-filled c)

-- there are few enough to be counted
countable : (c : Joined-y) → length (items (both_of c.args.which) c.args.ifp.now 16777216 c.unread-x.result c.unread-y.result) ≤ 8589934592
countable c =
    let a = c.args in
    let p = c.requires in
    rw (items_whole a.ifp.now (both_of a.which) a.put a.a a.b p.0 p.1 _ _ c.unread-x.ensures c.unread-y.ensures) p.2

-- each head has passed the MFN of the turn, or did not have it
x-passed : (c : Joined-not-p-q) → Passed c.args.ifp.now c.min-m.result c.loop-out.x c.if-not-q-p.x
x-passed c =
    let s = c.loop-out in
    let i = s.invariant in
    let l = turn_small _ _ _ _ _ _ _ _ _ _ _ _ _ i _ c.min-m.ensures in
    elim c.if-not-q-p.branch [
      | then-not-q-p w ↦ rw w.x-is (pass_on _ s.last _ s.x i.x_right i.x_in i.x_rises l (omega (arith, c.min-m.ensures, w.if-not-q-p.true)) _ c.behind-behind_x.ensures.0 c.behind-behind_x.ensures.1)
      | else-not-q-p w ↦ rw w.x-is (pass_other _ s.last _ s.x i.x_right i.x_in i.x_rises l (omega (arith, c.min-m.ensures, w.if-not-q-p.false)))
    ]

y-passed : (c : Joined-not-p-q) → Passed c.args.ifp.now c.min-m.result c.loop-out.y c.if-not-p-q.y
y-passed c =
    let s = c.loop-out in
    let i = s.invariant in
    let l = turn_small _ _ _ _ _ _ _ _ _ _ _ _ _ i _ c.min-m.ensures in
    elim c.if-not-p-q.branch [
      | then-not-p-q w ↦ rw w.y-is (pass_on _ s.last _ s.y i.y_right i.y_in i.y_rises l (omega (arith, c.min-m.ensures, w.if-not-p-q.true)) _ c.behind-behind_y.ensures.0 c.behind-behind_y.ensures.1)
      | else-not-p-q w ↦ rw w.y-is (pass_other _ s.last _ s.y i.y_right i.y_in i.y_rises l (omega (arith, c.min-m.ensures, w.if-not-p-q.false)))
    ]

-- the MFN is written, or need not be
written : (c : Joined-not-p-q)
    → Took c.args.put (items (both_of c.args.which) c.args.ifp.now 16777216 c.unread-x.result c.unread-y.result)
    (items (both_of c.args.which) c.args.ifp.now c.loop-x.last c.if-x.x c.if-y.y) c.args.out.now c.loop-x.out c.loop-x.i
    → Wrote c.args.ifp.now (both_of c.args.which) c.args.put c.if-x.x c.if-y.y c.loop-x.last c.loop-x.out c.loop-x.i c.if-writes.out c.if-not-q-p.x c.if-not-p-q.y
    c.min-m.result (c.loop-out.i + c.from-i.result)
written c k =
    elim c.if-writes.branch [
      | then-writes w ↦ rw w.out-is (wrote _ _ _ _ _ _ _ _ _ _ _ _ _ c.loop-out.invariant _ c.min-m.ensures _ c.gives-given.ensures _ c.from-i.ensures _ c.writes.ensures _ _ (x-passed c) (y-passed c) _ _ k w.if-writes.true)
      | else-writes w ↦ rw w.out-is (wrote_none _ _ _ _ _ _ _ _ _ _ _ _ _ c.loop-out.invariant _ c.min-m.ensures _ c.gives-given.ensures _ c.from-i.ensures _ c.writes.ensures _ _ (x-passed c) (y-passed c) w.if-writes.false)
    ]

-- fewer postings are left than before the run
fewer : (c : Joined-not-p-q) → Filled c.args.ifp.now c.loop-x.last c.loop-x.x c.if-x.x → Filled c.args.ifp.now c.loop-x.last c.loop-x.y c.if-y.y
    → head_size c.args.ifp.now c.if-not-q-p.x + head_size c.args.ifp.now c.if-not-p-q.y
    < head_size c.args.ifp.now c.loop-x.x + head_size c.args.ifp.now c.loop-x.y
fewer c p q =
    rw (← filled_size _ _ _ _ _ _ _ _ _ _ c.loop-x.invariant _ _ p q) (turn_less_all _ _ _ _ _ _ _ _ _ _ _ _ _ c.loop-out.invariant _ c.min-m.ensures _ c.gives-given.ensures _ c.from-i.ensures _ c.writes.ensures _ _ (x-passed c) (y-passed c))

pub loop-x-init : goal.loop-x-init
loop-x-init c =
    let p = c.requires in
    standing_none _ _ _ _ _ p.0 p.1 _ p.3 _ _ c.unread-x.ensures c.unread-y.ensures

pub returns-then-leading-ge16777216 : goal.returns-then-leading-ge16777216
returns-then-leading-ge16777216 c =
    let d = (goal.at.returns-then-leading-ge16777216 c).Joined-y in
    let a = c.args in
    let p = c.requires in
    let o = heads_over _ _ _ _ _ _ _ _ _ _ c.loop-x.invariant _ _ (x-filled d) (y-filled d) (rw (← c.leading.ensures) c.if-leading-ge16777216.true) in
    let k = took_filled _ _ _ _ _ _ _ _ _ _ c.loop-x.invariant _ _ (x-filled d) (y-filled d) in
    let r = took_all _ _ _ _ _ _ k o _ (items_whole a.ifp.now (both_of a.which) a.put a.a a.b p.0 p.1 _ _ c.unread-x.ensures c.unread-y.ensures) in
    record { counts = r.0; writes = r.1 }

pub loop-out-init : goal.loop-out-init
loop-out-init c =
    let d = (goal.at.loop-out-init c).Joined-y in
    turning_none _ _ _ _ _ _ _ _ _ _ c.loop-x.invariant _ _ (x-filled d) (y-filled d) (rw (← c.leading.ensures) c.if-leading-ge16777216.false)

pub overflow_add-i : goal.overflow_add-i
overflow_add-i c =
    let d = (goal.at.overflow_add-i c).Joined-y in
    omega (arith, countable d, turn_count _ _ _ _ _ _ _ _ _ _ _ _ _ c.loop-out.invariant _ c.min-m.ensures _ c.gives-given.ensures _ c.from-i.ensures _ _ (entered d))

pub overflow_sub-out : goal.overflow_sub-out
overflow_sub-out c =
    let d = (goal.at.overflow_sub-out c).Joined-y in
    turn_first _ _ _ _ _ _ _ _ _ _ _ _ _ c.loop-out.invariant _ c.min-m.ensures _ c.gives-given.ensures _ c.from-i.ensures _ c.writes.ensures _ _ (entered d) c.if-writes.true

pub bounds-out-i : goal.bounds-out-i
bounds-out-i c =
    let d = (goal.at.bounds-out-i c).Joined-y in
    turn_index _ _ _ _ _ _ _ _ _ _ _ _ _ c.loop-out.invariant _ c.min-m.ensures _ c.gives-given.ensures _ c.from-i.ensures _ c.writes.ensures _ _ (entered d) c.if-writes.true

pub offset_bounds-out-i : goal.offset_bounds-out-i
offset_bounds-out-i c =
    let d = (goal.at.offset_bounds-out-i c).Joined-y in
    let b = turn_index _ _ _ _ _ _ _ _ _ _ _ _ _ c.loop-out.invariant _ c.min-m.ensures _ c.gives-given.ensures _ c.from-i.ensures _ c.writes.ensures _ _ (entered d) c.if-writes.true in
    omega (arith, b, took_length _ _ _ _ _ _ (c.loop-out.invariant.took _ _ (entered d)), c.well_formed.1.1.1.1.1.0.1)

pub loop-x-smaller-then-x-2 : goal.loop-x-smaller-then-x-2
loop-x-smaller-then-x-2 c =
    let p = goal.at.loop-x-smaller-then-x-2 c in
    fewer p.Joined-not-p-q (x-filled p.Joined-y) (y-filled p.Joined-y)

pub loop-x-preserved-then-x-2 : goal.loop-x-preserved-then-x-2
loop-x-preserved-then-x-2 c =
    let p = goal.at.loop-x-preserved-then-x-2 c in
    let j = p.Joined-not-p-q in
    let k = entered p.Joined-y in
    turn_stands _ _ _ _ _ _ _ _ _ _ _ _ _ c.loop-out.invariant _ c.min-m.ensures _ c.gives-given.ensures _ c.from-i.ensures _ c.writes.ensures _ _ (x-passed j) (y-passed j) _ (written j k) _ _ k

pub loop-x-smaller : goal.loop-x-smaller
loop-x-smaller c =
    let p = goal.at.loop-x-smaller c in
    fewer p.Joined-not-p-q (x-filled p.Joined-y) (y-filled p.Joined-y)

pub loop-x-preserved : goal.loop-x-preserved
loop-x-preserved c =
    let p = goal.at.loop-x-preserved c in
    let j = p.Joined-not-p-q in
    let k = entered p.Joined-y in
    turn_stands _ _ _ _ _ _ _ _ _ _ _ _ _ c.loop-out.invariant _ c.min-m.ensures _ c.gives-given.ensures _ c.from-i.ensures _ c.writes.ensures _ _ (x-passed j) (y-passed j) _ (written j k) _ _ k

pub loop-out-smaller : goal.loop-out-smaller
loop-out-smaller c =
    let j = (goal.at.loop-out-smaller c).Joined-not-p-q in
    turn_less _ _ _ _ _ _ _ _ _ _ _ _ _ c.loop-out.invariant _ c.min-m.ensures _ c.gives-given.ensures _ c.from-i.ensures _ c.writes.ensures _ _ (x-passed j) (y-passed j)

pub loop-out-preserved : goal.loop-out-preserved
loop-out-preserved c =
    let p = goal.at.loop-out-preserved c in
    let j = p.Joined-not-p-q in
    turn_again _ _ _ _ _ _ _ _ _ _ _ _ _ c.loop-out.invariant _ c.min-m.ensures _ c.gives-given.ensures _ c.from-i.ensures _ c.writes.ensures _ _ (x-passed j) (y-passed j) _ (written j (entered p.Joined-y)) c.if-x-2.false c.if-y-2.false
