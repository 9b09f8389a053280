use native.Mathlib.Omega.{arith}
use native.Mathlib.Nat.{suc-mul}
use Prim.Native.Nat.{◌+◌, ◌*◌, ◌-◌}
use Rattle.terms.proofs.Ascending.{front_big, run_start, run_done, run_stop, run_next}
use Rattle.terms.proofs.key.keys_ascend.Goals as goal

pub loop-i-init : goal.loop-i-init
loop-i-init c =
    let a = c.args in
    (omega arith, run_start a.file.now a.step a.width a.at a.count c.requires.2, c.eight-x.ensures)

pub below_by-requires : goal.below_by-requires
below_by-requires c =
    let a = c.args in
    let x = front_big a.file.now c.loop-i.key a.width _ c.requires.0 c.loop-i.invariant.2 in
    let y = front_big a.file.now (a.at + c.loop-i.i * a.step) a.width _ c.requires.0 c.eight-y.ensures in
    (omega arith, omega arith, rw (← c.part.ensures.is) at x, rw (← c.part-in-loop-i.ensures.is) at y)

pub returns-then-not-below_by : goal.returns-then-not-below_by
returns-then-not-below_by c =
    let a = c.args in
    let l = c.loop-i in
    run_stop a.file.now a.step a.width _ l.key _ l.invariant.1 _ (a.at + l.i * a.step) (a.count - (l.i + 1)) (omega arith) (omega arith)
    (rw (c.part.ensures.is, c.part-in-loop-i.ensures.is) at c.below_by.ensures) c.if-not-below_by.true

pub loop-i-preserved : goal.loop-i-preserved
loop-i-preserved c =
    let a = c.args in
    let l = c.loop-i in (
      omega (arith, suc-mul l.i a.step),
      run_next a.file.now a.step a.width _ l.key _ l.invariant.1 _ (a.at + l.i * a.step) (a.count - (l.i + 1)) (omega arith) (omega arith)
          (rw (c.part.ensures.is, c.part-in-loop-i.ensures.is) at c.below_by.ensures) c.if-not-below_by.false,
      c.eight-y.ensures,
    )

pub returns : goal.returns
returns c =
    run_done c.args.file.now c.args.step c.args.width _ c.loop-i.key _ c.loop-i.invariant.1 (omega arith)
