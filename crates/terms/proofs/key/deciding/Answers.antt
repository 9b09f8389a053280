use native.Mathlib.Omega.{arith}
use Prim.Native.Nat.{◌+◌, ◌-◌, ◌*◌}
use lib.ListN.{length}
use Rattle.terms.proofs.Chunks.{eight_at, agree_less, agree_more, differ, last}
use Rattle.terms.proofs.key.deciding.Goals as goal

pub returns-then-x-y : goal.returns-then-x-y
returns-then-x-y c =
    let k = 8 * c.loop-i.i in
    let x = eight_at c.args.a.now k _ (λ m. (c.type_inv.a m).fits) (omega arith) c.eight-x.ensures in
    let y = eight_at c.args.b.now k _ (λ m. (c.type_inv.b m).fits) (omega arith) c.eight-y.ensures in
    let d = differ _ _ k _ _ x y c.loop-i.invariant c.if-x-y.true in
    record { equal = d.equal; less = d.less }

pub loop-i-preserved : goal.loop-i-preserved
loop-i-preserved c =
    let k = 8 * c.loop-i.i in
    let x = eight_at c.args.a.now k _ (λ m. (c.type_inv.a m).fits) (omega arith) c.eight-x.ensures in
    let y = eight_at c.args.b.now k _ (λ m. (c.type_inv.b m).fits) (omega arith) c.eight-y.ensures in
    agree_less _ _ (k + 8) (8 * (c.loop-i.i + 1)) (omega arith) (agree_more _ _ k _ _ x y c.loop-i.invariant c.if-x-y.false)

pub returns : goal.returns
returns c =
    let k = length c.args.a.now - 8 in
    let x = eight_at c.args.a.now k _ (λ m. (c.type_inv.a m).fits) (omega arith) c.eight.ensures in
    let y = eight_at c.args.b.now k _ (λ m. (c.type_inv.b m).fits) (omega arith) (rw c.requires.1 at c.eight-2.ensures) in
    let d = last _ _ k _ _ x y (agree_less _ _ (8 * c.loop-i.i) k (omega arith) c.loop-i.invariant) (omega arith) (omega arith) in
    record { equal = d.equal; less = d.less }
