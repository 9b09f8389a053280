-- After i turns the first i bytes of src are written.
use mathlib.Core.Path.{◌≡◌, refl, sym, ◌∙◌}
use Prim.Native.Nat.{◌+◌, ◌-◌}
use native.Mathlib.Omega.{arith}
use lib.ListN.{length, length-set}
use lib.Seq.{take-length}
use Rattle.word.proofs.Overwrite.{part_length, overwrite_none, overwrite_whole, copy_more, returned_part}
use Rattle.word.proofs.bytes.copy_to.Goals as goal

pub loop-i-init : goal.loop-i-init
loop-i-init c =
    let a = c.args in
    let n : a.at + length a.src.now - a.at ≡ length a.src.now = omega arith in
    (part_length a.d.now a.at _ (omega (arith, c.requires)) ∙ n, sym (overwrite_none _ 0))

pub loop-i-preserved : goal.loop-i-preserved
loop-i-preserved c =
    let l = c.loop-i in
    (simp length-set l.invariant.0, copy_more _ c.args.src.now l.i l.invariant.1 (omega arith) (omega (arith, l.invariant.0)))

pub returns : goal.returns
returns c =
    let a = c.args in
    let l = c.loop-i in
    let n : l.i ≡ length a.src.now = omega arith in
    returned_part a.d.now a.at (a.at + length a.src.now) a.src.now (l.invariant.1 ∙ rw (n, take-length) (overwrite_whole _ a.src.now (omega arith))) refl
