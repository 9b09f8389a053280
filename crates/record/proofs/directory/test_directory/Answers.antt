-- `test_directory`: the entries so far are past, and the others are asked after the sum of their lengths.
use Rattle.std.proofs.Common.{◌≡◌, ◌+◌, ◌-◌, ◌*◌, Ok, Err, sym, ◌∙◌, arith}
use Rattle.std.proofs.lemmas.Result.{err_from_is_err_and}
use Rattle.record.specs.Directory.{isis}
use Rattle.record.specs.Inner.{past}
use Rattle.record.proofs.DirectoryTest.{past_end, past_on, past_met, past_none, past_first}
use Rattle.record.proofs.directory.test_directory.Goals as goal

pub loop-k-preserved : goal.loop-k-preserved
loop-k-preserved c =
    let n = c.args.nvf in
    let k = c.loop-k.k in (
      c.in_ok-pos.ensures.fits,
      c.loop-k.invariant.1 ∙ past_on isis _ _ 4 (n - 4 * (k + 1)) (n - 4 * k) (4 * k) (4 * (k + 1)) _ _ (omega arith) (omega arith) c.in_ok-pos.ensures.is,
    )

pub returns-in_err-pos : goal.returns-in_err-pos
returns-in_err-pos c =
    let n = c.args.nvf in
    let k = c.loop-k.k in
    let p = err_from_is_err_and c.from_residual.result c.from_residual.ensures.1 in
    rw (p.1, p.2)
    (past_first isis _ _ n 0 0 _
    (past_met isis _ _ 4 (n - 4 * (k + 1)) (n - 4 * k) (4 * k) _ _ (omega arith) c.in_err-pos.ensures.is ∙ sym c.loop-k.invariant.1))

pub loop-i-preserved : goal.loop-i-preserved
loop-i-preserved c =
    let n = c.args.nvf in
    let i = c.loop-i.i in
    let e : c.past_entry.result ≡ Ok c.in_ok-pos-2.pos = grind arith in (
      rw e at c.past_entry.ensures.fits,
      c.loop-i.invariant.1 ∙ past_on isis _ _ 1 (n - (i + 1)) (n - i) i (i + 1) _ _ (omega arith) (omega arith) (rw e at c.past_entry.ensures.is),
    )

pub returns-in_err-pos-2 : goal.returns-in_err-pos-2
unfolding past
returns-in_err-pos-2 c =
    let n = c.args.nvf in
    let i = c.loop-i.i in
    let p = err_from_is_err_and c.from_residual-in_err-pos-2.result c.from_residual-in_err-pos-2.ensures.1 in
    let e : Err c.in_err-pos-2.field-0.0 ≡ past isis c.args.rec.now c.args.room 1 i c.loop-i.pos = grind arith in
    rw (p.1, p.2)
    (past_first isis _ _ n 0 0 _
    (past_met isis _ _ 1 (n - (i + 1)) (n - i) i _ _ (omega arith) e ∙ sym c.loop-i.invariant.1))

pub returns : goal.returns
returns c =
    let l = c.loop-i in
    let z : c.args.nvf - l.i ≡ 0 = omega arith in
    let e = rw z at l.invariant.1 in
    past_none isis _ _ c.args.nvf 0 0 l.pos (past_end isis _ _ l.i l.pos ∙ sym e)
