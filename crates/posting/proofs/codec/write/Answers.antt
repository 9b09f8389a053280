use mathlib.Core.Path.{sym, ap, ◌∙◌}
use Rattle.std.specs.Int.{w64, to_be_bytes}
use Rattle.posting.proofs.Writing.{narrow_facts, written}
use Rattle.posting.proofs.codec.write.Goals as goal

pub bits-requires : goal.bits-requires
bits-requires c = narrow_facts _ _ _ _ (sym c.fits.ensures ∙ c.if-not-fits.false)

pub returns-clause-writes : goal.returns-clause-writes
returns-clause-writes c =
    let p = c.args.p in
    written p.mfn p.tag p.occurrence p.sequence c.args.out.now _ (sym c.fits.ensures ∙ c.if-not-fits.false) c.if-out-lt8.false
    (c.copy_from_slice.ensures.after ∙ c.to_be_bytes.ensures ∙ ap (to_be_bytes w64) c.bits.ensures)
