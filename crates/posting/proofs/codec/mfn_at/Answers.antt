use Rattle.posting.proofs.RoundTrip.{read_mfn}
use Rattle.posting.proofs.codec.mfn_at.Goals as goal

pub returns : goal.returns
returns c = read_mfn c.args.s.now (λ i. (c.type_inv.s i).fits) c.args.at _ c.from_be_bytes.ensures
