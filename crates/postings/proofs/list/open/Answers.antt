use mathlib.Core.Path.{refl}
use Rattle.postings.proofs.Opening.{found_or}
use Rattle.postings.proofs.list.open.Goals as goal

pub returns : goal.returns
returns c =
    let t = found_or _ _ _ _ _ c.unwrap_or.ensures c.find.ensures.opens c.find.ensures.broken (refl, refl, refl, refl, refl) in
    record { right = t.right; rest = t.rest; stands = t.in_block }
