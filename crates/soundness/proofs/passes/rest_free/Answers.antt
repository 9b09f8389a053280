use native.Mathlib.Omega.{arith}
use Prim.Native.Nat.{◌+◌, ◌-◌}
use mathlib.Core.Path.{◌∙◌}
use lib.ListN.{length}
use Rattle.std.proofs.Common.{rules, tests}
use Rattle.std.proofs.lemmas.Iterator.{YieldsList-from_range}
use Rattle.std.proofs.lemmas.Iterator.Search.{all_from_yields_List}
use Rattle.layout.specs.Sizes.{capacity_of}
use Rattle.files.specs.CrossReference.{slot_free}
use Rattle.soundness.specs.Sound.{rest_free}
use Rattle.soundness.proofs.Counting.{ranged_from}
use Rattle.soundness.proofs.passes.rest_free.Goals as goal

pub returns : goal.returns
unfolding rest_free
returns c =
    let last = capacity_of (length c.args.xrf.now) in
    let next = c.args.next.0 in
    let n = last + 1 - next in
    all_from_yields_List (slot_free c.args.xrf.now) _ _ _ c.all.ensures.ran (YieldsList-from_range next (c.capacity.result + 1) n (cc) (omega (arith, c.capacity.ensures))) (λ x b q k. search (rules, tests))
    ∙ ranged_from (slot_free c.args.xrf.now) next last n c.requires.0 (omega (arith, c.requires))
