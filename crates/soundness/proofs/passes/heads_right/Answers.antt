use native.Mathlib.Omega.{arith}
use Prim.Native.Nat.{◌+◌, ◌/◌}
use mathlib.Core.Path.{◌∙◌}
use lib.ListN.{length}
use Rattle.std.proofs.Common.{rules, tests}
use Rattle.std.proofs.lemmas.Iterator.{YieldsList-from_range}
use Rattle.std.proofs.lemmas.Iterator.Search.{all_from_yields_List}
use Rattle.files.specs.CrossReference.{head_right}
use Rattle.soundness.specs.Sound.{heads_right}
use Rattle.soundness.proofs.Counting.{ranged_all}
use Rattle.soundness.proofs.passes.heads_right.Goals as goal

pub returns : goal.returns
unfolding heads_right
returns c =
    let n = length c.args.xrf.now / 512 in
    all_from_yields_List (head_right c.args.xrf.now) _ _ _ c.all.ensures.ran (YieldsList-from_range 1 (n + 1) n (cc) (omega arith)) (λ x b q k. search (rules, tests))
    ∙ ranged_all (head_right c.args.xrf.now) n
