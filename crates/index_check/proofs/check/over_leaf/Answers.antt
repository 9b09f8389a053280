use Prim.Native.Nat.{◌-◌}
use native.Mathlib.Omega.{arith}
use mathlib.Core.Path.{sym, ◌∙◌}
use Rattle.index.proofs.Shapes.{right_facts, active_in}
use Rattle.index_check.specs.Passes.{Reached}
use Rattle.index_check.proofs.check.over_leaf.Goals as goal

pub overflow_sub-last : goal.overflow_sub-last
overflow_sub-last c =
    let r = right_facts _ _ _ (sym c.keeps_rules.ensures ∙ c.if-not-keeps_rules.false) in
    omega arith

pub key_place-requires : goal.key_place-requires
key_place-requires c =
    let r = right_facts _ _ _ (sym c.keeps_rules.ensures ∙ c.if-not-keeps_rules.false) in
    (omega arith, (r.place_low, omega arith))

pub returns-clause-reached : goal.returns-clause-reached
unfolding Reached
returns-clause-reached c =
    let e = sym c.keeps_rules.ensures ∙ c.if-not-keeps_rules.false in
    let r = right_facts _ _ _ e in
    let h = active_in _ _ _ (c.count-last.result - 1) e (omega arith) in
    let f = c.key_place.ensures.fits.step_low in
    omega arith
