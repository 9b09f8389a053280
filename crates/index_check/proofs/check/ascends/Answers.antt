use native.Mathlib.Omega.{arith}
use mathlib.Core.Path.{◌∙◌, sym}
use Rattle.terms.specs.declared.term.Kind.TheVariants.{Short, Long}
use Rattle.index.proofs.Shapes.{right_facts}
use Rattle.index_check.proofs.Keys.{run_in, run_keys, steps_of}
use Rattle.index_check.proofs.check.ascends.Goals as goal

pub key_place-first-requires : goal.key_place-first-requires
key_place-first-requires g c = (omega arith, ((right_facts _ _ _ c.requires).place_low, omega arith))

pub keys_ascend-requires : goal.keys_ascend-requires
keys_ascend-requires g c =
    let s = steps_of _ Short _ _ _ _ (c.shape.view_is) c.in-Short.is in
    let f = run_in _ _ _ _ _ _ c.key_place-first.ensures.is (sym s.step) c.count-count.ensures.is c.requires in
    (omega arith, omega arith, f.0, f.1)

pub returns-in-Short : goal.returns-in-Short
returns-in-Short g c =
    let s = steps_of _ Short _ _ _ _ (c.shape.view_is) c.in-Short.is in
    c.keys_ascend.ensures ∙ run_keys _ _ _ _ _ _ _ c.key_place-first.ensures.is (sym s.step) (sym s.width) c.count-count.ensures.is

pub keys_ascend-requires-in-Long : goal.keys_ascend-requires-in-Long
keys_ascend-requires-in-Long g c =
    let s = steps_of _ Long _ _ _ _ (c.shape.view_is) c.in-Long.is in
    let f = run_in _ _ _ _ _ _ c.key_place-first.ensures.is (sym s.step) c.count-count.ensures.is c.requires in
    (omega arith, omega arith, f.0, f.1)

pub returns-in-Long : goal.returns-in-Long
returns-in-Long g c =
    let s = steps_of _ Long _ _ _ _ (c.shape.view_is) c.in-Long.is in
    c.keys_ascend-in-Long.ensures ∙ run_keys _ _ _ _ _ _ _ c.key_place-first.ensures.is (sym s.step) (sym s.width) c.count-count.ensures.is
