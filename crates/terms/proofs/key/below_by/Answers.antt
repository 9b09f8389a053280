use native.Mathlib.Omega.{arith}
use mathlib.Core.Path.{refl, sym, ◌∙◌}
use borrow.Author.Tests.{lt-ltb, le-ltb}
use Rattle.terms.proofs.Chunks.{eight_at, agree_more, differ}
use Rattle.terms.proofs.key.below_by.Goals as goal

pub returns-then-x-y : goal.returns-then-x-y
returns-then-x-y c =
    let r = c.requires in
    let x = eight_at c.args.a.now 0 _ (λ m. (c.type_inv.a m).fits) (omega arith) r.2 in
    let y = eight_at c.args.b.now 0 _ (λ m. (c.type_inv.b m).fits) (omega arith) r.3 in
    let l = c.if-x-y.true in
    sym (lt-ltb c.args.x c.args.y l) ∙ (differ _ _ 0 _ _ x y refl (λ z. omega arith)).less

pub returns-then-y-x : goal.returns-then-y-x
returns-then-y-x c =
    let r = c.requires in
    let x = eight_at c.args.a.now 0 _ (λ m. (c.type_inv.a m).fits) (omega arith) r.2 in
    let y = eight_at c.args.b.now 0 _ (λ m. (c.type_inv.b m).fits) (omega arith) r.3 in
    let l = c.if-y-x.true in
    sym (le-ltb c.args.x c.args.y (omega arith)) ∙ (differ _ _ 0 _ _ x y refl (λ z. omega arith)).less

pub deciding-x-requires : goal.deciding-x-requires
deciding-x-requires c =
    let r = c.requires in
    let x = eight_at c.args.a.now 0 _ (λ m. (c.type_inv.a m).fits) (omega arith) r.2 in
    let y = eight_at c.args.b.now 0 _ (λ m. (c.type_inv.b m).fits) (omega arith) r.3 in
    (omega arith, omega arith, agree_more _ _ 0 _ _ x y refl (omega (arith, c.if-x-y.false, c.if-y-x.false)))
