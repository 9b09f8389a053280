use native.Mathlib.Omega.{arith}
use mathlib.Core.Path.{refl}
use borrow.Author.Tests.{ne_eqb}
use mathlib.Core.Path.{sym, ◌∙◌}
use Rattle.terms.proofs.Chunks.{eight_at, agree_more, differ}
use Rattle.terms.proofs.key.same_key.Goals as goal

pub returns-then-eight : goal.returns-then-eight
returns-then-eight c =
    let x = eight_at c.args.a.now 0 _ (λ m. (c.type_inv.a m).fits) (omega arith) c.eight.ensures in
    let y = eight_at c.args.b.now 0 _ (λ m. (c.type_inv.b m).fits) (omega arith) c.eight-2.ensures in
    sym (ne_eqb _ _ c.if-eight.true) ∙ (differ _ _ 0 _ _ x y refl c.if-eight.true).equal

pub deciding-x-requires : goal.deciding-x-requires
deciding-x-requires c =
    let x = eight_at c.args.a.now 0 _ (λ m. (c.type_inv.a m).fits) (omega arith) c.eight.ensures in
    let y = eight_at c.args.b.now 0 _ (λ m. (c.type_inv.b m).fits) (omega arith) c.eight-2.ensures in
    (omega arith, omega arith, agree_more _ _ 0 _ _ x y refl c.if-eight.false)
