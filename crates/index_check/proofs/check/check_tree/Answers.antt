use mathlib.Core.Path.{refl, sym, ◌∙◌}
use mathlib.Core.Bool.{true, false}
use borrow.Author.Tests.{eq-eqb, ne_eqb}
use Rattle.std.proofs.lemmas.Result.{err_from_is_err_and}
use Rattle.index.proofs.Trees.{part_fits}
use Rattle.index_check.specs.Passes.{Reached, ended}
use Rattle.index_check.proofs.Checking.{tree_wrong, tree_ended}
use Rattle.index_check.proofs.check.check_tree.Goals as goal

pub returns-in_err-tree : goal.returns-in_err-tree
returns-in_err-tree c =
    let p = err_from_is_err_and c.from_residual.result c.from_residual.ensures.1 in
    rw (p.1, p.2) (tree_wrong _ _ _ _ (sym c.read_part.ensures ∙ c.in_err-tree.ensures.ok_part))

pub over_node-requires : goal.over_node-requires
unfolding Reached
over_node-requires c =
    let f = part_fits _ _ _ (sym c.read_part.ensures ∙ c.in_ok-tree.ensures.ok_part) in
    (f.nodes_width ∙ sym f.leaves_width, tt)

pub returns-in_err-last : goal.returns-in_err-last
unfolding ended
returns-in_err-last c =
    let p = err_from_is_err_and c.from_residual-in_err-last.result c.from_residual-in_err-last.ensures.1 in
    rw (p.1, p.2, ← c.nodes.ensures, ← c.leaves.ensures)
    (tree_ended _ _ _ _ (sym c.read_part.ensures ∙ c.in_ok-tree.ensures.ok_part) _ c.in_err-last.ensures.is false refl)

pub returns-else-last-eq0 : goal.returns-else-last-eq0
unfolding ended
returns-else-last-eq0 c =
    rw (← c.nodes.ensures, ← c.leaves.ensures)
    (tree_ended _ _ _ _ (sym c.read_part.ensures ∙ c.in_ok-tree.ensures.ok_part) _ c.in_ok-last.ensures.is false (rw c.in-Some.is (ne_eqb _ _ c.if-last-eq0.false)))

pub returns-then-last-eq0 : goal.returns-then-last-eq0
unfolding ended
returns-then-last-eq0 c =
    rw (← c.nodes.ensures, ← c.leaves.ensures)
    (tree_ended _ _ _ _ (sym c.read_part.ensures ∙ c.in_ok-tree.ensures.ok_part) _ c.in_ok-last.ensures.is true (rw c.in-Some.is (eq-eqb _ _ c.if-last-eq0.true)))

pub returns-in-None : goal.returns-in-None
unfolding ended
returns-in-None c =
    rw (← c.nodes.ensures, ← c.leaves.ensures)
    (tree_ended _ _ _ _ (sym c.read_part.ensures ∙ c.in_ok-tree.ensures.ok_part) _ c.in_ok-last.ensures.is true (rw c.in-None.is refl))
