use mathlib.Core.Path.{sym, ◌∙◌}
use Rattle.std.proofs.lemmas.Result.{err_from_is_err_and}
use Rattle.index.specs.Lookup.{lookup_in}
use Rattle.index.proofs.Trees.{part_fits}
use Rattle.index.proofs.Looking.{key_is, search_none, search_err, search_ok}
use Rattle.index.proofs.lookup.lookup_in.Goals as goal

pub returns-in_err-tree : goal.returns-in_err-tree
unfolding lookup_in
returns-in_err-tree c =
    let p = err_from_is_err_and c.from_residual.result c.from_residual.ensures.1 in
    let e = c.read_part.ensures in
    rw (p.1, p.2)
    (search_none _ _ _ _ _ (sym e ∙ c.in_err-tree.ensures.ok_part) (rw e at c.in_err-tree.ensures.value))

pub leaf_for-requires : goal.leaf_for-requires
leaf_for-requires c =
    c.part-key.ensures.size ∙ c.width.ensures.is ∙ sym (part_fits _ _ _ (sym c.read_part.ensures ∙ c.in_ok-tree.ensures.ok_part)).nodes_width

pub returns-in_err-leaf : goal.returns-in_err-leaf
unfolding lookup_in
returns-in_err-leaf c =
    let p = err_from_is_err_and c.from_residual-in_err-leaf.result c.from_residual-in_err-leaf.ensures.1 in
    let key = key_is _ _ _ _ _ c.requires c.width.ensures.is c.copy_to.ensures c.part-key.ensures.is in
    rw (p.1, p.2, ← c.nodes.ensures)
    (search_err _ _ _ _ _ _ (sym c.read_part.ensures ∙ c.in_ok-tree.ensures.ok_part) key _ (sym c.in_err-leaf.was ∙ c.leaf_for.ensures))

pub leaf_answer-requires : goal.leaf_answer-requires
leaf_answer-requires c =
    c.part-key.ensures.size ∙ c.width.ensures.is ∙ sym (part_fits _ _ _ (sym c.read_part.ensures ∙ c.in_ok-tree.ensures.ok_part)).leaves_width

pub returns : goal.returns
unfolding lookup_in
returns c =
    let key = key_is _ _ _ _ _ c.requires c.width.ensures.is c.copy_to.ensures c.part-key.ensures.is in
    rw (← c.nodes.ensures, ← c.leaves.ensures)
    (search_ok _ _ _ _ _ _ (sym c.read_part.ensures ∙ c.in_ok-tree.ensures.ok_part) key _ _ (sym c.in_ok-leaf.was ∙ c.leaf_for.ensures) c.leaf_answer.ensures)
