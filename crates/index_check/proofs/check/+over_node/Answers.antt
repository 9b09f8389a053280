use Prim.Native.Nat.{ℕ, ◌-◌}
use native.Mathlib.Omega.{arith}
use mathlib.Core.Path.{sym, ◌∙◌}
use mathlib.Core.List.{List}
use Rattle.std.proofs.lemmas.Result.{err_from_is_err_and}
use Rattle.index.specs.Reading.{Met}
use Rattle.index.specs.declared.layout.Tree.{Tree}
use Rattle.index.proofs.Shapes.{right_there}
use Rattle.index_check.specs.Walk.{walk}
use Rattle.index_check.specs.Passes.{tree_with}
use Rattle.index_check.proofs.Passing.{pointers_none, pointers_more, over_none, over_broken, over_unordered, over_wrong, over_done, over_stopped, none_behind, more, node_pointer, node_pass, leaf_pointer, leaf_pass}
use Rattle.index_check.proofs.check.+over_node.Goals as goal
use Rattle.index_check.proofs.check.+over_node.Goals.{then-left-eq0-via-then-left-eq0, then-left-eq0-via-else-left-eq0+then-not-keeps_rules, then-left-eq0-via-else-left-eq0+else-not-keeps_rules+then-not-ascends, in-Node+in_ok-after-in-Node, in-Leaf+in_ok-after-in-Leaf}

pub returns-then-left-eq0-clause-is : goal.returns-then-left-eq0-clause-is
returns-then-left-eq0-clause-is t c =
    let u : Tree = tree_with c.args.nodes.now.shape c.args.leaves.now.shape in
    elim c.then-left-eq0.branch [
      | then-left-eq0-via-then-left-eq0 w ↦ over_none _ _ u _ _ _ w.if-left-eq0.true
      | then-left-eq0-via-else-left-eq0+then-not-keeps_rules w ↦
          over_broken _ _ u _ _ _ (omega (arith, w.if-left-eq0.false)) (sym w.keeps_rules.ensures ∙ w.if-not-keeps_rules.true)
      | then-left-eq0-via-else-left-eq0+else-not-keeps_rules+then-not-ascends w ↦
          over_unordered _ _ u _ _ _ (omega (arith, w.if-left-eq0.false)) (sym w.ascends.ensures ∙ w.if-not-ascends.true)
    ]

pub count-i-end-requires : goal.count-i-end-requires
count-i-end-requires t c = (omega arith, right_there _ _ _ (sym c.keeps_rules.ensures ∙ c.if-not-keeps_rules.false))

pub loop-i-init : goal.loop-i-init
loop-i-init t c =
    let u : Tree = tree_with c.args.nodes.now.shape c.args.leaves.now.shape in
    (none_behind _ _ u _ _ _, pointers_none _ _ u _, c.requires.1)

pub returns-in_err-after-in-Node-clause-is : goal.returns-in_err-after-in-Node-clause-is
returns-in_err-after-in-Node-clause-is t c =
    let u : Tree = tree_with c.args.nodes.now.shape c.args.leaves.now.shape in
    let from : ℕ → List Met = λ m. walk c.args.nodes.now.file.now c.args.nodes.now.shape (c.args.left - 1) m in
    let p = err_from_is_err_and c.from_residual.result c.from_residual.ensures.1 in
    rw (p.1, p.2)
    (over_stopped _ _ u _ _ c.loop-i.i _ _ _ (omega arith) (omega arith) c.loop-i.invariant.0
    (c.in_err-after-in-Node.ensures.is ∙ node_pass _ _ u _ _ _ _ _ c.punt.ensures c.key-key.ensures.is c.in-Node.ensures from _))

pub returns-in_err-after-in-Leaf-clause-is : goal.returns-in_err-after-in-Leaf-clause-is
returns-in_err-after-in-Leaf-clause-is t c =
    let u : Tree = tree_with c.args.nodes.now.shape c.args.leaves.now.shape in
    let from : ℕ → List Met = λ m. walk c.args.nodes.now.file.now c.args.nodes.now.shape (c.args.left - 1) m in
    let p = err_from_is_err_and c.from_residual-in_err-after-in-Leaf.result c.from_residual-in_err-after-in-Leaf.ensures.1 in
    rw (p.1, p.2)
    (over_stopped _ _ u _ _ c.loop-i.i _ _ _ (omega arith) (omega arith) c.loop-i.invariant.0
    (c.in_err-after-in-Leaf.ensures.is ∙ leaf_pass _ _ u _ _ _ _ _ c.punt.ensures c.key-key.ensures.is c.in-Leaf.ensures from _))

pub returns-in_default-clause-is : goal.returns-in_default-clause-is
returns-in_default-clause-is t c =
    let u : Tree = tree_with c.args.nodes.now.shape c.args.leaves.now.shape in
    over_wrong _ _ u _ _ _ (omega arith) c.loop-i.i (omega arith)
    (node_pointer _ _ u _ _ _ _ _ c.punt.ensures c.key-key.ensures.is c.in-Node.ensures _ c.if-begins.ensures)

pub returns-in_default-2-clause-is : goal.returns-in_default-2-clause-is
returns-in_default-2-clause-is t c =
    let u : Tree = tree_with c.args.nodes.now.shape c.args.leaves.now.shape in
    over_wrong _ _ u _ _ _ (omega arith) c.loop-i.i (omega arith)
    (leaf_pointer _ _ u _ _ _ _ _ c.punt.ensures c.key-key.ensures.is c.in-Leaf.ensures _ c.if-begins-2.ensures)

pub loop-i-preserved : goal.loop-i-preserved
loop-i-preserved t c =
    let u : Tree = tree_with c.args.nodes.now.shape c.args.leaves.now.shape in
    let from : ℕ → List Met = λ m. walk c.args.nodes.now.file.now c.args.nodes.now.shape (c.args.left - 1) m in
    elim c.match-child_of.branch [
      | in-Node+in_ok-after-in-Node w ↦ (
        more _ _ u from _ _ _ _ _ c.loop-i.invariant.0
            (rw w.after-is (w.in_ok-after-in-Node.ensures.is ∙ node_pass _ _ u _ _ _ _ _ c.punt.ensures c.key-key.ensures.is w.in-Node.ensures from _)),
        pointers_more _ _ u _ _ c.loop-i.invariant.1 (node_pointer _ _ u _ _ _ _ _ c.punt.ensures c.key-key.ensures.is w.in-Node.ensures _ w.if-begins.ensures),
        rw w.after-is w.in_ok-after-in-Node.ensures.reached,
      )
      | in-Leaf+in_ok-after-in-Leaf w ↦ (
        more _ _ u from _ _ _ _ _ c.loop-i.invariant.0
            (rw w.after-is (w.in_ok-after-in-Leaf.ensures.is ∙ leaf_pass _ _ u _ _ _ _ _ c.punt.ensures c.key-key.ensures.is w.in-Leaf.ensures from _)),
        pointers_more _ _ u _ _ c.loop-i.invariant.1 (leaf_pointer _ _ u _ _ _ _ _ c.punt.ensures c.key-key.ensures.is w.in-Leaf.ensures _ w.if-begins-2.ensures),
        rw w.after-is w.in_ok-after-in-Leaf.ensures.reached,
      )
    ]

pub returns-clause-is : goal.returns-clause-is
returns-clause-is t c =
    let u : Tree = tree_with c.args.nodes.now.shape c.args.leaves.now.shape in
    over_done _ _ u _ _ _ (omega arith) _ c.loop-i.i (sym c.keeps_rules.ensures ∙ c.if-not-keeps_rules.false) (sym c.ascends.ensures ∙ c.if-not-ascends.false)
    (omega arith) c.loop-i.invariant.1 c.loop-i.invariant.0
