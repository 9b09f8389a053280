-- What a tree answers to the check.
use Prim.Native.Nat.{ℕ}
use mathlib.Core.Path.{◌≡◌, sym, ap, ◌∙◌}
use mathlib.Core.Bool.{Bool}
use mathlib.Core.List.{List}
use Rattle.std.proofs.Common.{Option, Some, None, Ok, Err}
use Rattle.index.specs.declared.layout.Tree.{Tree}
use Rattle.index.specs.Layout.{nodes_most}
use Rattle.index_check.specs.Walk.{walk}
use Rattle.index_check.specs.Sound.{tree_sound, verdict}
use Rattle.index_check.specs.Passes.{Progress, pass, ended, tree_with}
use Rattle.index_check.specs.declared.check.BadIndex.{BadIndex}
use Rattle.index_check.proofs.Passing.{pass_rootless}
use Rattle.index_check.proofs.Sound.{pass_sound}

module _ (nodes leaves : List ℕ) (p : Option Tree) where
  pub tree_wrong : (e : BadIndex) → p ≡ None → Err e ≡ verdict (tree_sound nodes leaves p)
  unfolding tree_sound
  tree_wrong e q = rw q

  -- by how the walk ended
  module _ (t : Tree) (q : p ≡ Some t) (w : Progress) (d : w ≡ pass nodes leaves (tree_with t.nodes t.leaves) (walk nodes t.nodes nodes_most t.root) (Ok None)) where
    tree_is : tree_sound nodes leaves p ≡ ended w
    unfolding tree_sound
    tree_is = rw q (sym (pass_sound nodes leaves t (walk nodes t.nodes nodes_most t.root)) ∙ ap ended (sym (pass_rootless nodes leaves t (walk nodes t.nodes nodes_most t.root) (Ok None)) ∙ sym d))

    pub tree_ended : (b : Bool) → ended w ≡ b → verdict b ≡ verdict (tree_sound nodes leaves p)
    tree_ended b e = ap verdict (sym (tree_is ∙ e))
