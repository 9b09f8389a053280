-- The tree that CNT's part describes.
use Prim.Native.Nat.{ℕ, ◌+◌, ◌*◌, ◌≤◌}
use native.Mathlib.Omega.{arith}
use mathlib.Core.Path.{◌≡◌, refl}
use mathlib.Core.Bool.{Bool, true, false, cond}
use mathlib.Core.List.{List}
use Rattle.std.proofs.Common.{Some, None}
use Rattle.terms.specs.Term.{width_of}
use Rattle.terms.specs.declared.term.Kind.{Kind}
use Rattle.terms.proofs.Padding.{width_low, width_high}
use Rattle.word.proofs.Tests.{tests}
use Rattle.index.specs.Shape.{ShapeFits, shape}
use Rattle.index.specs.Layout.{tree_of, ordn_at, ordf_at}
use Rattle.index.specs.Rules.{part_right, part_of}
use Rattle.index.specs.declared.layout.Tree.{Tree}

-- its numbers are in their bounds, and its keys have its type's width
pub record TreeFits (kind : Kind) (t : Tree) : Type 0 where
  pub nodes_fit : ShapeFits t.nodes
  pub leaves_fit : ShapeFits t.leaves
  pub step_leaf : t.leaves.width + 8 ≤ t.leaves.step
  pub nodes_width : t.nodes.width ≡ width_of kind
  pub leaves_width : t.leaves.width ≡ width_of kind

shape_fits : (kind : Kind) (head tail order : ℕ) → 8 ≤ head → head ≤ 12 → 4 ≤ tail → tail ≤ 8 → 1 ≤ order → order ≤ 16 → ShapeFits (shape kind head tail (2 * order))
shape_fits kind head tail order a b c d e f =
    let l = width_low kind in
    let h = width_high kind in
    record { head_low = a; head_high = b; width_low = omega arith; width_high = h; step_low = omega arith; step_high = omega arith; most_low = omega arith; most_high = omega arith }

tree_fits : (cnt : List ℕ) (kind : Kind) → part_right cnt kind ≡ true → TreeFits kind (tree_of cnt kind)
unfolding part_right tree_of
tree_fits cnt kind e =
    let q = simp tests at e in
    record {
      nodes_fit = shape_fits kind 8 4 (ordn_at cnt kind) (omega arith) (omega arith) (omega arith) (omega arith) (omega (arith, q.0.1.0)) (omega (arith, q.0.1.1));
      leaves_fit = shape_fits kind 12 8 (ordf_at cnt kind) (omega arith) (omega arith) (omega arith) (omega arith) (omega (arith, q.1.0)) (omega (arith, q.1.1));
      step_leaf = omega arith;
      nodes_width = refl;
      leaves_width = refl;
    }

pub part_fits : (cnt : List ℕ) (kind : Kind) (t : Tree) → part_of cnt kind ≡ Some t → TreeFits kind t
unfolding part_of
part_fits cnt kind t e = cases (part_right cnt kind) (tree_of cnt kind) (tree_fits cnt kind) e
  where
    cases : (b : Bool) (u : Tree) → (b ≡ true → TreeFits kind u) → cond b (Some u) None ≡ Some t → TreeFits kind t
    cases true u f e = let same : u ≡ t = cc in rw same at (f refl)
    cases false u f e = let w : ◌≡◌ {A = ℕ} 0 1 = cc in absurd (omega arith)
