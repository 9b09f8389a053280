-- An index as its bytes: CNT, and the node and the leaf file of each tree. Source document 004, "Inverted file structure".
use Rattle.std.specs.Prelude.{ℕ, List}
use Rattle.terms.specs.declared.term.Kind.{Kind}
use Rattle.terms.specs.declared.term.Kind.TheVariants.{Short, Long}

pub record Index : Type 0 where
  pub cnt : List ℕ
  pub n01 : List ℕ
  pub l01 : List ℕ
  pub n02 : List ℕ
  pub l02 : List ℕ

abbrev pub index : List ℕ → List ℕ → List ℕ → List ℕ → List ℕ → Index
index cnt n01 l01 n02 l02 = record { cnt = cnt; n01 = n01; l01 = l01; n02 = n02; l02 = l02 }

-- the node file, and the leaf file, of a tree
abbrev pub nodes_in : Index → Kind → List ℕ
nodes_in x Short = x.n01
nodes_in x Long = x.n02

abbrev pub leaves_in : Index → Kind → List ℕ
leaves_in x Short = x.l01
leaves_in x Long = x.l02
