-- The records of a node or a leaf file, and what CNT's rules say of their numbers.
use Rattle.std.specs.Prelude.{ℕ, ◌+◌, ◌≤◌}
use Rattle.terms.specs.Term.{width_of}
use Rattle.terms.specs.declared.term.Kind.{Kind}

-- the tree's type, the bytes before the entries, the key's width, the bytes of an entry, and how many entries there are
pub record Shape : Type 0 where
  pub kind : Kind
  pub head : ℕ
  pub width : ℕ
  pub step : ℕ
  pub most : ℕ

-- of a tree's type, with so many bytes before the entries, in each entry behind its key, and so many entries
abbrev pub shape : Kind → ℕ → ℕ → ℕ → Shape
shape kind head tail most = record { kind = kind; head = head; width = width_of kind; step = width_of kind + tail; most = most }

-- the bounds that CNT's rules give
pub record ShapeFits (s : Shape) : Type 0 where
  pub head_low : 8 ≤ s.head
  pub head_high : s.head ≤ 12
  pub width_low : 8 ≤ s.width
  pub width_high : s.width ≤ 30
  pub step_low : s.width + 4 ≤ s.step
  pub step_high : s.step ≤ 38
  pub most_low : 1 ≤ s.most
  pub most_high : s.most ≤ 32
