-- The lookup over CNT's part: what a tree answers.
use Prim.Native.Nat.{ℕ, ◌≤◌}
use native.Mathlib.Omega.{arith}
use mathlib.Core.Path.{◌≡◌, ◌∙◌}
use mathlib.Core.List.{List}
use lib.ListN.{length, replicate}
use Rattle.std.proofs.Common.{Option, Some, None, Ok, Err}
use Rattle.std.specs.Option.{ok_or}
use Rattle.word.specs.Overwrite.{overwrite, part}
use Rattle.terms.specs.Term.{width_of, padded}
use Rattle.terms.specs.declared.term.Kind.{Kind}
use Rattle.terms.proofs.Padding.{width_high, key_padded}
use Rattle.index.specs.Inner.{way_end}
use Rattle.index.specs.Layout.{nodes_most}
use Rattle.index.specs.Lookup.{Found, leaf_answer, search_tree}
use Rattle.index.specs.declared.layout.Tree.{Tree}
use Rattle.index.specs.declared.lookup.Refusal.{Refusal}
use Rattle.index.specs.declared.lookup.Refusal.TheVariants.{BadIndex}
use Rattle.index.proofs.Finding.{end_answer, down_ends}

-- the padded term, as the front of a buffer of spaces that it was copied to
pub key_is : (kind : Kind) (term buffer key : List ℕ) (width : ℕ) → length term ≤ width_of kind → width ≡ width_of kind
    → buffer ≡ overwrite (replicate 30 32) 0 term → key ≡ part buffer 0 width → key ≡ padded (width_of kind) term
key_is kind term buffer key width h w b k =
    let l = width_high kind in
    k ∙ rw w (key_padded term buffer (omega arith) b (width_of kind) h l)

-- a tree that CNT's part does not describe
pub search_none : (nodes leaves key : List ℕ) (p : Option Tree) (refusal : Refusal) → p ≡ None → Err refusal ≡ ok_or p BadIndex
    → Err refusal ≡ search_tree nodes leaves key p
unfolding search_tree
search_none nodes leaves key p refusal e r =
    let q : refusal ≡ BadIndex = let z = rw e at r in cc in
    rw (e, q)

-- and one that it does, by how the way down ends
module _ (nodes leaves key key' : List ℕ) (p : Option Tree) (t : Tree) (e : p ≡ Some t) (k : key ≡ key') where
  ends : search_tree nodes leaves key' p ≡ end_answer leaves t.leaves key (way_end nodes t.nodes key nodes_most t.root)
  unfolding search_tree
  ends = rw (e, k) (down_ends nodes leaves t key' nodes_most t.root)

  pub search_err : (refusal : Refusal) → Err refusal ≡ way_end nodes t.nodes key nodes_most t.root → Err refusal ≡ search_tree nodes leaves key' p
  unfolding end_answer
  search_err refusal d = rw (ends, ← d)

  pub search_ok : (n : ℕ) (r : Found) → Ok n ≡ way_end nodes t.nodes key nodes_most t.root → r ≡ leaf_answer leaves t.leaves key n → r ≡ search_tree nodes leaves key' p
  unfolding end_answer
  search_ok n r d a = a ∙ rw (ends, ← d)
