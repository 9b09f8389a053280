-- The lookup of a term: the way down through the nodes, and the search in the leaf. Document 02, C-11.
use Rattle.std.specs.Prelude.{ℕ, zero, suc, ◌+◌, ◌-◌, Bool, cond, List, [], ◌∷◌, ltb, ℤ, pos, Option, Some, None, Result, Ok, Err}
use Rattle.word.specs.Signed.{signed_of}
use Rattle.terms.specs.Key.{same, below}
use Rattle.terms.specs.Term.{term_right, kind_for, width_of, padded}
use Rattle.terms.specs.declared.term.Kind.{Kind}
use Rattle.index.specs.Files.{Index, nodes_in, leaves_in}
use Rattle.index.specs.Shape.{Shape}
use Rattle.index.specs.Layout.{nodes_most, ock_at, key_at, punt_at, block_at, word_at}
use Rattle.index.specs.Rules.{record_right, node_right, part_of}
use Rattle.index.specs.declared.layout.Tree.{Tree}
use Rattle.index.specs.declared.lookup.Place.{Place}
use Rattle.index.specs.declared.lookup.Refusal.{Refusal}
use Rattle.index.specs.declared.lookup.Refusal.TheVariants.{BadTerm, BadIndex, NoTerm}

-- ---- answers

-- what a lookup finds, or why it finds nothing
abbrev pub Found : Type 0
Found = Result Place Refusal

-- block and word of a key, as their 32 bits
abbrev pub at : ℕ → ℕ → Found
at block word = Ok (record { block = block; word = word })

-- the number of each refusal
abbrev pub refusal_of : Refusal → ℕ
refusal_of BadTerm = 20
refusal_of BadIndex = 21
refusal_of NoTerm = 22

-- and of each answer
unfoldable pub answer_of : Found → ℕ
answer_of (Ok place) = 0
answer_of (Err refusal) = refusal_of refusal

-- block and word as signed numbers, 0 where refused
unfoldable pub block_of : Found → ℤ
block_of (Ok place) = signed_of place.block
block_of (Err refusal) = pos 0

unfoldable pub word_of : Found → ℤ
word_of (Ok place) = signed_of place.word
word_of (Err refusal) = pos 0

-- ---- in a leaf

-- an entry of a leaf
pub record Entry : Type 0 where
  pub key : List ℕ
  pub block : ℕ
  pub word : ℕ

abbrev pub entry_at : List ℕ → Shape → ℕ → ℕ → Entry
entry_at f s n i = record { key = key_at f s n i; block = block_at f s n i; word = word_at f s n i }

-- k entries of a leaf from entry i on
unfoldable pub entries_from : List ℕ → Shape → ℕ → ℕ → ℕ → List Entry
entries_from f s n zero i = []
entries_from f s n (suc k) i = entry_at f s n i ∷ entries_from f s n k (i + 1)

-- the active entries
abbrev pub entries_of : List ℕ → Shape → ℕ → List Entry
entries_of f s n = entries_from f s n (ock_at f s n) 0

-- block and word of the first equal key
unfoldable pub first_equal : List ℕ → List Entry → Found
first_equal key [] = Err NoTerm
first_equal key (e ∷ es) = cond (same key e.key) (at e.block e.word) (first_equal key es)

-- what a leaf met answers
unfoldable pub leaf_answer : List ℕ → Shape → List ℕ → ℕ → Found
leaf_answer f s key n = cond (record_right f s n) (first_equal key (entries_of f s n)) (Err BadIndex)

-- ---- on the way down

-- PUNT of the last of the first k entries whose key is not above the term; none where the term is below every key
unfoldable pub last_punt : List ℕ → Shape → List ℕ → ℕ → ℕ → Option ℕ
last_punt f s key n zero = None
last_punt f s key n (suc i) = cond (below key (key_at f s n i)) (last_punt f s key n i) (Some (punt_at f s n i))

-- of the active entries
abbrev pub punt_for : List ℕ → Shape → List ℕ → ℕ → Option ℕ
punt_for f s key n = last_punt f s key n (ock_at f s n)

-- a positive PUNT is a node
abbrev pub is_node : ℕ → Bool
is_node punt = ltb punt 2147483648

-- a negative one is a leaf, whose number is its absolute value
abbrev pub leaf_number : ℕ → ℕ
leaf_number punt = 4294967296 - punt

-- one level down by a PUNT, where there is one: by `node` where it is a node, by `leaf` where it is a leaf
unfoldable pub onward : (ℕ → Found) → (ℕ → Found) → Option ℕ → Found
onward node leaf None = Err NoTerm
onward node leaf (Some punt) = cond (is_node punt) (node punt) (leaf (leaf_number punt))

-- from node n on, with so many nodes left on the way
unfoldable pub descend : List ℕ → List ℕ → Tree → List ℕ → ℕ → ℕ → Found
descend nodes leaves t key zero n = Err BadIndex
descend nodes leaves t key (suc left) n =
    cond (node_right nodes t.nodes n)
    (onward (λ m. descend nodes leaves t key left m) (leaf_answer leaves t.leaves key) (punt_for nodes t.nodes key n))
    (Err BadIndex)

-- in the tree that CNT's part describes, from its root, over at most 16 nodes
unfoldable pub search_tree : List ℕ → List ℕ → List ℕ → Option Tree → Found
search_tree nodes leaves key None = Err BadIndex
search_tree nodes leaves key (Some t) = descend nodes leaves t key nodes_most t.root

-- a right term in the tree of a type
unfoldable pub lookup_in : Index → Kind → List ℕ → Found
lookup_in x kind term = search_tree (nodes_in x kind) (leaves_in x kind) (padded (width_of kind) term) (part_of x.cnt kind)

unfoldable pub lookup_of : Index → List ℕ → Found
lookup_of x term = cond (term_right term) (lookup_in x (kind_for term) term) (Err BadTerm)
