-- The layout of CNT's parts, of nodes and of leaves, over the key's width. Source document 004, "Inverted file structure"; document 02, C-11.
--
--   CNT, part of a tree (26 bytes)   0 IDTYPE  2 ORDN  4 ORDF  6 N  8 K  10 LIV  12 POSRX*  16 NMAXPOS*  20 FMAXPOS*  24 ABNORMAL
--   node                             0 POS*  4 OCK  6 IT          then 2 × ORDN entries of KEY, PUNT*
--   leaf                             0 POS*  4 OCK  6 IT  8 PS*   then 2 × ORDF entries of KEY, INFO[1]*, INFO[2]*
--
-- Starred integers take 4 bytes, the others 2. KEY has 10 bytes in the first tree and 30 in the second. A record is named by its number in
-- its file, counted from 1. All starred numbers that are compared are below 2 ^ 31 where a rule holds, so they are compared as their 32 bits.
use Rattle.std.specs.Prelude.{ℕ, zero, suc, ◌+◌, ◌*◌, ◌-◌, List, [], ◌∷◌}
use Rattle.word.specs.Integer.{u16_at, u32_at}
use Rattle.word.specs.Overwrite.{part}
use Rattle.terms.specs.Term.{number_of}
use Rattle.terms.specs.declared.term.Kind.{Kind}
use Rattle.terms.specs.declared.term.Kind.TheVariants.{Short}
use Rattle.index.specs.Shape.{Shape, shape}
use Rattle.index.specs.declared.layout.AnyShape.{AnyShape}
use Rattle.index.specs.declared.layout.Tree.{Tree}

-- ---- limits

-- the bytes of CNT, and of its part for a tree
abbrev pub cnt_bytes : ℕ
cnt_bytes = 52

abbrev pub part_bytes : ℕ
part_bytes = 26

-- the highest order of nodes and of leaves
abbrev pub order_most : ℕ
order_most = 16

-- the most nodes on one way down
abbrev pub nodes_most : ℕ
nodes_most = 16

-- ---- CNT's part for a tree

abbrev pub part_place : Kind → ℕ
part_place kind = part_bytes * (number_of kind - 1)

abbrev pub idtype_at : List ℕ → Kind → ℕ
idtype_at cnt kind = u16_at cnt (part_place kind)

abbrev pub ordn_at : List ℕ → Kind → ℕ
ordn_at cnt kind = u16_at cnt (part_place kind + 2)

abbrev pub ordf_at : List ℕ → Kind → ℕ
ordf_at cnt kind = u16_at cnt (part_place kind + 4)

abbrev pub posrx_at : List ℕ → Kind → ℕ
posrx_at cnt kind = u32_at cnt (part_place kind + 12)

-- the records of a node file and of a leaf file with so many entries
abbrev pub node_shape : Kind → ℕ → Shape
node_shape kind most = shape kind 8 4 most

abbrev pub leaf_shape : Kind → ℕ → Shape
leaf_shape kind most = shape kind 12 8 most

-- the tree that CNT's part describes
unfoldable pub tree_of : List ℕ → Kind → Tree
tree_of cnt kind =
    record {
      nodes = node_shape kind (2 * ordn_at cnt kind);
      leaves = leaf_shape kind (2 * ordf_at cnt kind);
      root = posrx_at cnt kind;
    }

-- the records of a file of any widths: where their fields stand is no matter of their type, which may be any number, so here they have one of the two
abbrev pub plain : AnyShape → Shape
plain s = record { kind = Short; head = s.head; width = s.width; step = s.step; most = s.most }

-- ---- a record, by its number

unfoldable pub size_of : Shape → ℕ
size_of s = s.head + s.most * s.step

unfoldable pub place_of : Shape → ℕ → ℕ
place_of s n = (n - 1) * size_of s

abbrev pub pos_at : List ℕ → Shape → ℕ → ℕ
pos_at f s n = u32_at f (place_of s n)

abbrev pub ock_at : List ℕ → Shape → ℕ → ℕ
ock_at f s n = u16_at f (place_of s n + 4)

abbrev pub it_at : List ℕ → Shape → ℕ → ℕ
it_at f s n = u16_at f (place_of s n + 6)

-- PS of a leaf, its successor
abbrev pub ps_at : List ℕ → Shape → ℕ → ℕ
ps_at f s n = u32_at f (place_of s n + 8)

-- ---- an entry of a record, counted from 0

-- where its KEY begins
unfoldable pub key_place : Shape → ℕ → ℕ → ℕ
key_place s n i = place_of s n + s.head + i * s.step

abbrev pub key_at : List ℕ → Shape → ℕ → ℕ → List ℕ
key_at f s n i = part f (key_place s n i) s.width

-- PUNT of a node's entry, as its 32 bits
abbrev pub punt_at : List ℕ → Shape → ℕ → ℕ → ℕ
punt_at f s n i = u32_at f (key_place s n i + s.width)

-- INFO[1] and INFO[2] of a leaf's entry, block and word in the IFP, as their 32 bits
abbrev pub block_at : List ℕ → Shape → ℕ → ℕ → ℕ
block_at f s n i = u32_at f (key_place s n i + s.width)

abbrev pub word_at : List ℕ → Shape → ℕ → ℕ → ℕ
word_at f s n i = u32_at f (key_place s n i + s.width + 4)

-- k keys of a record from entry i on
unfoldable pub keys_from : List ℕ → Shape → ℕ → ℕ → ℕ → List (List ℕ)
keys_from f s n zero i = []
keys_from f s n (suc k) i = key_at f s n i ∷ keys_from f s n k (i + 1)

-- the active keys: the first OCK
abbrev pub keys_of : List ℕ → Shape → ℕ → List (List ℕ)
keys_of f s n = keys_from f s n (ock_at f s n) 0
