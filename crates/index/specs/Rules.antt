-- The rules of answer 21, each under its own name. Document 02, C-11.
use Rattle.std.specs.Prelude.{ℕ, zero, suc, ◌*◌, Bool, true, not, ◌&&◌, cond, List, eqb, leb, ltb, length, Option, Some, None}
use Rattle.terms.specs.Term.{number_of}
use Rattle.terms.specs.declared.term.Kind.{Kind}
use Rattle.index.specs.Layout.{cnt_bytes, order_most, size_of, pos_at, ock_at, it_at, punt_at, idtype_at, ordn_at, ordf_at, tree_of, plain}
use Rattle.index.specs.Shape.{Shape}
use Rattle.index.specs.declared.layout.AnyShape.{AnyShape}
use Rattle.index.specs.declared.layout.Tree.{Tree}

-- ---- CNT

-- CNT has 52 bytes
abbrev pub cnt_length : List ℕ → Bool
cnt_length cnt = eqb (length cnt) cnt_bytes

-- an order is 1 to 16
abbrev pub order_right : ℕ → Bool
order_right order = leb 1 order && leb order order_most

-- CNT's part for a tree: its own type, both orders in range
unfoldable pub part_right : List ℕ → Kind → Bool
part_right cnt kind = cnt_length cnt && eqb (idtype_at cnt kind) (number_of kind) && order_right (ordn_at cnt kind) && order_right (ordf_at cnt kind)

-- the tree that it describes; none where it breaks a rule
unfoldable pub part_of : List ℕ → Kind → Option Tree
part_of cnt kind = cond (part_right cnt kind) (Some (tree_of cnt kind)) None

-- ---- a record met, of a node or a leaf file

-- it is there: its number is at least 1, a positive number of 32 bits, and all its bytes are in the file
unfoldable pub record_there : List ℕ → Shape → ℕ → Bool
record_there f s n = leb 1 n && ltb n 2147483648 && leb (n * size_of s) (length f)

-- its number is its position
abbrev pub number_right : List ℕ → Shape → ℕ → Bool
number_right f s n = eqb (pos_at f s n) n

-- its key count is in range
abbrev pub count_right : List ℕ → Shape → ℕ → Bool
count_right f s n = leb 1 (ock_at f s n) && leb (ock_at f s n) s.most

-- its tree type is its own
abbrev pub type_right : List ℕ → Shape → ℕ → Bool
type_right f s n = eqb (it_at f s n) (number_of s.kind)

unfoldable pub rest_right : List ℕ → Shape → ℕ → Bool
rest_right f s n = number_right f s n && count_right f s n && type_right f s n

unfoldable pub record_right : List ℕ → Shape → ℕ → Bool
record_right f s n = record_there f s n && rest_right f s n

-- no PUNT 0 among the first k entries
unfoldable pub punts_right : List ℕ → Shape → ℕ → ℕ → Bool
punts_right f s n zero = true
punts_right f s n (suc i) = punts_right f s n i && not (eqb (punt_at f s n i) 0)

-- a node met: as every record, and no PUNT 0 among the active entries
unfoldable pub node_right : List ℕ → Shape → ℕ → Bool
node_right f s n = record_right f s n && punts_right f s n (ock_at f s n)

-- ---- a record met in a file of any widths

-- the rules for every record, its own type being the number that is given
unfoldable pub record_right_any : List ℕ → AnyShape → ℕ → Bool
record_right_any f s n = record_there f (plain s) n && number_right f (plain s) n && count_right f (plain s) n && eqb (it_at f (plain s) n) s.kind

-- and for a node
unfoldable pub node_right_any : List ℕ → AnyShape → ℕ → Bool
node_right_any f s n = record_right_any f s n && punts_right f (plain s) n (ock_at f (plain s) n)
