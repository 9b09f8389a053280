-- The term that is looked up, and the type of its tree. Document 02, C-11.
use Rattle.std.specs.Prelude.{ℕ, ◌-◌, Bool, not, ◌&&◌, cond, List, ◌++◌, eqb, leb, length, get_or, replicate}
use Rattle.terms.specs.declared.term.Kind.{Kind}
use Rattle.terms.specs.declared.term.Kind.TheVariants.{Short, Long}

-- ---- limits

-- the longest term, and the longest of the first tree
abbrev pub term_most : ℕ
term_most = 30

abbrev pub short_most : ℕ
short_most = 10

-- the byte that terms are padded with
abbrev pub space : ℕ
space = 32

-- ---- a term

-- a term has 1 to 30 bytes and no trailing space; any other is answer 20
unfoldable pub term_right : List ℕ → Bool
term_right term = leb 1 (length term) && leb (length term) term_most && not (eqb (get_or term (length term - 1) 0) space)

-- the type of the tree that a term is looked up in: up to 10 bytes use the first, longer ones the second
unfoldable pub kind_for : List ℕ → Kind
kind_for term = cond (leb (length term) short_most) Short Long

-- the number of a type in the files
abbrev pub number_of : Kind → ℕ
number_of Short = 1
number_of Long = 2

-- the width of the keys of a tree of type 1, and of type 2
abbrev pub width_of : Kind → ℕ
width_of Short = short_most
width_of Long = term_most

-- a term padded with spaces to a width
unfoldable pub padded : ℕ → List ℕ → List ℕ
padded width term = term ++ replicate (width - length term) space
