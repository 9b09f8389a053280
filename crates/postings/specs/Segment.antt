-- A segment of a posting list: a header of five words and the postings behind it. Source document 004, "Format of IFP file".
use Rattle.std.specs.Prelude.{ℕ, zero, suc, ◌+◌, ◌*◌, ◌-◌, ◌/◌, ◌%◌, Bool, true, ◌&&◌, cond, List, [], ◌∷◌, ltb, leb, eqb, length, Option, Some, None}
use Rattle.word.specs.Integer.{u32_at}
use Rattle.posting.specs.Posting.{posting_at}
use Rattle.postings.specs.declared.segment.Place.{Place}
use Rattle.postings.specs.declared.segment.Segment.{Segment}

-- a place in the file: a block, counted from 1, and a word in it, as their 32 bits stand
abbrev pub spot : ℕ → ℕ → Place
spot b w = record { block = b; word = w }

-- word w of block b is the four bytes from this offset on
abbrev pub word_offset : ℕ → ℕ → ℕ
word_offset b w = (b - 1) * 512 + 4 + 4 * w

abbrev pub offset_of : Place → ℕ
offset_of p = word_offset p.block p.word

-- the header's five numbers
abbrev pub next_of : List ℕ → Place → Place
next_of f p = spot (u32_at f (offset_of p)) (u32_at f (offset_of p + 4))

abbrev pub total_of : List ℕ → Place → ℕ
total_of f p = u32_at f (offset_of p + 8)

abbrev pub count_of : List ℕ → Place → ℕ
count_of f p = u32_at f (offset_of p + 12)

abbrev pub capacity_of : List ℕ → Place → ℕ
capacity_of f p = u32_at f (offset_of p + 16)

-- as a signed number 0 or more
abbrev pub not_negative : ℕ → Bool
not_negative n = ltb n 2147483648

-- only the next place 0/0 ends a list
abbrev pub is_end : Place → Bool
is_end p = eqb p.block 0 && eqb p.word 0

-- a header stands whole in one block of the file, with room for a first posting behind it
unfoldable pub header_inside : ℕ → Place → Bool
header_inside len p = leb 1 p.block && not_negative p.block && leb p.word 120 && leb (offset_of p + 20) len

-- count and capacity are 0 or more, and the count is at most the capacity
unfoldable pub count_right : List ℕ → Place → Bool
count_right f p = not_negative (count_of f p) && not_negative (capacity_of f p) && leb (count_of f p) (capacity_of f p)

-- where a segment's first posting stands
abbrev pub first_of : Place → ℕ
first_of p = offset_of p + 20

-- where the posting after one at an offset stands: two words on, or at word 0 of the next block where less than two words are left
abbrev pub follow : ℕ → ℕ
follow at = cond (leb (at % 512) 496) (at + 8) (at / 512 * 512 + 516)

-- where posting i, counted from 0, behind a first one stands
unfoldable pub stands_at : ℕ → ℕ → ℕ
stands_at at zero = at
stands_at at (suc i) = stands_at (follow at) i

-- k postings from an offset on, in stored order
unfoldable pub run : List ℕ → ℕ → ℕ → List ℕ
run f zero at = []
run f (suc k) at = posting_at f at ∷ run f k (follow at)

-- they are all inside the file
unfoldable pub run_inside : ℕ → ℕ → ℕ → Bool
run_inside len zero at = true
run_inside len (suc k) at = leb (at + 8) len && run_inside len k (follow at)

-- what reading a header gives
unfoldable pub header_of : List ℕ → Place → Option Segment
header_of f p =
    cond (header_inside (length f) p && count_right f p)
    (Some (record { count = count_of f p; total = total_of f p; next = next_of f p; first = first_of p }))
    None
