-- The segments of a list, its postings in stored order, and the rules of answer 23, one definition each. Document 02, C-14.
-- A word outside the file reads as 0 here; a list with such a header is refused by `headers_inside`.
use Rattle.std.specs.Prelude.{ℕ, zero, suc, ◌+◌, ◌*◌, ◌-◌, ◌/◌, Bool, true, false, not, ◌&&◌, ◌||◌, cond, List, [], ◌∷◌, ◌++◌, leb, eqb, length}
use Rattle.postings.specs.declared.segment.Place.{Place}
use Rattle.postings.specs.Segment.{next_of, total_of, count_of, not_negative, is_end, header_inside, count_right, first_of, run, run_inside}

-- the file's number of words: no list has more segments, as Rings.antt proves
abbrev pub words_of : List ℕ → ℕ
words_of f = length f / 4

-- the segments from p on, up to the next place 0/0, but k at most
unfoldable pub segments_from : List ℕ → ℕ → Place → List Place
segments_from f zero p = []
segments_from f (suc k) p = p ∷ cond (is_end (next_of f p)) [] (segments_from f k (next_of f p))

-- the list from p on ends within k segments
unfoldable pub ends_within : List ℕ → ℕ → Place → Bool
ends_within f zero p = false
ends_within f (suc k) p = cond (is_end (next_of f p)) true (ends_within f k (next_of f p))

-- the postings of segments in stored order
unfoldable pub postings_of : List ℕ → List Place → List ℕ
postings_of f [] = []
postings_of f (p ∷ ps) = run f (count_of f p) (first_of p) ++ postings_of f ps

-- headers are inside the file
unfoldable pub headers_inside : List ℕ → List Place → Bool
headers_inside f [] = true
headers_inside f (p ∷ ps) = header_inside (length f) p && headers_inside f ps

-- counts are 0 or more and at most the capacity
unfoldable pub counts_right : List ℕ → List Place → Bool
counts_right f [] = true
counts_right f (p ∷ ps) = count_right f p && counts_right f ps

-- postings are inside the file
unfoldable pub postings_inside : List ℕ → List Place → Bool
postings_inside f [] = true
postings_inside f (p ∷ ps) = run_inside (length f) (count_of f p) (first_of p) && postings_inside f ps

-- numbers ascend strictly, from a floor on
unfoldable pub above : ℕ → List ℕ → Bool
above floor [] = true
above floor (x ∷ xs) = leb floor x && above (suc x) xs

-- postings ascend strictly over the whole list
abbrev pub ascends : List ℕ → Bool
ascends xs = above 0 xs

-- the first segment's total is the segments' sum
unfoldable pub total_right : List ℕ → Place → List ℕ → Bool
total_right f p xs = not_negative (total_of f p) && eqb (total_of f p) (length xs)

-- the segments of a list that begins at p
abbrev pub segments_of : List ℕ → Place → List Place
segments_of f p = segments_from f (words_of f) p

-- the postings of a list that begins at p
abbrev pub list_of : List ℕ → Place → List ℕ
list_of f p = postings_of f (segments_of f p)

-- no rule of 23 is broken; that the list ends is that no segment is in it twice
unfoldable pub list_right : List ℕ → Place → Bool
list_right f p =
    ends_within f (words_of f) p
    && headers_inside f (segments_of f p)
    && counts_right f (segments_of f p)
    && postings_inside f (segments_of f p)
    && ascends (list_of f p)
    && total_right f p (list_of f p)

-- ---- what the theorem on segments that come twice speaks of

-- the number of a place's word in the file, at 128 words a block
abbrev pub word_number : Place → ℕ
word_number p = (p.block - 1) * 128 + p.word

-- a segment at a word of this number is among segments
unfoldable pub among_segments : ℕ → List Place → Bool
among_segments n [] = false
among_segments n (p ∷ ps) = eqb n (word_number p) || among_segments n ps

-- no segment is twice among segments
unfoldable pub each_once : List Place → Bool
each_once [] = true
each_once (p ∷ ps) = not (among_segments (word_number p) ps) && each_once ps

-- no rule of 23 is broken, in the paper's words: `list_right` with "no segment twice" for "the list ends". Theorems.antt has that they are
-- the same. The first header has a line of its own for the file that has not one word, in which nothing is among the segments
unfoldable pub paper_right : List ℕ → Place → Bool
paper_right f p =
    header_inside (length f) p
    && each_once (segments_of f p)
    && headers_inside f (segments_of f p)
    && counts_right f (segments_of f p)
    && postings_inside f (segments_of f p)
    && ascends (list_of f p)
    && total_right f p (list_of f p)
