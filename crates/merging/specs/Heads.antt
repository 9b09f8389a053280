-- Inner: what a head of a list stands for, an MFN and the postings behind it, and what a turn of the merge gives and writes.
use Rattle.std.specs.Prelude.{ℕ, suc, ◌+◌, ◌-◌, ◌/◌, ◌%◌, min, max, ◌≤◌, ◌<◌, ◌≡◌, Bool, true, not, ◌&&◌, cond, List, [], ◌∷◌, ◌++◌, ltb, eqb, length}
use Rattle.posting.specs.Posting.{posting_at, mfn_of}
use Rattle.postings.specs.Rules.{above}
use Rattle.postings.specs.Cursor.{InBlock, rest_of, stands_right, row}
use Rattle.merging.specs.Merge.{mfns_after}
use Rattle.postings.specs.declared.cursor.Cursor.{Cursor}
use Rattle.merging.specs.declared.merge.Head.{Head}

-- the postings behind a cursor can be read, and ascend
pub record Reads (f : List ℕ) (c : Cursor) : Type 0 where
  pub in_block : InBlock f c
  pub stands : stands_right f c ≡ true
  pub ascends : above 0 (rest_of f c) ≡ true

-- the postings from an offset up to another, eight bytes apart
abbrev pub row_to : List ℕ → ℕ → ℕ → List ℕ
row_to f at end = row f ((end - at) / 8) at

-- the postings behind a head's own
abbrev pub rest_head : List ℕ → Head → List ℕ
rest_head f h = row_to f h.at h.end ++ rest_of f h.cursor

-- the MFNs of a posting of MFN a and of those behind it, after postings of MFN l
abbrev pub front : ℕ → ℕ → List ℕ → List ℕ
front l a ps = cond (eqb a l) (mfns_after l ps) (a ∷ mfns_after a ps)

-- the MFNs that a head stands for, after postings of MFN l; its own is none where that is 2^24
unfoldable pub head_after : List ℕ → ℕ → Head → List ℕ
head_after f l h = cond (ltb h.mfn 16777216) (front l h.mfn (rest_head f h)) (mfns_after l (rest_head f h))

-- how many postings it stands for
unfoldable pub head_size : List ℕ → Head → ℕ
head_size f h = cond (ltb h.mfn 16777216) (suc (length (rest_head f h))) (length (rest_head f h))

-- a head of which nothing is read
abbrev pub unread_of : Cursor → Head
unread_of c = record { mfn = 16777216; at = 8; end = 0; cursor = c }

-- what a head names can be read; without an MFN its run is over, and where that is not to be read the list is
pub record HeadRight (f : List ℕ) (h : Head) : Type 0 where
  pub low : h.mfn < 16777216 → h.at ≤ h.end
  pub none : 16777216 ≤ h.mfn → h.end ≤ h.at
  pub over : 16777216 ≤ h.mfn → h.at ≤ h.end → rest_head f h ≡ []
  pub whole : (h.end - h.at) % 8 ≡ 0
  pub inside : h.end ≤ length f
  pub in_block : InBlock f h.cursor
  pub stands : stands_right f h.cursor ≡ true

-- the MFNs of postings do not descend, from m on
unfoldable pub Rising : ℕ → List ℕ → Type 0
Rising m [] = Unit {0}
Rising m (p ∷ ps) = (m ≤ mfn_of p) × Rising (mfn_of p) ps

-- the least MFN that may come after postings of MFN l; 2^24 stands for none
abbrev pub lowest : ℕ → ℕ
lowest l = cond (ltb l 16777216) l 0

-- the MFNs of a head do not descend, after postings of MFN l
pub record Rises (f : List ℕ) (l : ℕ) (h : Head) : Type 0 where
  pub floor : h.mfn < 16777216 → lowest l ≤ h.mfn
  pub rest : h.mfn < 16777216 → Rising h.mfn (rest_head f h)
  pub later : 16777216 ≤ h.mfn → Rising (lowest l) (rest_head f h)

-- r is the head of postings
pub record Headed (f : List ℕ) (ps : List ℕ) (r : Head) : Type 0 where
  pub after : (l : ℕ) → head_after f l r ≡ mfns_after l ps
  pub size : head_size f r ≡ length ps
  pub within : r.at ≤ r.end
  pub right : HeadRight f r
  pub rises : (l : ℕ) → Rising (lowest l) ps → Rises f l r

-- the MFN of the posting at an offset, none where the run is over there
abbrev pub behind_of : List ℕ → ℕ → ℕ → ℕ
behind_of f at end = cond (ltb at end) (mfn_of (posting_at f at)) 16777216

-- ---- a turn

abbrev pub bit : Bool → ℕ
bit b = cond b 1 0

-- an MFN of two that is 2^24 where nothing is left to give
unfoldable pub leading_of : Bool → ℕ → ℕ → ℕ
leading_of both a b = cond both (max a b) (min a b)

-- whether the lower of two MFNs, m, is given after l
unfoldable pub gives_of : Bool → ℕ → ℕ → ℕ → ℕ → Bool
gives_of both a b l m = not (eqb m l) && cond both (eqb a b) true

-- whether a turn writes its MFN, where it gives that or not: of either list it does also where it gives none
unfoldable pub writes_of : Bool → Bool → Bool → Bool
writes_of put both gives = cond both (put && gives) put

-- the most MFNs of two lists of so many postings
unfoldable pub most_of : Bool → ℕ → ℕ → ℕ
most_of both a b = cond both (min a b) (a + b)
