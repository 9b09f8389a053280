-- The MFNs of a list of postings, and the common and the joined MFNs of two. Document 02, C-14.
use Rattle.std.specs.Prelude.{ℕ, Bool, false, ◌||◌, cond, List, [], ◌∷◌, ltb, eqb}
use Rattle.posting.specs.Posting.{mfn_of}

-- the MFNs of postings, each once, after postings of MFN m
unfoldable pub mfns_after : ℕ → List ℕ → List ℕ
mfns_after m [] = []
mfns_after m (p ∷ ps) = cond (eqb (mfn_of p) m) (mfns_after m ps) (mfn_of p ∷ mfns_after (mfn_of p) ps)

-- the MFNs of postings, each once: no posting has an MFN of 2^24
abbrev pub mfns_of : List ℕ → List ℕ
mfns_of ps = mfns_after 16777216 ps

-- x before a list that is merged by f: the ys below x are passed over, x is kept where it is among them
unfoldable pub meets : ℕ → (List ℕ → List ℕ) → List ℕ → List ℕ
meets x f [] = []
meets x f (y ∷ ys) = cond (ltb y x) (meets x f ys) (cond (eqb x y) (x ∷ f ys) (f (y ∷ ys)))

-- the numbers of both of two ascending lists
unfoldable pub common : List ℕ → List ℕ → List ℕ
common [] ys = []
common (x ∷ xs) ys = meets x (common xs) ys

-- x before a list that is merged by f: the ys below x come first, then x, once
unfoldable pub joins : ℕ → (List ℕ → List ℕ) → List ℕ → List ℕ
joins x f [] = x ∷ f []
joins x f (y ∷ ys) = cond (ltb y x) (y ∷ joins x f ys) (cond (eqb x y) (x ∷ f ys) (x ∷ f (y ∷ ys)))

-- the numbers of either of two ascending lists
unfoldable pub joined : List ℕ → List ℕ → List ℕ
joined [] ys = ys
joined (x ∷ xs) ys = joins x (joined xs) ys

-- common where both are asked for, else joined
abbrev pub merged : Bool → List ℕ → List ℕ → List ℕ
merged both xs ys = cond both (common xs ys) (joined xs ys)

-- ---- what the theorems on merges speak of

-- a number is among those of a list
unfoldable pub among : ℕ → List ℕ → Bool
among m [] = false
among m (x ∷ xs) = eqb m x || among m xs

-- a posting of MFN m is among postings
unfoldable pub has_mfn : ℕ → List ℕ → Bool
has_mfn m [] = false
has_mfn m (p ∷ ps) = eqb m (mfn_of p) || has_mfn m ps
