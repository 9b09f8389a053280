-- Keys: runs of bytes of one width, compared as unsigned bytes from the first on. Document 02, C-11.
use Rattle.std.specs.Prelude.{ℕ, Bool, true, false, ◌&&◌, cond, List, [], ◌∷◌, eqb, ltb}

-- the same bytes
unfoldable pub same : List ℕ → List ℕ → Bool
same [] [] = true
same [] (y ∷ ys) = false
same (x ∷ xs) [] = false
same (x ∷ xs) (y ∷ ys) = eqb x y && same xs ys

-- the first byte that differs is the lower one
unfoldable pub below : List ℕ → List ℕ → Bool
below [] [] = false
below [] (y ∷ ys) = true
below (x ∷ xs) [] = false
below (x ∷ xs) (y ∷ ys) = cond (eqb x y) (below xs ys) (ltb x y)

-- each of the keys that follow k is above the one before it
unfoldable pub ascending_after : List ℕ → List (List ℕ) → Bool
ascending_after k [] = true
ascending_after k (x ∷ xs) = below k x && ascending_after x xs

-- keys ascend strictly
unfoldable pub ascending : List (List ℕ) → Bool
ascending [] = true
ascending (x ∷ xs) = ascending_after x xs
