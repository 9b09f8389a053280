-- Inner: a number from its bytes, the highest first.
use Rattle.std.specs.Prelude.{ℕ, ◌+◌, ◌*◌, List, [], ◌∷◌}

-- the number of bytes, the highest first, behind a number
abbrev pub high_first : ℕ → List ℕ → ℕ
high_first a [] = a
high_first a (x ∷ xs) = high_first (a * 256 + x) xs
