-- Inner: serves functions of this crate, no part of what is promised.
use Rattle.std.specs.Prelude.{ℕ, zero, suc, ◌+◌, ◌*◌, ◌^◌, List, [], ◌∷◌, length}
use Rattle.word.specs.Overwrite.{part}

-- the number that bytes are the digits of, the first the highest
unfoldable pub big : List ℕ → ℕ
big [] = 0
big (x ∷ xs) = x * 256 ^ length xs + big xs

-- k keys of a width, each a step behind the one before
unfoldable pub keys_run : List ℕ → ℕ → ℕ → ℕ → ℕ → List (List ℕ)
keys_run f at step width zero = []
keys_run f at step width (suc k) = part f at width ∷ keys_run f (at + step) step width k
