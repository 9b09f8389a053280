-- What is read of a list of zeros, at any offset: past the end, too, a byte reads as 0.
use Prim.Native.Nat.{ℕ, ◌+◌}
use mathlib.Core.Path.{◌≡◌}
use mathlib.Core.Logic.{⊎_elim}
use mathlib.Core.List.{List}
use lib.ListN.{get_or, replicate, length-replicate, get_or-replicate, get_or-eq_default}
use Rattle.word.specs.Integer.{u16_at, u32_at}
use Rattle.word.proofs.Overwrite.{lt_or_ge}

abbrev pub zeros : ℕ → List ℕ
zeros n = replicate n 0

module _ (n : ℕ) where
  pub zero_byte : (i : ℕ) → get_or (zeros n) i 0 ≡ 0
  zero_byte i =
      ⊎_elim (λ h. get_or-replicate n i 0 0 h) (λ h. get_or-eq_default (zeros n) 0 {n = i} (rw length-replicate h)) (lt_or_ge i n)

  pub zero_u16 : (at : ℕ) → u16_at (zeros n) at ≡ 0
  unfolding u16_at
  zero_u16 at = rw (zero_byte at, zero_byte (at + 1))

  pub zero_u32 : (at : ℕ) → u32_at (zeros n) at ≡ 0
  unfolding u32_at
  zero_u32 at = rw (zero_byte at, zero_byte (at + 1), zero_byte (at + 2), zero_byte (at + 3))
