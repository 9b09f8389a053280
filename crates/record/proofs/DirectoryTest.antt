-- The walk over the directory, in runs of entries. Behind a run that is right the rest is asked, after the lengths of the run (`past_on`); at one that
-- is not its number is told (`past_met`); and what the whole walk comes to is what `first_broken` tells (`past_told`).
use Prim.Native.Nat.{ℕ, zero, suc, ◌+◌, ◌-◌, ◌<◌, ◌≤◌}
use native.Mathlib.Omega.{arith}
use mathlib.Core.Path.{◌≡◌, refl, sym}
use mathlib.Core.Bool.{Bool, true, false, ◌&&◌, cond}
use mathlib.Core.List.{List}
use lib.Dec.{eqb}
use borrow.Author.Tests.{ne_eqb}
use Rattle.std.proofs.Common.{Result, Ok, Err}
use Rattle.word.proofs.Tests.{tests}
use Rattle.record.specs.Directory.{Widths, len_in, entry_right, entries_right, first_broken}
use Rattle.record.specs.Inner.{past, told}

-- entries are right exactly if none of them is the first that is not
pub right_none : (w : Widths) (rec : List ℕ) (room k i pos : ℕ) → entries_right w rec room k i pos ≡ eqb (first_broken w rec room k i pos) 0
unfolding entries_right first_broken
right_none w rec room zero i pos = refl
right_none w rec room (suc k) i pos =
    by (entry_right w rec room i pos) _ (first_broken w rec room k (i + 1) (pos + len_in w rec i)) (right_none w rec room k (i + 1) (pos + len_in w rec i))
  where
    by : (b r : Bool) (n : ℕ) → r ≡ eqb n 0 → (b && r) ≡ eqb (cond b n (i + 1)) 0
    by true r n e = e
    by false r n e = sym (ne_eqb (i + 1) 0 (λ z. omega arith))

-- of n entries, those from i on
pub rest_step : (n i : ℕ) → i < n → n - i ≡ suc (n - (i + 1))
rest_step n i h = omega arith

-- one step of each induction below, by whether the entry is right
module _ (m : ℕ) where
  on_case : (b : Bool) {x y z : Result ℕ ℕ} {p : ℕ} → (Ok p ≡ x → y ≡ z) → Ok p ≡ cond b x (Err m) → cond b y (Err m) ≡ z
  on_case true f e = f e
  on_case false f e = absurd (cc)

  met_case : (b : Bool) {x y : Result ℕ ℕ} {n : ℕ} → (Err n ≡ x → Err n ≡ y) → Err n ≡ cond b x (Err m) → Err n ≡ cond b y (Err m)
  met_case true f e = f e
  met_case false f e = e

  fits_case : (b : Bool) {x : Result ℕ ℕ} {p room : ℕ} → (b ≡ true → Ok p ≡ x → p ≤ room) → Ok p ≡ cond b x (Err m) → p ≤ room
  fits_case true f e = f refl e
  fits_case false f e = absurd (cc)

none_case : (i n : ℕ) (b : Bool) {x : Result ℕ ℕ} {p : ℕ} → (Ok p ≡ x → Ok tt ≡ told n) → Ok p ≡ cond b x (Err i) → Ok tt ≡ told (cond b n i)
none_case i n true f e = f e
none_case i n false f e = absurd (cc)

first_case : (i n : ℕ) (b : Bool) {x : Result ℕ ℕ} {m : ℕ} → (Err m ≡ x → Err m ≡ told n) → Err m ≡ cond b x (Err (i + 1)) → Err m ≡ told (cond b n (i + 1))
first_case i n true f e = f e
first_case i n false {m = m} f e =
    let z : i + 1 ≡ suc i = omega arith in
    let q : m ≡ i + 1 = cc in
    rw (q, z)

module _ (w : Widths) (rec : List ℕ) (room : ℕ) where
  pub right_fits : (i pos : ℕ) → entry_right w rec room i pos ≡ true → pos + len_in w rec i ≤ room
  unfolding entry_right
  right_fits i pos e = let q = simp tests at e in q.1

  pub past_end : (i pos : ℕ) → Ok pos ≡ past w rec room 0 i pos
  unfolding past
  past_end i pos = refl

  -- behind a run of j entries the k others are asked
  pub past_on : (j k n i i' pos p : ℕ) → n ≡ j + k → i' ≡ i + j → Ok p ≡ past w rec room j i pos → past w rec room n i pos ≡ past w rec room k i' p
  unfolding past
  past_on zero k n i i' pos p h g e =
      let q : p ≡ pos = cc in
      let a : n ≡ k = omega arith in
      let b : i' ≡ i = omega arith in
      rw (a, b, q)
  past_on (suc j) k n i i' pos p h g e =
      let a : n ≡ suc (j + k) = omega arith in
      rw a (on_case _ (entry_right w rec room i pos) (past_on j k (j + k) (i + 1) i' (pos + len_in w rec i) p refl (omega arith)) e)

  -- at a run that is not right the number of its first wrong entry is told
  pub past_met : (j k n i pos m : ℕ) → n ≡ j + k → Err m ≡ past w rec room j i pos → Err m ≡ past w rec room n i pos
  unfolding past
  past_met zero k n i pos m h e = absurd (cc)
  past_met (suc j) k n i pos m h e =
      let a : n ≡ suc (j + k) = omega arith in
      rw a (met_case _ (entry_right w rec room i pos) (past_met j k (j + k) (i + 1) (pos + len_in w rec i) m refl) e)

  -- the sum fits
  pub past_fits : (k i pos p : ℕ) → pos ≤ room → Ok p ≡ past w rec room k i pos → p ≤ room
  unfolding past
  past_fits zero i pos p h e = let q : p ≡ pos = cc in rw q h
  past_fits (suc k) i pos p h e =
      fits_case _ (entry_right w rec room i pos) (λ t. past_fits k (i + 1) (pos + len_in w rec i) p (right_fits i pos t)) e

  -- the whole walk: no entry is wrong, or the first that is is told
  pub past_none : (k i pos p : ℕ) → Ok p ≡ past w rec room k i pos → Ok tt ≡ told (first_broken w rec room k i pos)
  unfolding past first_broken
  past_none zero i pos p e = refl
  past_none (suc k) i pos p e =
      none_case _ _ (entry_right w rec room i pos) (past_none k (i + 1) (pos + len_in w rec i) p) e

  pub past_first : (k i pos n : ℕ) → Err n ≡ past w rec room k i pos → Err n ≡ told (first_broken w rec room k i pos)
  unfolding past first_broken
  past_first zero i pos n e = absurd (cc)
  past_first (suc k) i pos n e =
      first_case _ _ (entry_right w rec room i pos) (past_first k (i + 1) (pos + len_in w rec i) n) e
