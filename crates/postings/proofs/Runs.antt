-- Runs: the postings of a segment that stand in one block are eight bytes apart, and what is left of the segment begins at word 0 of the next.
use Prim.Native.Nat.{ℕ, zero, suc, ◌+◌, ◌*◌, ◌-◌, ◌/◌, ◌%◌, ◌≤◌, ◌<◌}
use native.Mathlib.Nat.{add-zero, zero-add, suc-add}
use native.Mathlib.Omega.{arith}
use mathlib.Core.Path.{◌≡◌, refl, sym, ap, ◌∙◌}
use mathlib.Core.Logic.{◌⊎◌, inl, inr, ⊎_elim}
use mathlib.Core.Bool.{Bool, true, false, ◌&&◌, and_assoc}
use mathlib.Core.List.{List, [], ◌∷◌, ◌++◌}
use lib.Dec.{leb}
use lib.ListN.{length}
use borrow.Author.Tests.{lt-leb, le-leb}
use Rattle.word.proofs.Overwrite.{lt_or_ge}
use Rattle.posting.specs.Posting.{posting_at}
use Rattle.postings.specs.Segment.{follow, stands_at, run, run_inside}
use Rattle.postings.specs.Rules.{above}
use Rattle.postings.specs.Cursor.{row, run_size}

-- ---- rows

module _ (f : List ℕ) where
  pub row_length : (n at : ℕ) → length (row f n at) ≡ n
  unfolding row
  row_length zero at = refl
  row_length (suc n) at = ap suc (row_length n (at + 8))

  -- one posting more at the end
  pub row_more : (n at : ℕ) → row f (n + 1) at ≡ row f n at ++ (posting_at f (at + 8 * n) ∷ [])
  unfolding row
  row_more zero at = rw (add-zero at)
  row_more (suc n) at =
      let e : at + 8 * suc n ≡ at + 8 + 8 * n = omega arith in
      let s : suc n + 1 ≡ suc (n + 1) = omega arith in
      rw (s, e, row_more n (at + 8))

  pub row_append : (n k at : ℕ) → row f (n + k) at ≡ row f n at ++ row f k (at + 8 * n)
  unfolding row
  row_append zero k at =
      let z : 0 + k ≡ k = omega arith in
      let a : at + 8 * 0 ≡ at = omega arith in
      rw (z, a)
  row_append (suc n) k at =
      let s : suc n + k ≡ suc (n + k) = omega arith in
      let a : at + 8 * suc n ≡ at + 8 + 8 * n = omega arith in
      rw (s, a) (ap (posting_at f at ∷◌) (row_append n k (at + 8)))

  -- the same numbers ascend after another beginning
  pub row_above : (n at k : ℕ) (floor : ℕ) (ps : List ℕ) → n ≡ suc k
      → above floor (row f n at ++ ps) ≡ (above floor (row f n at) && above (suc (posting_at f (at + 8 * k))) ps)
  unfolding row above
  row_above n at zero floor ps e = rw (e, add-zero at) (go (leb floor (posting_at f at)))
    where
      go : (b : Bool) → (b && above (suc (posting_at f at)) ps) ≡ ((b && true) && above (suc (posting_at f at)) ps)
      go true = refl
      go false = refl
  row_above n at (suc k) floor ps e =
      let s : at + 8 * suc k ≡ at + 8 + 8 * k = omega arith in
      let i : above (suc (posting_at f at)) (row f (suc k) (at + 8) ++ ps)
      ≡ (above (suc (posting_at f at)) (row f (suc k) (at + 8)) && above (suc (posting_at f (at + 8 + 8 * k))) ps) =
      row_above (suc k) (at + 8) k (suc (posting_at f at)) ps refl in
      rw (e, s) (go (leb floor (posting_at f at)) i)
    where
      go : (b : Bool) → above (suc (posting_at f at)) (row f (suc k) (at + 8) ++ ps)
          ≡ (above (suc (posting_at f at)) (row f (suc k) (at + 8)) && above (suc (posting_at f (at + 8 + 8 * k))) ps)
          → (b && above (suc (posting_at f at)) (row f (suc k) (at + 8) ++ ps))
          ≡ ((b && above (suc (posting_at f at)) (row f (suc k) (at + 8))) && above (suc (posting_at f (at + 8 + 8 * k))) ps)
      go true i = i
      go false i = refl

-- ---- runs

module _ (f : List ℕ) where
  run_split : (n k at : ℕ) → run f (n + k) at ≡ run f n at ++ run f k (stands_at at n)
  unfolding run stands_at
  run_split zero k at = rw (zero-add k)
  run_split (suc n) k at = rw (suc-add n k, run_split n k (follow at))

  -- where two more words are left in the block, the next posting is there
  follow_near : (at : ℕ) → at % 512 ≤ 496 → follow at ≡ at + 8
  follow_near at h = rw (le-leb _ _ h)

  run_row : (n at : ℕ) → at % 512 + 8 * n ≤ 512 → run f n at ≡ row f n at
  unfolding run row
  run_row zero at h = refl
  run_row (suc zero) at h = refl
  run_row (suc (suc n)) at h =
      let g : follow at ≡ at + 8 = follow_near at (omega arith) in
      let i : run f (suc n) (at + 8) ≡ row f (suc n) (at + 8) = run_row (suc n) (at + 8) (omega arith) in
      rw (g, i)

-- behind a block's last posting
stands_next : (n at : ℕ) → at % 512 + 8 * n ≤ 512 → 504 < at % 512 + 8 * n → 1 ≤ n → stands_at at n ≡ at / 512 * 512 + 516
unfolding stands_at
stands_next zero at h g o = absurd (omega arith)
stands_next (suc zero) at h g o = rw (lt-leb (at % 512) 496 (omega arith))
stands_next (suc (suc n)) at h g o =
    let e : follow at ≡ at + 8 = rw (le-leb (at % 512) 496 (omega arith)) in
    let d : (at + 8) / 512 ≡ at / 512 = omega arith in
    rw (e, stands_next (suc n) (at + 8) (omega arith) (omega arith) (omega arith), d)

module _ (len : ℕ) where
  inside_split : (n k at : ℕ) → run_inside len (n + k) at ≡ (run_inside len n at && run_inside len k (stands_at at n))
  unfolding run_inside stands_at
  inside_split zero k at = rw (zero-add k)
  inside_split (suc n) k at = rw (suc-add n k, inside_split n k (follow at)) (sym (and_assoc (leb (at + 8) len) (run_inside len n (follow at)) (run_inside len k (stands_at (follow at) n))))

  inside_row : (n k at : ℕ) → n ≡ suc k → at % 512 + 8 * n ≤ 512 → run_inside len n at ≡ leb (at + 8 * n) len
  unfolding run_inside
  inside_row n zero at e h = rw e (go (leb (at + 8) len))
    where
      go : (a : Bool) → (a && true) ≡ a
      go true = refl
      go false = refl
  inside_row n (suc k) at e h =
      let g : follow at ≡ at + 8 = rw (le-leb (at % 512) 496 (omega arith)) in
      let i : run_inside len (suc k) (at + 8) ≡ leb (at + 8 + 8 * suc k) len = inside_row (suc k) k (at + 8) refl (omega arith) in
      let s : at + 8 * suc (suc k) ≡ at + 8 + 8 * suc k = omega arith in
      rw (e, g, i, s) (⊎_elim (λ l. rw (lt-leb (at + 8 + 8 * suc k) len l) (go (leb (at + 8) len))) (λ l. rw (le-leb (at + 8 + 8 * suc k) len l, le-leb (at + 8) len (omega arith))) (lt_or_ge len (at + 8 + 8 * suc k)))
    where
      go : (a : Bool) → (a && false) ≡ false
      go true = refl
      go false = refl

-- the run of a cursor's place, of n postings, and what is left behind it
module _ (f : List ℕ) (at left n : ℕ) (stands : at % 512 ≤ 504) (some : 0 < left) (is : n ≡ run_size at left) where
  pub size_some : 1 ≤ n
  size_some = omega arith

  pub size_within : n ≤ left
  size_within = omega arith

  fits : at % 512 + 8 * n ≤ 512
  fits = omega arith

  none_or_full : (left ≡ n) ⊎ (504 < at % 512 + 8 * n)
  none_or_full = ⊎_elim (λ h. ⊎_elim (λ g. absurd (omega arith)) (λ g. inl (omega arith)) (lt_or_ge n left)) (λ h. inr (omega arith)) (lt_or_ge left ((512 - at % 512) / 8))

  pub run_taken : run f left at ≡ row f n at ++ run f (left - n) (at / 512 * 512 + 516)
  unfolding run
  run_taken =
      let s : left ≡ n + (left - n) = omega (arith, size_within) in
      ap (λ (k : ℕ). run f k at) s
      ∙ run_split f n (left - n) at
      ∙ ap (λ (xs : List ℕ). xs ++ run f (left - n) (stands_at at n)) (run_row f n at fits)
      ∙ ⊎_elim
      (λ e.
      let z : left - n ≡ 0 = omega arith in
      rw z)
      (λ e. rw (stands_next n at fits e size_some))
      none_or_full

  pub inside_taken : (len : ℕ) → run_inside len left at ≡ (leb (at + 8 * n) len && run_inside len (left - n) (at / 512 * 512 + 516))
  unfolding run_inside
  inside_taken len =
      let s : left ≡ n + (left - n) = omega (arith, size_within) in
      ap (λ (k : ℕ). run_inside len k at) s
      ∙ inside_split len n (left - n) at
      ∙ ap (λ (b : Bool). b && run_inside len (left - n) (stands_at at n)) (inside_row len n (n - 1) at (omega (arith, size_some)) fits)
      ∙ ⊎_elim
      (λ e.
      let z : left - n ≡ 0 = omega arith in
      rw z)
      (λ e. rw (stands_next n at fits e size_some))
      none_or_full
