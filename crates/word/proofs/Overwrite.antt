-- Laws of `overwrite` and `part`. Where the offset is within the list, overwrite d at xs is three runs, take at d, xs and drop (at + length xs) d,
-- and the first is `at` long. So each law cuts a list at the two seams, and what follows from a cut is stated for a byte (get_or), a front
-- (take), a rest (drop) and a part. The laws of two overwrites say how they join, and those at the end what the borrow checker hands back of a
-- lent tail of a slice.
use mathlib.Core.Path.{◌≡◌, refl, sym, ap, ◌∙◌}
use mathlib.Core.Logic.{◌⊎◌, inl, inr, ⊎_elim}
use mathlib.Core.Bool.{Bool, true, false}
use mathlib.Core.List.{List, [], ◌∷◌, ◌++◌, append_assoc, append-nil}
use Prim.Native.Nat.{ℕ, zero, suc, ◌+◌, ◌-◌, ◌<◌, ◌≤◌}
use native.Mathlib.Nat.{add-zero, zero-add, add_assoc, suc-add, le_refl}
use native.Mathlib.Numerals.{add-one}
use native.Mathlib.Omega.{arith}
use lib.Dec.{ltb}
use lib.ListN.{length, get_or, take, drop, set, length-append, length-take, length-drop, take-append-drop, drop_of_length-le, get_or-append}
use lib.Seq.{length-take-le, take-suc, take_all, take-nil, take_at, drop_at, take-take, take-add, drop-drop, take-append-le, take-append-add, get_or-take, get_or-drop, set_split, sets, sets-eq}
use borrow.Author.Tests.{ltb-true, ltb-false}
use borrow.Rule.Slice.PartMut.{mid_of, put_mid}
use Rattle.word.specs.Overwrite.{overwrite, part}

-- one or the other, by the test
pub lt_or_ge : (m n : ℕ) → (m < n) ⊎ (n ≤ m)
lt_or_ge m n = pick (ltb m n) refl
  where
    pick : (b : Bool) → ltb m n ≡ b → (m < n) ⊎ (n ≤ m)
    pick true e = inl (ltb-true m n e)
    pick false e = inr (ltb-false m n e)

-- ---- parts

pub part_length : (d : List ℕ) (a n : ℕ) → a + n ≤ length d → length (part d a n) ≡ n
part_length d a n h = length-take-le n (drop a d) (simp length-drop (omega arith))

pub part_short : (d : List ℕ) (a n : ℕ) → length (part d a n) ≤ n
part_short d a n = simp length-take (omega arith)

pub part_byte : (d : List ℕ) (a n i : ℕ) → i < n → get_or (part d a n) i 0 ≡ get_or d (a + i) 0
part_byte d a n i h = get_or-take n (drop a d) i 0 h ∙ get_or-drop a d i 0

pub part_drop : (d : List ℕ) (a i n : ℕ) → part (drop a d) i n ≡ part d (a + i) n
part_drop d a i n = ap (take n) (drop-drop i a d)

-- a part is what is left of a front
pub drop_take : (a n : ℕ) (d : List ℕ) → drop a (take (a + n) d) ≡ part d a n
drop_take zero n d = ap (λ (k : ℕ). take k d) (zero-add n)
drop_take (suc a) n [] = ap (drop (suc a)) (take-nil (suc a + n)) ∙ sym (take-nil n)
drop_take (suc a) n (x ∷ d) = ap (λ (k : ℕ). drop (suc a) (take k (x ∷ d))) (suc-add a n) ∙ drop_take a n d

pub part_part : (d : List ℕ) (a n i m : ℕ) → i + m ≤ n → part (part d a n) i m ≡ part d (a + i) m
part_part d a n i m h =
    let s : n ≡ i + (n - i) = omega arith in
    ap (λ (k : ℕ). part (take k (drop a d)) i m) s
    ∙ ap (take m) (drop_take i (n - i) (drop a d))
    ∙ take-take m (n - i) (drop i (drop a d)) (omega arith)
    ∙ part_drop d a i m

pub part_take : (d : List ℕ) (n a m : ℕ) → a + m ≤ n → part (take n d) a m ≡ part d a m
part_take d n a m h = part_part d 0 n a m h ∙ ap (λ (k : ℕ). part d k m) (zero-add a)

-- two parts, one after the other
pub part_add : (d : List ℕ) (a n m : ℕ) → part d a (n + m) ≡ part d a n ++ part d (a + n) m
part_add d a n m = take-add n m (drop a d) ∙ ap (λ (r : List ℕ). part d a n ++ take m r) (drop-drop n a d)

-- ---- one overwrite

module _ (d : List ℕ) (at : ℕ) (xs : List ℕ) where
  -- the definition, as an equation
  pub overwrite_is : overwrite d at xs ≡ take at d ++ xs ++ drop (at + length xs) d
  unfolding overwrite
  overwrite_is = refl

  pub overwrite_runs : overwrite d at xs ≡ take at d ++ (xs ++ drop (at + length xs) d)
  overwrite_runs = overwrite_is ∙ append_assoc (take at d) xs (drop (at + length xs) d)

  pub overwrite_length : at + length xs ≤ length d → length (overwrite d at xs) ≡ length d
  overwrite_length h = rw overwrite_is (simp (length-append, length-take, length-drop) (omega arith))

  -- up to the end of what is written
  pub overwrite_front : at ≤ length d → take (at + length xs) (overwrite d at xs) ≡ take at d ++ xs
  overwrite_front h =
      let t : length (take at d) ≡ at = length-take-le at d h in
      rw overwrite_is (take_at (take at d ++ xs) (drop (at + length xs) d) (at + length xs) (rw (length-append, t) refl))

  pub overwrite_take : (n : ℕ) → at ≤ length d → n ≤ at → take n (overwrite d at xs) ≡ take n d
  overwrite_take n h k =
      let t : length (take at d) ≡ at = length-take-le at d h in
      rw overwrite_runs (take-append-le n (take at d) (xs ++ drop (at + length xs) d) (omega arith) ∙ take-take n at d k)

  pub overwrite_drop_at : at ≤ length d → drop at (overwrite d at xs) ≡ xs ++ drop (at + length xs) d
  overwrite_drop_at h = rw overwrite_runs (drop_at (take at d) (xs ++ drop (at + length xs) d) at (length-take-le at d h))

  -- past what is written, also where the offset is past the end
  pub overwrite_drop_after : (a : ℕ) → at + length xs ≤ a → drop a (overwrite d at xs) ≡ drop a d
  overwrite_drop_after a h = ⊎_elim out within (lt_or_ge (length d) at)
    where
      out : length d < at → drop a (overwrite d at xs) ≡ drop a d
      out k =
          let s : length (overwrite d at xs) ≤ a = rw overwrite_is (simp (length-append, length-take, length-drop) (omega arith)) in
          drop_of_length-le (overwrite d at xs) {i = a} s ∙ sym (drop_of_length-le d {i = a} (omega arith))

      within : at ≤ length d → drop a (overwrite d at xs) ≡ drop a d
      within k =
          let t : length (take at d) ≡ at = length-take-le at d k in
          let n : ℕ = a - (at + length xs) in
          let s : a ≡ at + length xs + n = omega arith in
          let e : drop (at + length xs) (overwrite d at xs) ≡ drop (at + length xs) d =
          rw overwrite_is (drop_at (take at d ++ xs) (drop (at + length xs) d) (at + length xs) (rw (length-append, t) refl)) in
          ap (λ (i : ℕ). drop i (overwrite d at xs)) s
          ∙ sym (drop-drop n (at + length xs) (overwrite d at xs))
          ∙ ap (drop n) e
          ∙ drop-drop n (at + length xs) d
          ∙ ap (λ (i : ℕ). drop i d) (sym s)

  -- ---- a byte

  pub overwrite_inside : (k : ℕ) → at ≤ length d → k < length xs → get_or (overwrite d at xs) (at + k) 0 ≡ get_or xs k 0
  overwrite_inside k h l =
      sym (get_or-drop at (overwrite d at xs) k 0)
      ∙ ap (λ (r : List ℕ). get_or r k 0) (overwrite_drop_at h)
      ∙ get_or-append xs (drop (at + length xs) d) 0 k l

  pub overwrite_before : (j : ℕ) → at ≤ length d → j < at → get_or (overwrite d at xs) j 0 ≡ get_or d j 0
  overwrite_before j h l =
      sym (get_or-take at (overwrite d at xs) j 0 l)
      ∙ ap (λ (r : List ℕ). get_or r j 0) (overwrite_take at h (le_refl at))
      ∙ get_or-take at d j 0 l

  pub overwrite_after : (j : ℕ) → at + length xs ≤ j → get_or (overwrite d at xs) j 0 ≡ get_or d j 0
  overwrite_after j h =
      let e : get_or (drop j (overwrite d at xs)) 0 0 ≡ get_or (drop j d) 0 0 = ap (λ (r : List ℕ). get_or r 0 0) (overwrite_drop_after j h) in
      simp (get_or-drop, add-zero) at e

  pub overwrite_other : (j : ℕ) → at ≤ length d → (j < at) ⊎ (at + length xs ≤ j) → get_or (overwrite d at xs) j 0 ≡ get_or d j 0
  overwrite_other j h side = ⊎_elim (overwrite_before j h) (overwrite_after j) side

  -- ---- a part

  pub overwrite_part_after : (a n : ℕ) → at + length xs ≤ a → part (overwrite d at xs) a n ≡ part d a n
  overwrite_part_after a n h = ap (take n) (overwrite_drop_after a h)

  -- what was written is found there
  pub overwrite_back : at ≤ length d → part (overwrite d at xs) at (length xs) ≡ xs
  overwrite_back h = ap (take (length xs)) (overwrite_drop_at h) ∙ take_at xs (drop (at + length xs) d) (length xs) refl

  -- where it was written: that, then what stood behind it
  pub part_overwritten : (n : ℕ) → at ≤ length d → length xs ≤ n → part (overwrite d at xs) at n ≡ xs ++ part d (at + length xs) (n - length xs)
  part_overwritten n h k =
      let s : length xs + (n - length xs) ≡ n = omega arith in
      ap (take n) (overwrite_drop_at h) ∙ rw s at (take-append-add xs (drop (at + length xs) d) (n - length xs))

-- ---- what changes nothing, and what changes all

pub overwrite_none : (d : List ℕ) (at : ℕ) → overwrite d at [] ≡ d
overwrite_none d at = overwrite_is d at [] ∙ rw (add-zero, append-nil, take-append-drop)

pub overwrite_same : (d : List ℕ) (at n : ℕ) → at + n ≤ length d → overwrite d at (part d at n) ≡ d
overwrite_same d at n h =
    overwrite_is d at (part d at n)
    ∙ rw (part_length d at n h, ← drop-drop n at d, append_assoc, take-append-drop, take-append-drop)

pub overwrite_whole : (d xs : List ℕ) → length xs ≡ length d → overwrite d 0 xs ≡ xs
overwrite_whole d xs e = overwrite_is d 0 xs ∙ rw (drop_of_length-le d {i = 0 + length xs} (omega arith), append-nil xs)

-- ---- an overwrite in what follows the first bytes

-- is an overwrite in the whole
pub overwrite_in_part : (d : List ℕ) (a i : ℕ) (xs : List ℕ) → take a d ++ overwrite (drop a d) i xs ≡ overwrite d (a + i) xs
overwrite_in_part d a i xs =
    rw (overwrite_is (drop a d) i xs, overwrite_is d (a + i) xs, take-add a i d, drop-drop (i + length xs) a d, ← add_assoc a i (length xs)) (simp append_assoc)

-- and is found there
pub drop_overwritten : (d : List ℕ) (at i : ℕ) (xs : List ℕ) → at ≤ length d → drop at (overwrite d (at + i) xs) ≡ overwrite (drop at d) i xs
drop_overwritten d at i xs h =
    ap (drop at) (sym (overwrite_in_part d at i xs)) ∙ drop_at (take at d) (overwrite (drop at d) i xs) at (length-take-le at d h)

-- ---- two overwrites

-- one right behind the other
pub overwrite_next : (d : List ℕ) (at : ℕ) (xs ys : List ℕ) → at ≤ length d → overwrite (overwrite d at xs) (at + length xs) ys ≡ overwrite d at (xs ++ ys)
overwrite_next d at xs ys h =
    rw (
      overwrite_is (overwrite d at xs) (at + length xs) ys,
      overwrite_is d at (xs ++ ys),
      overwrite_front d at xs h,
      overwrite_drop_after d at xs (at + length xs + length ys) (omega arith),
      length-append xs ys,
      ← add_assoc at (length xs) (length ys),
      append_assoc (take at d) xs ys,
    )

-- one over all of an earlier one
pub overwrite_over : (d : List ℕ) (a : ℕ) (xs : List ℕ) (b : ℕ) (ys : List ℕ) → a ≤ b → b ≤ length d → b + length ys ≤ a + length xs
    → overwrite (overwrite d b ys) a xs ≡ overwrite d a xs
overwrite_over d a xs b ys l h k =
    rw (
      overwrite_is (overwrite d b ys) a xs,
      overwrite_is d a xs,
      overwrite_take d b ys a h l,
      overwrite_drop_after d b ys (a + length xs) k,
    )

-- ---- stores

-- a store is an overwrite of one byte
pub overwrite_one : (d : List ℕ) (at v : ℕ) → at < length d → set d at v ≡ overwrite d at (v ∷ [])
overwrite_one d at v h = rw (set_split d at v h, overwrite_runs d at (v ∷ []), ← add-one at)

-- a run of stores is an overwrite
pub overwrite_stores : (d : List ℕ) (at : ℕ) (vs : List ℕ) → at + length vs ≤ length d → sets d at vs ≡ overwrite d at vs
overwrite_stores d at vs h = rw overwrite_is (sets-eq vs d at h)

-- a store right behind what is written
pub overwrite_more : (d : List ℕ) (at : ℕ) (xs : List ℕ) (v : ℕ) → at + length xs < length d
    → set (overwrite d at xs) (at + length xs) v ≡ overwrite d at (xs ++ (v ∷ []))
overwrite_more d at xs v h =
    overwrite_one (overwrite d at xs) (at + length xs) v (rw (overwrite_length d at xs (omega arith)) h) ∙ overwrite_next d at xs (v ∷ []) (omega arith)

-- the next turn of a copy of s over d: its first i bytes are written, and byte i is stored behind them
pub copy_more : {cur : List ℕ} (d s : List ℕ) (i : ℕ) → cur ≡ overwrite d 0 (take i s) → i < length s → length s ≤ length d
    → set cur i (get_or s i 0) ≡ overwrite d 0 (take (i + 1) s)
copy_more d s i e h k =
    let n : 0 + length (take i s) ≡ i = omega (arith, length-take-le i s (omega arith)) in
    let m : set (overwrite d 0 (take i s)) i (get_or s i 0) ≡ overwrite d 0 (take i s ++ (get_or s i 0 ∷ [])) =
    ap (λ j. set (overwrite d 0 (take i s)) j (get_or s i 0)) (sym n) ∙ overwrite_more d 0 (take i s) (get_or s i 0) (omega arith) in
    rw (e, add-one, take-suc s i 0 h) m

-- ---- a lent part of a slice, as the borrow checker has it: mid_of a k d is lent, and when it is back with ys the slice is put_mid a k d ys

-- `&s[a..]` and `&mut s[a..]`
pub lent_tail : (d : List ℕ) (a : ℕ) → mid_of a (length d - a) d ≡ drop a d
lent_tail d a = take_all (length d - a) (drop a d) (simp length-drop (le_refl _))

-- `&mut s[a..e]` comes back with xs in it
pub returned_part : {last : List ℕ} (d : List ℕ) (a e : ℕ) (xs : List ℕ) → last ≡ xs → e ≡ a + length xs
    → put_mid a (e - a) d last ≡ overwrite d a xs
returned_part d a e xs p q =
    let k : e - a ≡ length xs = omega arith in
    rw (p, k, overwrite_runs d a xs, ← drop-drop (length xs) a d) refl

-- the tail comes back
pub tail_back : (d : List ℕ) (a : ℕ) (ys : List ℕ) → put_mid a (length d - a) d ys ≡ take a d ++ ys
tail_back d a ys =
    let e : drop (length d - a) (drop a d) ≡ [] = drop_of_length-le (drop a d) {i = length d - a} (simp length-drop (le_refl _)) in
    rw (e, append-nil ys)

-- the tail comes back with xs written in it
pub returned_tail : {last : List ℕ} (d : List ℕ) (a i : ℕ) (xs : List ℕ) → last ≡ overwrite (mid_of a (length d - a) d) i xs
    → put_mid a (length d - a) d last ≡ overwrite d (a + i) xs
returned_tail {last} d a i xs e =
    tail_back d a last ∙ ap (λ (r : List ℕ). take a d ++ r) (e ∙ ap (λ (r : List ℕ). overwrite r i xs) (lent_tail d a)) ∙ overwrite_in_part d a i xs

-- the same, at the tail's front
pub returned_front : {last : List ℕ} (d : List ℕ) (a : ℕ) (xs : List ℕ) → last ≡ overwrite (mid_of a (length d - a) d) 0 xs
    → put_mid a (length d - a) d last ≡ overwrite d a xs
returned_front d a xs e = returned_tail d a 0 xs e ∙ ap (λ (k : ℕ). overwrite d k xs) (add-zero a)
