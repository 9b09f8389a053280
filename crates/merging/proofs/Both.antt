-- The ways through `merge` and `mfns`: how many MFNs two lists have at most, and what is answered.
use Prim.Native.Nat.{ℕ, suc, ◌+◌, ◌≤◌, ◌<◌}
use native.Mathlib.Omega.{arith}
use mathlib.Core.Path.{◌≡◌, refl}
use mathlib.Core.Bool.{Bool, true, false, cond, and-false}
use mathlib.Core.List.{List, [], ◌∷◌}
use lib.Dec.{ltb, eqb}
use lib.ListN.{length}
use Rattle.word.specs.Overwrite.{overwrite}
use Rattle.word.proofs.Tests.{and_iff}
use Rattle.posting.specs.Posting.{mfn_of}
use Rattle.postings.specs.declared.segment.Place.{Place}
use Rattle.postings.specs.Rules.{above, list_of, list_right}
use Rattle.postings.specs.Cursor.{rest_of}
use Rattle.merging.specs.Merge.{mfns_after, mfns_of, meets, common, joins, joined, merged}
use Rattle.merging.specs.Heads.{Reads, most_of}
use Rattle.merging.specs.Calls.{both_right, merged_of}
use Rattle.std.proofs.Common.{Result, Ok, Err}
use Rattle.posting.specs.declared.answer.Refusal.{Refusal}
use Rattle.posting.specs.declared.answer.Refusal.TheVariants.{NoRoom, Broken}
use Rattle.postings.specs.declared.list.Opened.{Opened}
use Rattle.postings.proofs.Answers.{Answered, answered_broken, answered_full, answered}
use Rattle.postings.proofs.Opening.{SoundList}

-- ---- how many there are at most

short_step : (m p : ℕ) (ps : List ℕ) (t : Bool) → eqb (mfn_of p) m ≡ t → ((k : ℕ) → length (mfns_after k ps) ≤ length ps)
    → length (mfns_after m (p ∷ ps)) ≤ length (p ∷ ps)
unfolding mfns_after
short_step m p ps true e i = rw e (omega (arith, i m))
short_step m p ps false e i = rw e (omega (arith, i (mfn_of p)))

mfns_short : (m : ℕ) (ps : List ℕ) → length (mfns_after m ps) ≤ length ps
unfolding mfns_after
mfns_short m [] = omega arith
mfns_short m (p ∷ ps) = short_step m p ps (eqb (mfn_of p) m) refl (λ k. mfns_short k ps)

meets_left : (x : ℕ) (f : List ℕ → List ℕ) (n : ℕ) → ((ys : List ℕ) → length (f ys) ≤ n) → (ys : List ℕ) → length (meets x f ys) ≤ suc n
unfolding meets
meets_left x f n h [] = omega arith
meets_left x f n h (y ∷ ys) = step (ltb y x) (eqb x y) (meets_left x f n h ys)
  where
    step : (s t : Bool) → length (meets x f ys) ≤ suc n → length (cond s (meets x f ys) (cond t (x ∷ f ys) (f (y ∷ ys)))) ≤ suc n
    step true t i = i
    step false true i = omega (arith, h ys)
    step false false i = omega (arith, h (y ∷ ys))

meets_right : (x : ℕ) (f : List ℕ → List ℕ) → ((ys : List ℕ) → length (f ys) ≤ length ys) → (ys : List ℕ) → length (meets x f ys) ≤ length ys
unfolding meets
meets_right x f h [] = omega arith
meets_right x f h (y ∷ ys) = step (ltb y x) (eqb x y) (meets_right x f h ys)
  where
    step : (s t : Bool) → length (meets x f ys) ≤ length ys → length (cond s (meets x f ys) (cond t (x ∷ f ys) (f (y ∷ ys)))) ≤ suc (length ys)
    step true t i = omega (arith, i)
    step false true i = omega (arith, h ys)
    step false false i = omega (arith, h (y ∷ ys))

joins_most : (x : ℕ) (f : List ℕ → List ℕ) (n : ℕ) → ((ys : List ℕ) → length (f ys) ≤ n + length ys) → (ys : List ℕ)
    → length (joins x f ys) ≤ suc n + length ys
unfolding joins
joins_most x f n h [] = omega (arith, h [])
joins_most x f n h (y ∷ ys) = step (ltb y x) (eqb x y) (joins_most x f n h ys)
  where
    step : (s t : Bool) → length (joins x f ys) ≤ suc n + length ys
        → length (cond s (y ∷ joins x f ys) (cond t (x ∷ f ys) (x ∷ f (y ∷ ys)))) ≤ suc n + suc (length ys)
    step true t i = omega (arith, i)
    step false true i = omega (arith, h ys)
    step false false i = omega (arith, h (y ∷ ys))

common_left : (xs ys : List ℕ) → length (common xs ys) ≤ length xs
unfolding common
common_left [] ys = omega arith
common_left (x ∷ xs) ys = meets_left x (common xs) (length xs) (common_left xs) ys

common_right : (xs ys : List ℕ) → length (common xs ys) ≤ length ys
unfolding common
common_right [] ys = omega arith
common_right (x ∷ xs) ys = meets_right x (common xs) (common_right xs) ys

joined_most : (xs ys : List ℕ) → length (joined xs ys) ≤ length xs + length ys
unfolding joined
joined_most [] ys = omega arith
joined_most (x ∷ xs) ys = joins_most x (joined xs) (length xs) (joined_most xs) ys

merged_most : (both : Bool) (ps qs : List ℕ) → length (merged both (mfns_of ps) (mfns_of qs)) ≤ most_of both (length ps) (length qs)
unfolding most_of
merged_most true ps qs =
    let a = common_left (mfns_of ps) (mfns_of qs) in
    let b = common_right (mfns_of ps) (mfns_of qs) in
    omega (arith, a, b, mfns_short 16777216 ps, mfns_short 16777216 qs)
merged_most false ps qs =
    let a = joined_most (mfns_of ps) (mfns_of qs) in
    omega (arith, a, mfns_short 16777216 ps, mfns_short 16777216 qs)

-- ---- the ways through `merge`

module _ (xs out : List ℕ) where
  pub merge_full : (k : ℕ) (last : List ℕ) → k ≡ length xs → length out < k → last ≡ out → Answered true xs out (Err NoRoom) last
  merge_full k last e h l = rw l (answered_full true xs out refl (omega arith))

  pub merge_given : length xs ≤ length out → (k : ℕ) (last : List ℕ) → k ≡ length xs → last ≡ overwrite out 0 xs → Answered true xs out (Ok k) last
  merge_given h k last c l = answered true xs out refl k last h c l

-- ---- the ways through `mfns`

list_ascends : (f : List ℕ) (p : Place) → list_right f p ≡ true → above 0 (list_of f p) ≡ true
unfolding list_right
list_ascends f p e = let q = simp and_iff at e in q.0.1

pub sound_reads : (f : List ℕ) (p : Place) (o : Opened) → SoundList f p o → Reads f o.cursor
sound_reads f p o s = record { in_block = s.in_block; stands = s.stands; ascends = rw s.rest (list_ascends f p s.right) }

module _ (f : List ℕ) (p q : Place) (both : Bool) (out : List ℕ) where
  pub mfns_first : list_right f p ≡ false → Answered (both_right f p q) (merged_of both f p q) out (Err Broken) out
  mfns_first n = answered_broken _ _ out (rw n)

  pub mfns_second : list_right f q ≡ false → Answered (both_right f p q) (merged_of both f p q) out (Err Broken) out
  mfns_second n = answered_broken _ _ out (rw (n, and-false))

  module _ (a b : Opened) (s : SoundList f p a) (t : SoundList f q b) where
    pub mfns_most : (most : ℕ) → most ≡ most_of both a.total b.total
        → length (merged both (mfns_of (rest_of f a.cursor)) (mfns_of (rest_of f b.cursor))) ≤ most
    mfns_most most e = rw (e, s.total, t.total, ← s.rest, ← t.rest) (merged_most both (rest_of f a.cursor) (rest_of f b.cursor))

    pub mfns_given : (v : Result ℕ Refusal) (last : List ℕ)
        → Answered true (merged both (mfns_of (rest_of f a.cursor)) (mfns_of (rest_of f b.cursor))) out v last
        → Answered (both_right f p q) (merged_of both f p q) out v last
    mfns_given v last w = rw (s.right, t.right, ← s.rest, ← t.rest) w
