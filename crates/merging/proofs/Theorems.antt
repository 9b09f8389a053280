-- What the calls on two lists give: the MFNs ascend strictly, and an MFN is given exactly if a posting of both lists has it, or of one of them.
use Prim.Native.Nat.{ℕ, zero, suc, ◌<◌}
use native.Mathlib.Omega.{arith}
use mathlib.Core.Path.{◌≡◌, ◌∙◌}
use mathlib.Core.Bool.{true, false}
use mathlib.Core.List.{List, [], ◌∷◌, ◌++◌}
use Rattle.word.proofs.Integers.{Bytes}
use Rattle.word.proofs.Tests.{and_iff}
use Rattle.posting.proofs.RoundTrip.{posting_small}
use Rattle.postings.specs.declared.segment.Place.{Place}
use Rattle.postings.specs.Segment.{count_of, first_of, follow, run}
use Rattle.postings.specs.Rules.{segments_of, postings_of, ascends, list_of, list_right}
use Rattle.merging.specs.Merge.{mfns_of, among, has_mfn}
use Rattle.merging.specs.Theorems.{MergedAscends, CommonExactly, JoinedExactly}
use Rattle.merging.proofs.Merged.{common_ascends, common_among, joined_ascends, joined_among, mfns_ascend, mfns_among, Small}

-- ---- postings have 64 bits

module _ (f : List ℕ) (b : Bytes f) where
  run_small : (k at : ℕ) (ps : List ℕ) → Small ps → Small (run f k at ++ ps)
  unfolding run Small
  run_small zero at ps s = s
  run_small (suc k) at ps s = (posting_small f b at, run_small k (follow at) ps s)

  list_small : (ps : List Place) → Small (postings_of f ps)
  unfolding postings_of Small
  list_small [] = tt
  list_small (p ∷ ps) = run_small (count_of f p) (first_of p) (postings_of f ps) (list_small ps)

  first_small : (xs : List ℕ) → Small xs → (x : ℕ) (ys : List ℕ) → xs ≡ x ∷ ys → x < 18446744073709551616
  unfolding Small
  first_small [] s x ys e = let z : ◌≡◌ {A = ℕ} 0 1 = cc in absurd (omega arith)
  first_small (y ∷ xs) s x ys e = let q : y ≡ x = cc in omega (arith, s.0)

  -- ---- lists that keep the rules

  list_ascends : (p : Place) → list_right f p ≡ true → ascends (list_of f p) ≡ true
  unfolding list_right
  list_ascends p e = let q = simp and_iff at e in q.0.1

  list_mfns : (p : Place) → list_right f p ≡ true → ascends (mfns_of (list_of f p)) ≡ true
  list_mfns p e = mfns_ascend (list_of f p) (first_small (list_of f p) (list_small (segments_of f p))) (list_ascends p e)

  list_among : (m : ℕ) (p : Place) → among m (mfns_of (list_of f p)) ≡ has_mfn m (list_of f p)
  list_among m p = mfns_among m (list_of f p) (list_small (segments_of f p))

-- ---- the theorems

pub merged_ascends : MergedAscends
unfolding MergedAscends
merged_ascends f b p q i j true = common_ascends 0 (mfns_of (list_of f p)) (mfns_of (list_of f q)) (list_mfns f b p i) (list_mfns f b q j)
merged_ascends f b p q i j false = joined_ascends 0 (mfns_of (list_of f p)) (mfns_of (list_of f q)) (list_mfns f b p i) (list_mfns f b q j)

pub common_exactly : CommonExactly
unfolding CommonExactly
common_exactly f b p q i j m =
    common_among m 0 0 (mfns_of (list_of f p)) (mfns_of (list_of f q)) (list_mfns f b p i) (list_mfns f b q j)
    ∙ rw (list_among f b m p, list_among f b m q)

pub joined_exactly : JoinedExactly
unfolding JoinedExactly
joined_exactly f b p q i j m = joined_among m (mfns_of (list_of f p)) (mfns_of (list_of f q)) ∙ rw (list_among f b m p, list_among f b m q)
