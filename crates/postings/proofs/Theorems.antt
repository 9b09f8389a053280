-- The theorems on segments and lists.
use Prim.Native.Nat.{ℕ, zero, suc, ◌+◌, ◌*◌, ◌-◌, ◌/◌, ◌%◌, ◌≤◌, ◌<◌}
use native.Mathlib.Omega.{arith}
use mathlib.Core.Path.{◌≡◌, refl, ◌∙◌}
use mathlib.Core.Bool.{Bool, true, false, and-false}
use lib.ListN.{length}
use borrow.Author.Tests.{le-leb, lt-leb}
use Rattle.postings.specs.Segment.{word_offset, header_inside, follow, stands_at, run}
use Rattle.postings.specs.Rules.{segments_of, headers_inside, list_right, paper_right}
use Rattle.postings.specs.Theorems.{FollowsWithin, FollowsNext, StandsAt, NumbersPlaces, EndsOnce, RulesAreThePapers}
use Rattle.postings.proofs.Opening.{list_bad}
use Rattle.postings.proofs.Rings.{place_same, ends_once}

-- ---- where postings stand

pub follow_within : FollowsWithin
unfolding FollowsWithin
follow_within b w h = let l : word_offset b w % 512 ≤ 496 = omega arith in rw (le-leb _ _ l) (omega arith)

pub follow_next : FollowsNext
unfolding FollowsNext
follow_next b w o g h =
    let c : ℕ = b - 1 in
    let q : word_offset b w / 512 ≡ c = omega arith in
    let e : word_offset b w ≡ c * 512 + (4 + 4 * w) = omega arith in
    let l : 496 < word_offset b w % 512 = omega arith in
    rw (lt-leb _ _ l, q) (omega arith)

pub run_item : StandsAt
unfolding StandsAt run stands_at
run_item f zero i at h = absurd (omega arith)
run_item f (suc k) zero at h = refl
run_item f (suc k) (suc i) at h = run_item f k i (follow at) (omega arith)

-- ---- the rules of 23 in the paper's words

pub rules_are_the_papers : RulesAreThePapers
unfolding RulesAreThePapers list_right paper_right
rules_are_the_papers f p = first (header_inside (length f) p) refl
  where
    all : header_inside (length f) p ≡ true → (t : Bool) → headers_inside f (segments_of f p) ≡ t → list_right f p ≡ paper_right f p
    all h true i = rw (h, ends_once f p h i)
    all h false i = rw (h, i, and-false, and-false)

    first : (t : Bool) → header_inside (length f) p ≡ t → list_right f p ≡ paper_right f p
    first true h = all h (headers_inside f (segments_of f p)) refl
    first false h = list_bad f p (rw h) ∙ rw h

pub numbers_places : NumbersPlaces
unfolding NumbersPlaces
numbers_places = place_same

pub ends_once_exactly : EndsOnce
unfolding EndsOnce
ends_once_exactly = ends_once
