-- What is proved of the MFNs of two lists beside the calls' own promises. Document 02, C-14.
use Rattle.std.specs.Prelude.{ℕ, ◌≡◌, Bool, true, false, ◌&&◌, ◌||◌, List}
use Rattle.posting.specs.Theorems.{OfBytes}
use Rattle.postings.specs.declared.segment.Place.{Place}
use Rattle.postings.specs.Rules.{ascends, list_of, list_right}
use Rattle.merging.specs.Merge.{among, has_mfn}
use Rattle.merging.specs.Calls.{merged_of}

-- what is given of two lists that keep the rules ascends strictly
unfoldable pub MergedAscends : Type 0
MergedAscends =
    (f : List ℕ) → OfBytes f → (p q : Place) → list_right f p ≡ true → list_right f q ≡ true → (both : Bool) → ascends (merged_of both f p q) ≡ true

-- a number is among their common MFNs exactly if both lists have a posting of it
unfoldable pub CommonExactly : Type 0
CommonExactly =
    (f : List ℕ) → OfBytes f → (p q : Place) → list_right f p ≡ true → list_right f q ≡ true → (m : ℕ)
    → among m (merged_of true f p q) ≡ (has_mfn m (list_of f p) && has_mfn m (list_of f q))

-- a number is among their joined MFNs exactly if one of the lists has a posting of it
unfoldable pub JoinedExactly : Type 0
JoinedExactly =
    (f : List ℕ) → OfBytes f → (p q : Place) → list_right f p ≡ true → list_right f q ≡ true → (m : ℕ)
    → among m (merged_of false f p q) ≡ (has_mfn m (list_of f p) || has_mfn m (list_of f q))
