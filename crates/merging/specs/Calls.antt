-- The two calls on two lists: what they answer, and the lent list afterwards. Document 02, C-14.
use Rattle.std.specs.Prelude.{ℕ, Bool, true, false, ◌&&◌, List}
use Rattle.postings.specs.declared.segment.Place.{Place}
use Rattle.postings.specs.Segment.{spot}
use Rattle.postings.specs.Rules.{list_of, list_right}
use Rattle.postings.specs.Calls.{Given, given_of, given_out}
use Rattle.merging.specs.Merge.{mfns_of, merged}
use Rattle.merging.specs.declared.merge.Which.{Which}
use Rattle.merging.specs.declared.merge.Which.TheVariants.{Common, Joined}

-- both lists keep the rules
abbrev pub both_right : List ℕ → Place → Place → Bool
both_right f p q = list_right f p && list_right f q

-- the common MFNs of two lists where both are asked for, else the joined ones
abbrev pub merged_of : Bool → List ℕ → Place → Place → List ℕ
merged_of both f p q = merged both (mfns_of (list_of f p)) (mfns_of (list_of f q))

-- whether it is the MFNs of both lists that are asked for
abbrev pub both_of : Which → Bool
both_of Common = true
both_of Joined = false

-- ---- the calls; places are given as their 32 bits

abbrev pub mfns_given : Bool → List ℕ → ℕ → ℕ → ℕ → ℕ → List ℕ → Given
mfns_given both f b w d v out = given_of (both_right f (spot b w) (spot d v)) (merged_of both f (spot b w) (spot d v)) out

abbrev pub mfns_out : Bool → List ℕ → ℕ → ℕ → ℕ → ℕ → List ℕ → List ℕ
mfns_out both f b w d v out = given_out (both_right f (spot b w) (spot d v)) (merged_of both f (spot b w) (spot d v)) out
