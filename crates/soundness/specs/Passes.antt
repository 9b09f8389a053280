-- Inner: serves the functions of the check, no part of what is promised. What the passes of the check find. Each entry names a place, and under
-- the changed mark a back place. The first pass over the MFNs asks all of an entry but whether these are steps, and counts them; the second walks
-- the steps, and counts those that the entry of the MFN written there names. That the two counts agree exactly if every entry names steps only is a law (proofs/Deciding.antt), and no part of what is promised.
use Rattle.std.specs.Prelude.{ℕ, ◌+◌, ◌-◌, ◌≤◌, ◌≡◌, Bool, true, false, ◌&&◌, cond, List, [], ◌∷◌, eqb, length, Option, Some, None, Result}
use Rattle.layout.specs.Entry.{place_address}
use Rattle.files.specs.Control.{next_of, end_of}
use Rattle.layout.specs.Leader.{leader_of}
use Rattle.layout.specs.declared.entry.Mark.{Mark}
use Rattle.layout.specs.declared.entry.Mark.TheVariants.{Changed}
use Rattle.layout.specs.declared.entry.Place.{Place}
use Rattle.layout.specs.declared.entry.Entry.{Entry}
use Rattle.layout.specs.declared.entry.Entry.TheVariants.{Gone, Malformed, At}
use Rattle.store.specs.Store.{Store}
use Rattle.store.specs.Answer.{give}
use Rattle.store.specs.declared.answer.Refusal.{Refusal}
use Rattle.store.specs.Reading.{mfn_in_range, entry_for, is_changed, record_from, leader_at, back_address, record_fine, version_fine}
use Rattle.soundness.specs.Sound.{bit, sum_to, all_to, elem, step_right, next_step, steps, arrives, is_live, live_count, body_apart}
use Rattle.soundness.specs.Recount.{recount_answer}
use Rattle.soundness.specs.declared.passes.Tally.{Tally}

-- ---- counting

-- how many of a list pass
unfoldable pub count : (ℕ → Bool) → List ℕ → ℕ
count p [] = 0
count p (x ∷ xs) = bit (p x) + count p xs

-- ---- the first pass

-- the addresses that an entry names: its place, and under the changed mark its back place
unfoldable pub names_of : List ℕ → Entry → List ℕ
names_of mst Gone = []
names_of mst Malformed = []
names_of mst (At p) = place_address p ∷ cond (is_changed p.mark) (back_address (leader_at mst p) ∷ []) []

-- an entry is right but for the steps: gone, or a place with a well-formed record and, if changed, a well-formed settled version
unfoldable pub entry_fine : List ℕ → ℕ → Entry → Bool
entry_fine mst m Gone = true
entry_fine mst m Malformed = false
entry_fine mst m (At p) = record_fine mst m p && version_fine mst m p

-- every entry below NXTMFN
unfoldable pub entries_fine : Store → Bool
entries_fine s = all_to (next_of s.mst - 1) (λ m. entry_fine s.mst m (entry_for s m))

-- how many addresses the entries below NXTMFN name
unfoldable pub named_total : Store → ℕ
named_total s = sum_to (next_of s.mst - 1) (λ m. length (names_of s.mst (entry_for s m)))

abbrev pub tally : ℕ → ℕ → Tally
tally named live = record { named = named; live = live }

-- both counts, where every entry is right
unfoldable pub tally_of : Store → Option Tally
tally_of s = cond (entries_fine s) (Some (tally (named_total s) (live_count s))) None

-- the same for one entry
unfoldable pub entry_tally : List ℕ → ℕ → Entry → Option Tally
entry_tally mst m e = cond (entry_fine mst m e) (Some (tally (length (names_of mst e)) (bit (is_live e)))) None

-- how many addresses a place names, by its mark
abbrev pub named_under : Mark → ℕ
named_under mark = cond (is_changed mark) 2 1

-- what the check finds of a store apart from RECCNT: how many entries are live, where it is sound
unfoldable pub apart_of : Store → Option ℕ
apart_of s = cond (body_apart s) (Some (live_count s)) None

-- what the check and the recount ask alike: how many entries are live, where 1, 2, and 14 apart from RECCNT, do not apply
unfoldable pub counted_of : Store → Result ℕ Refusal
counted_of s = give (recount_answer s) (live_count s)

-- ---- the second pass

-- the next step, where MFRL is right
unfoldable pub step_of : List ℕ → ℕ → Option ℕ
step_of mst s = cond (step_right mst s) (Some (next_step mst s)) None

-- the MFN written at a step
abbrev pub mfn_at : List ℕ → ℕ → ℕ
mfn_at mst s = (leader_of (record_from mst s)).mfn.0

-- the entry of that MFN names the step
unfoldable pub hit : Store → ℕ → Bool
hit s a = mfn_in_range s.mst (mfn_at s.mst a) && elem a (names_of s.mst (entry_for s (mfn_at s.mst a)))

-- one arrives at the end, and as many steps are named as the entries name addresses
unfoldable pub walk_of : Store → ℕ → Bool
walk_of s named = arrives s.mst 64 && eqb (count (hit s) (steps s.mst 64)) named

-- what is enough to read the addresses that a place names
pub record Names (mst : List ℕ) (end : ℕ) (p : Place) : Type 0 where
  pub end_is : end ≡ end_of mst
  pub end_in : end ≤ length mst
  pub block : 1 ≤ p.block.0
  pub room : place_address p + 18 ≤ end
  pub back_block : p.mark ≡ Changed → 1 ≤ (leader_at mst p).mfbwb.0
