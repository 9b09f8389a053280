-- A sound store, and the whole-store check. Document 01, "A sound store"; request C-17 for RECCNT.
use Rattle.std.specs.Prelude.{ℕ, zero, suc, ◌+◌, ◌-◌, ◌/◌, Bool, true, false, not, ◌&&◌, ◌||◌, cond, List, [], ◌∷◌, eqb, leb, length}
use Rattle.layout.specs.Sizes.{capacity_of, end_moved, record_length}
use Rattle.layout.specs.Entry.{place_address}
use Rattle.files.specs.CrossReference.{head_right, slot_free}
use Rattle.files.specs.Control.{next_of, end_of, count_is}
use Rattle.layout.specs.Leader.{leader_of}
use Rattle.layout.specs.declared.entry.Place.{Place}
use Rattle.layout.specs.declared.entry.Entry.{Entry}
use Rattle.layout.specs.declared.entry.Entry.TheVariants.{Gone, Malformed, At}
use Rattle.store.specs.Store.{Store}
use Rattle.store.specs.Answer.{refuse, lowest, Answer}
use Rattle.store.specs.Reading.{lengths_permitted, control_fine, entry_for, is_changed, record_from, leader_at, back_address, record_fine, settled_fine}
use Rattle.store.specs.Refusals.{gated}
use Rattle.store.specs.declared.answer.Refusal.TheVariants.{NotSound}

-- each of 1 to n passes
unfoldable pub all_to : ℕ → (ℕ → Bool) → Bool
all_to zero p = true
all_to (suc k) p = all_to k p && p (suc k)

-- 1 where the test holds, else 0
unfoldable pub bit : Bool → ℕ
bit true = 1
bit false = 0

-- the sum over 1 to n
unfoldable pub sum_to : ℕ → (ℕ → ℕ) → ℕ
sum_to zero f = 0
sum_to (suc k) f = sum_to k f + f (suc k)

-- a is in the list
unfoldable pub elem : ℕ → List ℕ → Bool
elem a [] = false
elem a (x ∷ xs) = eqb a x || elem a xs

-- where the first holds, the second does
abbrev pub implies : Bool → Bool → Bool
implies true b = b
implies false b = true

-- every XRF block's first integer is right
unfoldable pub heads_right : List ℕ → Bool
heads_right xrf = all_to (length xrf / 512) (head_right xrf)

-- slots from NXTMFN on are 0
unfoldable pub rest_free : List ℕ → ℕ → Bool
rest_free xrf next = all_to (capacity_of (length xrf)) (λ m. implies (leb next m) (slot_free xrf m))

-- MFRL at a step, where a record is read as the part of the MST from its first byte
abbrev pub mfrl_at : List ℕ → ℕ → ℕ
mfrl_at mst s = (leader_of (record_from mst s)).mfrl

-- MFRL is even and in range, and the step ends at or before the end
unfoldable pub step_right : List ℕ → ℕ → Bool
step_right mst s = record_length (mfrl_at mst s) && leb (s + mfrl_at mst s) (end_of mst)

-- the next step: by MFRL, and over offsets 500 to 510; past the end where MFRL is not right
unfoldable pub next_step : List ℕ → ℕ → ℕ
next_step mst s = cond (step_right mst s) (end_moved (s + mfrl_at mst s)) (end_of mst + 1)

-- the steps from an address on, at most n: each has 18 bytes before the end
unfoldable pub steps_in : ℕ → List ℕ → ℕ → List ℕ
steps_in zero mst at = []
steps_in (suc n) mst at = cond (leb (at + 18) (end_of mst)) (at ∷ steps_in n mst (next_step mst at)) []

-- stepping from an address on, at most n times, one arrives exactly at the end
unfoldable pub arrives_in : ℕ → List ℕ → ℕ → Bool
arrives_in zero mst at = eqb at (end_of mst)
arrives_in (suc n) mst at = cond (leb (at + 18) (end_of mst)) (arrives_in n mst (next_step mst at)) (eqb at (end_of mst))

-- no walk has more steps than there are bytes to the end
unfoldable pub steps : List ℕ → ℕ → List ℕ
steps mst at = steps_in (end_of mst - at) mst at

unfoldable pub arrives : List ℕ → ℕ → Bool
arrives mst at = arrives_in (end_of mst - at) mst at

-- a place is one of the steps with a well-formed record, and its back place, if changed, one with a well-formed settled version
unfoldable pub place_sound : List ℕ → List ℕ → ℕ → Place → Bool
place_sound mst l m p =
    record_fine mst m p
    && elem (place_address p) l
    && implies (is_changed p.mark) (settled_fine mst m p && elem (back_address (leader_at mst p)) l)

-- an entry is -2048, or names one of the steps as above
unfoldable pub entry_sound : List ℕ → List ℕ → ℕ → Entry → Bool
entry_sound mst l m Gone = true
entry_sound mst l m Malformed = false
entry_sound mst l m (At p) = place_sound mst l m p

-- every entry below NXTMFN
unfoldable pub entries_sound : Store → List ℕ → Bool
entries_sound s l = all_to (next_of s.mst - 1) (λ m. entry_sound s.mst l m (entry_for s m))

-- an entry is neither deleted nor gone
abbrev pub is_live : Entry → Bool
is_live Gone = false
is_live Malformed = false
is_live (At p) = not p.deleted

-- how many records have such an entry
unfoldable pub live_count : Store → ℕ
live_count s = sum_to (next_of s.mst - 1) (λ m. bit (is_live (entry_for s m)))

-- RECCNT is their number
unfoldable pub count_right : Store → Bool
count_right s = count_is s.mst (live_count s)

-- A SOUND STORE, its lengths and control record right: every XRF block's first integer is right, slots from NXTMFN on are 0; from address 64
-- one arrives exactly at the end; every entry below NXTMFN is sound. This is the part apart from RECCNT
unfoldable pub body_apart : Store → Bool
body_apart s =
    heads_right s.xrf
    && rest_free s.xrf (next_of s.mst)
    && arrives s.mst 64
    && entries_sound s (steps s.mst 64)

-- and RECCNT is right
unfoldable pub body_sound : Store → Bool
body_sound s = body_apart s && count_right s

unfoldable pub sound_of : Store → Bool
sound_of s = lengths_permitted s && control_fine s && body_sound s

-- a store is sound apart from RECCNT
unfoldable pub sound_apart : Store → Bool
sound_apart s = lengths_permitted s && control_fine s && body_apart s

-- check: 1, 2, 14 or 0
unfoldable pub check_answer : Store → Answer
check_answer s = lowest (gated s (refuse NotSound (not (body_sound s)) ∷ []))
