-- Inner: serves the functions of the gate and their callers, no part of what is promised. What a call has found before it shows or writes:
-- what was read, or the lowest refusal so far.
use Rattle.std.specs.Prelude.{ℕ, ◌-◌, Bool, false, ◌&&◌, cond, List, [], Result, Ok, Err}
use Rattle.word.specs.Overwrite.{part}
use Rattle.files.specs.Control.{next_of, end_of}
use Rattle.files.specs.declared.control.Control.{Control}
use Rattle.layout.specs.Leader.{leader_of}
use Rattle.layout.specs.declared.entry.Place.{Place}
use Rattle.layout.specs.declared.entry.Entry.{Entry}
use Rattle.layout.specs.declared.entry.Entry.TheVariants.{Gone, Malformed, At}
use Rattle.layout.specs.declared.leader.Leader.{Leader}
use Rattle.record.specs.Record.{record_right, no_back}
use Rattle.store.specs.Store.{Store}
use Rattle.store.specs.Answer.{Answer, lowest, give}
use Rattle.store.specs.Reading.{place_for, leader_at, record_fine}
use Rattle.store.specs.Refusals.{gated, named, fine, both_fine}
use Rattle.store.specs.declared.answer.Refusal.{Refusal}
use Rattle.store.specs.declared.answer.Refusal.TheVariants.{BadEntry, BadRecord, Gone as GoneRefusal}
use Rattle.store.specs.declared.gate.Record.{Record}
use Rattle.store.specs.declared.gate.Reached.{Reached}

-- ---- what is found

abbrev pub control_with : ℕ → ℕ → Control
control_with next end = record { next = record { 0 = next }; end = end }

abbrev pub record_of : Place → Leader → Record
record_of p l = record { place = p; leader = l }

abbrev pub reached_at : ℕ → Place → Leader → Reached
reached_at end p l = record { end = end; place = p; leader = l }

-- ---- where

-- NXTMFN and the end, where 1 and 2 do not apply
unfoldable pub gate_of : Store → Result Control Refusal
gate_of s = give (lowest (gated s [])) (control_with (next_of s.mst) (end_of s.mst))

-- the place and the leader of MFN m's record, where the answer is done
unfoldable pub known_if : Answer → Store → ℕ → Result Record Refusal
known_if a s m = give a (record_of (place_for s m) (leader_at s.mst (place_for s m)))

-- the record of MFN m, where 4, 6, 7 and 8 do not apply
unfoldable pub known_of : Store → ℕ → Result Record Refusal
known_of s m = known_if (lowest (named s m (fine s m) [])) s m

-- the same with its settled version
unfoldable pub known_both : Store → ℕ → Result Record Refusal
known_both s m = known_if (lowest (named s m (both_fine s m) [])) s m

-- the end too, where 1 and 2 do not apply either
unfoldable pub reached_if : Answer → Store → ℕ → Result Reached Refusal
reached_if a s m = give a (reached_at (end_of s.mst) (place_for s m) (leader_at s.mst (place_for s m)))

unfoldable pub reached_of : Store → ℕ → Result Reached Refusal
reached_of s m = reached_if (lowest (gated s (named s m (fine s m) []))) s m

unfoldable pub reached_both : Store → ℕ → Result Reached Refusal
reached_both s m = reached_if (lowest (gated s (named s m (both_fine s m) []))) s m

-- the place of an entry that has one
abbrev pub place_given : Entry → Result Place Refusal
place_given Gone = Err GoneRefusal
place_given Malformed = Err BadEntry
place_given (At p) = Ok p

-- the record at a place, where it is well formed for m
unfoldable pub place_known : List ℕ → ℕ → Place → Result Record Refusal
place_known mst m p = cond (record_fine mst m p) (Ok (record_of p (leader_at mst p))) (Err BadRecord)

-- the record at an address is a well-formed settled version for m
unfoldable pub settled_from : List ℕ → ℕ → ℕ → ℕ → Bool
settled_from mst end m at = record_right (part mst at (end - at)) m false && no_back (leader_of (part mst at (end - at)))
