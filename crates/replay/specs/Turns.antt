-- Inner: serves the functions below `run`, no part of what is promised. What one call does, where a run
-- stands in its list and in its two rooms.
use Rattle.std.specs.Prelude.{ℕ, ◌+◌, ◌*◌, ◌-◌, ◌≤◌, ◌≡◌, Bool, cond, List, [], ◌∷◌, length, take, drop, Option, Some, None, Result, Ok, Err}
use Rattle.word.specs.Overwrite.{overwrite}
use Rattle.writing.specs.Calls.{Created, created}
use Rattle.views.specs.Views.{Shown}
use Rattle.layout.specs.declared.sizes.Mfn.{Mfn}
use Rattle.store.specs.declared.answer.Refusal.{Refusal}
use Rattle.store.specs.Store.{Store}
use Rattle.ledger.specs.Call.{Call, settle_list, Outcome}
use Rattle.ledger.specs.StoreRun.{created_outcome, answer_s, next_s, answers_s, after_s}
use Rattle.store.specs.Answer.{Answer, number_of}
use Rattle.script.specs.Ops.{call_size, mfn_of, taken_of}
use Rattle.replay.specs.Calls.{Script, script, writing_call, front_draft, call_by, first_op, first_call, on_call, calls_of}
use Rattle.script.specs.Report.{outcome_size}
use Rattle.script.specs.Cursor.{moved}
use Rattle.settling.specs.SettleList.{list_most}
use Rattle.replay.specs.Replay.{numbers_of, has_room, stop_at, Reports, calls_run}
use Rattle.script.specs.declared.calls.Counts.{Counts}
use Rattle.script.specs.declared.calls.Op.{Op}
use Rattle.script.specs.declared.calls.Writing.{Writing}
use Rattle.script.specs.declared.report.Stop.{Stop}
use Rattle.script.specs.declared.report.Stop.TheVariants.{NoRoom}
use Rattle.script.specs.declared.cursor.Cursor.{Cursor}
use Rattle.script.specs.declared.report.Replayed.{Replayed}

-- ---- the cursor

-- a call that may write, with so much of a draft at a cursor
unfoldable pub writing_at : List ℕ → List ℕ → List ℕ → Cursor → Counts → Writing → Call
writing_at tags lens bytes at n w = writing_call (front_draft (drop at.used.tags tags) (drop at.used.lens lens) (drop at.used.bytes bytes) n) w

-- what is left of a list of calls at a cursor
abbrev pub script_at : Script → Cursor → Script
script_at p at =
    script
    (drop (call_size * at.calls) p.ops)
    (drop at.used.mfns p.mfns)
    (drop at.used.tags p.tags)
    (drop at.used.lens p.lens)
    (drop at.used.bytes p.bytes)

-- ---- one call

-- the first op of what is left, whose call is the first
pub record IsFirst (rest : Script) (o : Op) : Type 0 where
  pub read : first_op rest ≡ Some o
  pub called : first_call rest ≡ Some (call_by rest o)

-- there is none, and so a run stops
pub record IsOver (rest : Script) (s : Stop) : Type 0 where
  pub none : first_call rest ≡ None
  pub stop : s ≡ stop_at rest

-- so many of the MFNs at a cursor are settled as a list
unfoldable pub settling_at : List ℕ → Cursor → ℕ → ℕ → Call
settling_at mfns at n lent = settle_list (take n (drop at.used.mfns mfns)) lent

-- what a call other than create gives
abbrev pub without_mfn : Answer → Result (Option Mfn) Refusal
without_mfn (Ok _) = Ok None
without_mfn (Err r) = Err r

-- what a call that may write gives, as its answer and the MFN that it returns: 0 where it returns none
abbrev pub written : Result (Option Mfn) Refusal → Created
written (Ok (Some m)) = created (Ok m)
written (Ok None) = record { answer = Ok tt; mfn = mfn_of 0 }
written (Err r) = created (Err r)

-- the five numbers of what is shown, and of what a call that may write returns
abbrev pub shown_numbers : Shown → List ℕ
shown_numbers s = number_of s.answer ∷ 0 ∷ s.len ∷ s.occurrences ∷ 0 ∷ []

abbrev pub created_numbers : Created → List ℕ
created_numbers c = number_of c.answer ∷ c.mfn.0 ∷ 0 ∷ 0 ∷ 0 ∷ []

-- what a call that may write answers and leaves
pub record Wrote (s : Store) (c : Call) (r : Created) (s' : Store) : Type 0 where
  pub outcome : created_outcome r ≡ answer_s s c
  pub left : s' ≡ next_s s c

-- a list of n MFNs at a cursor is there, is not over-long, and has room for its outcome
pub record ListFits (mfns : List ℕ) (n : ℕ) (answers : List ℕ) (at : Cursor) : Type 0 where
  pub mfns_in : at.used.mfns + n ≤ length mfns
  pub short : n ≤ list_most
  pub room : at.numbers + (outcome_size + n) ≤ length answers

-- it is run, and its outcome is written at the cursor
pub record ListReported (s : Store) (c : Call) (answers : List ℕ) (at : Cursor) (s' : Store) (answers' : List ℕ) : Type 0 where
  pub left : s' ≡ next_s s c
  pub numbers : answers' ≡ overwrite answers at.numbers (numbers_of (answer_s s c))

-- whether there is room for an outcome at a cursor
abbrev pub room_at : List ℕ → List ℕ → Cursor → Outcome → Bool
room_at answers shown at o = has_room (length answers - at.numbers) (length shown - at.shown) o

-- a call with MFNs or a draft: where there is room it is run and reported; else nothing changes
pub record Ran (s : Store) (c : Call) (n : Counts) (answers shown : List ℕ) (at : Cursor) (t : Result Cursor Stop) (s' : Store) (answers' shown' : List ℕ) : Type 0 where
  pub turn : t ≡ cond (room_at answers shown at (answer_s s c)) (Ok (moved at n (length (numbers_of (answer_s s c))) (length (answer_s s c).shown))) (Err NoRoom)
  pub left : s' ≡ cond (room_at answers shown at (answer_s s c)) (next_s s c) s
  pub numbers : answers' ≡ cond (room_at answers shown at (answer_s s c)) (overwrite answers at.numbers (numbers_of (answer_s s c))) answers
  pub fields : shown' ≡ cond (room_at answers shown at (answer_s s c)) (overwrite shown at.shown (answer_s s c).shown) shown

-- no call: nothing changes
pub record Halted (rest : Script) (s : Store) (answers shown : List ℕ) (t : Result Cursor Stop) (s' : Store) (answers' shown' : List ℕ) : Type 0 where
  pub turn : t ≡ Err (stop_at rest)
  pub left : s' ≡ s
  pub numbers : answers' ≡ answers
  pub fields : shown' ≡ shown

-- a turn: the first call of what is left, or none
unfoldable pub Turned : Script → Store → List ℕ → List ℕ → Cursor → Result Cursor Stop → Store → List ℕ → List ℕ → Type 0
Turned rest s answers shown at t s' answers' shown' =
    on_call (first_call rest) (Halted rest s answers shown t s' answers' shown')
    (λ c. Ran s c (taken_of (first_op rest)) answers shown at t s' answers' shown')

-- ---- the whole run

-- what is reported and left, in the store's own words
pub record Finished (s : Store) (answers shown : List ℕ) (p : Script) (r : Replayed) (s' : Store) (answers' shown' : List ℕ) : Type 0 where
  pub reports : Reports (answers_s s (calls_of p)) p answers shown r answers' shown'
  pub left : s' ≡ after_s s (calls_run p r)
