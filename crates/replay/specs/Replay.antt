-- What a run of a list of calls reports and leaves, from any two buffers and from two buffers just formatted.
use Rattle.std.specs.Prelude.{ℕ, ◌-◌, ◌≡◌, Bool, true, false, ◌&&◌, cond, List, [], ◌∷◌, ◌++◌, map, eqb, leb, ltb, length, take}
use Rattle.word.specs.Overwrite.{overwrite}
use Rattle.store.specs.Answer.{number_of}
use Rattle.store.specs.Reading.{lengths_permitted}
use Rattle.store.specs.Store.{Store}
use Rattle.ledger.specs.Call.{Call, format, Outcome}
use Rattle.ledger.specs.Ledger.{Ledger, empty}
use Rattle.ledger.specs.LedgerSteps.{answers_l, after_l}
use Rattle.ledger.specs.StoreRun.{next_s, answers_s, after_s}
use Rattle.ledger.specs.LedgerOf.{ledger_of, SoundStore}
use Rattle.ledger.specs.Demand3.{Kept}
use Rattle.replay.specs.Calls.{Script, rest_after, calls_of}
use Rattle.script.specs.declared.report.Stop.{Stop}
use Rattle.script.specs.declared.report.Stop.TheVariants.{Ended, BadLength, Malformed, NoRoom}
use Rattle.script.specs.declared.report.Replayed.{Replayed}

-- ---- outcomes as numbers and bytes

-- the answer's number, the MFN, the length of what is shown, the count, how many answers are listed; then the numbers of these
abbrev pub numbers_of : Outcome → List ℕ
numbers_of o = number_of o.answer ∷ o.mfn ∷ length o.shown ∷ o.count ∷ length o.answers ∷ map number_of o.answers

-- of all, one after the other
unfoldable pub outcome_numbers : List Outcome → List ℕ
outcome_numbers [] = []
outcome_numbers (o ∷ os) = numbers_of o ++ outcome_numbers os

-- the bytes shown, one field after the other
unfoldable pub outcome_bytes : List Outcome → List ℕ
outcome_bytes [] = []
outcome_bytes (o ∷ os) = o.shown ++ outcome_bytes os

-- whether there is room for an outcome
abbrev pub has_room : ℕ → ℕ → Outcome → Bool
has_room numbers bytes o = leb (length (numbers_of o)) numbers && leb (length o.shown) bytes

-- the outcomes that there is room for, up to the first that does not fit
unfoldable pub fitting : ℕ → ℕ → List Outcome → List Outcome
fitting numbers bytes [] = []
fitting numbers bytes (o ∷ os) = cond (has_room numbers bytes o) (o ∷ fitting (numbers - length (numbers_of o)) (bytes - length o.shown) os) []

-- ---- why a run stops

-- behind the last call: the list is at its end, or what is left is no call
abbrev pub stop_at : Script → Stop
stop_at s = cond (eqb (length s.ops) 0) Ended Malformed

-- where n calls are reported: the next one has no room, or there is no further call
unfoldable pub stop_for : ℕ → Script → Stop
stop_for n p = cond (ltb n (length (calls_of p))) NoRoom (stop_at (rest_after (length (calls_of p)) p))

-- ---- WHAT IS PROMISED, of the buffers, the list and the two rooms

-- outcomes are reported in order, as far as there is room for them; the rest of the two rooms is kept
pub record Reports (os : List Outcome) (p : Script) (answers shown : List ℕ) (r : Replayed) (answers' shown' : List ℕ) : Type 0 where
  pub calls : r.calls ≡ length (fitting (length answers) (length shown) os)
  pub stop : r.stop ≡ stop_for r.calls p
  pub numbers : answers' ≡ overwrite answers 0 (outcome_numbers (fitting (length answers) (length shown) os))
  pub fields : shown' ≡ overwrite shown 0 (outcome_bytes (fitting (length answers) (length shown) os))

-- the calls that are run are those that are reported
abbrev pub calls_run : Script → Replayed → List Call
calls_run p r = take r.calls (calls_of p)

-- a run, from any two buffers
pub record Runs (s : Store) (p : Script) (answers shown : List ℕ) (r : Replayed) (s' : Store) (answers' shown' : List ℕ) : Type 0 where
  -- it reports the library's own answers, and leaves what the calls leave
  pub reports : Reports (answers_s s (calls_of p)) p answers shown r answers' shown'
  pub left : s' ≡ after_s s (calls_run p r)
  -- WHERE THE BUFFERS ARE SOUND, the answers, MFNs, fields and counts are the ledger's, and the buffers say what the ledger keeps
  pub ledger : SoundStore s → Reports (answers_l (ledger_of s) (calls_of p)) p answers shown r answers' shown'
  pub kept : SoundStore s → Kept s' (after_l (ledger_of s) (calls_run p r))

-- where a buffer length is not permitted, nothing is run and nothing is reported
pub record Unrun (answers shown : List ℕ) (r : Replayed) (answers' shown' : List ℕ) : Type 0 where
  pub stop : r.stop ≡ BadLength
  pub calls : r.calls ≡ 0
  pub numbers : answers' ≡ answers
  pub fields : shown' ≡ shown

-- the ledger that a format leaves
abbrev pub formatted_ledger : Store → Ledger
formatted_ledger s = empty (length s.mst) (length s.xrf)

-- a replay: a format, and a run of the buffers that it leaves
pub record Replays (s : Store) (p : Script) (answers shown : List ℕ) (r : Replayed) (s' : Store) (answers' shown' : List ℕ) : Type 0 where
  pub refused : lengths_permitted s ≡ false → Unrun answers shown r answers' shown'
  -- the answers, MFNs, fields and counts are THE LEDGER's
  pub ledger : lengths_permitted s ≡ true → Reports (answers_l (formatted_ledger s) (calls_of p)) p answers shown r answers' shown'
  -- the buffers are what format and the calls reported leave, and say what the ledger keeps
  pub left : s' ≡ after_s (next_s s format) (calls_run p r)
  pub kept : lengths_permitted s ≡ true → Kept s' (after_l (formatted_ledger s) (calls_run p r))
