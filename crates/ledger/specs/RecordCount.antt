-- RECCNT over a list of calls from format. Request C-17: the number equals the count of accepted calls since the last format, taken from the
-- history: plus one for a create, minus one for a delete, plus one for a revert that brought a deleted record back. The history is the list of
-- calls with their answers and nothing else (`CountsHistory`). And a recount, which writes the number of an older card, keeps the ledger
-- (`RecountKeepsLedger`). Proved in proofs/RecordCount and proofs/Recounted.
use Rattle.std.specs.Prelude.{Ok}
use Rattle.std.specs.Prelude.{ℕ, ◌≡◌, Bool, true, false, cond, List, [], ◌∷◌, eqb, ℤ, pos}
use Rattle.std.proofs.Math.IntN.{suc_ℤ, pred_ℤ}
use Rattle.files.specs.Control.{count_of}
use Rattle.store.specs.Store.{Store, store}
use Rattle.store.specs.Answer.{number_of}
use Rattle.store.specs.Reading.{lengths_permitted}
use Rattle.soundness.specs.Recount.{recount_answer, recount_leaves}
use Rattle.ledger.specs.Call.{Call, format, view, view_settled, create, update, delete, settle, revert, check, migrate, settle_list, recount, Outcome}
use Rattle.ledger.specs.StoreRun.{next_s, answers_s, after_s}
use Rattle.ledger.specs.LedgerOf.{ledger_of}
use Rattle.ledger.specs.Demand3.{Kept, Agree}

-- a call and what it answered
pub record Answered : Type 0 where
  pub call : Call
  pub outcome : Outcome

-- the calls so far, the last one first
abbrev pub Past : Type 0
Past = List Answered

-- a call was accepted
abbrev pub accepted : Answered → Bool
accepted h = eqb (number_of h.outcome.answer) 0

-- what an accepted call says of how MFN m stands: deleted, not deleted, or nothing
pub data Says : Type 0 where
  nothing : Says
  deleted : Bool → Says

-- the create that returned m, a delete and a revert of m say it; a format says that nothing is deleted
abbrev pub says_of : Call → Outcome → ℕ → Says
says_of format o m = deleted false
says_of (view k tag occ) o m = nothing
says_of (view_settled k tag occ) o m = nothing
says_of (create d) o m = cond (eqb o.mfn m) (deleted false) nothing
says_of (update k d) o m = nothing
says_of (delete k) o m = cond (eqb k m) (deleted true) nothing
says_of (settle k) o m = nothing
says_of (revert k) o m = cond (eqb k m) (deleted false) nothing
says_of check o m = nothing
says_of migrate o m = nothing
says_of (settle_list ms lent) o m = nothing
says_of recount o m = nothing

abbrev pub or_before : Says → Bool → Bool
or_before nothing before = before
or_before (deleted d) before = d

-- the last accepted create, delete or revert of m is a delete
unfoldable pub last_deleted : Past → ℕ → Bool
last_deleted [] m = false
last_deleted (h ∷ past) m = cond (accepted h) (or_before (says_of h.call h.outcome m) (last_deleted past m)) (last_deleted past m)

-- what an accepted call makes of the count so far
abbrev pub count_after : Past → Call → ℤ → ℤ
count_after past format n = pos 0
count_after past (view m tag occ) n = n
count_after past (view_settled m tag occ) n = n
count_after past (create d) n = suc_ℤ n
count_after past (update m d) n = n
count_after past (delete m) n = pred_ℤ n
count_after past (settle m) n = n
-- a revert that brought a deleted record back
count_after past (revert m) n = cond (last_deleted past m) (suc_ℤ n) n
count_after past check n = n
count_after past migrate n = n
count_after past (settle_list ms lent) n = n
count_after past recount n = n

-- the count of accepted calls since the last format
unfoldable pub history_count : Past → ℤ
history_count [] = pos 0
history_count (h ∷ past) = cond (accepted h) (count_after past h.call (history_count past)) (history_count past)

-- the calls of a list with their answers, behind those before
unfoldable pub past_of : Past → List Call → List Outcome → Past
past_of past [] os = past
past_of past (c ∷ cs) [] = past
past_of past (c ∷ cs) (o ∷ os) = past_of (record { call = c; outcome = o } ∷ past) cs os

-- THE CLAIM OF THE HISTORY: from two buffers just formatted, after any list of calls
abbrev pub CountsHistory : List ℕ → List ℕ → Type 0
CountsHistory mst xrf =
    lengths_permitted (store mst xrf) ≡ true
    → (cs : List Call)
    → count_of (after_s (next_s (store mst xrf) format) cs).mst ≡ history_count (past_of [] cs (answers_s (next_s (store mst xrf) format) cs))

-- THE CLAIM OF A RECOUNT, of any two buffers, whatever RECCNT held
pub record RecountKeepsLedger (s : Store) : Type 0 where
  -- the store is sound then, with the ledger that its bytes gave before
  pub kept : recount_answer s ≡ Ok tt → Kept (recount_leaves s) (ledger_of s)
  -- so that ledger answers every list of calls after it
  pub answered : recount_answer s ≡ Ok tt → (cs : List Call) → Agree (recount_leaves s) (ledger_of s) cs
