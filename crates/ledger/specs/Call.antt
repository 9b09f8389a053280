-- The calls that demand 3 speaks of, with their arguments, and what each answers. Document 01, "The ledger of demand 3".
use Rattle.std.specs.Prelude.{ℕ, List, []}
use Rattle.store.specs.Answer.{Answer}
use Rattle.drafts.specs.Draft.{Draft}

pub data Call : Type 0 where
  format : Call
  -- MFN, tag, occurrence
  view : ℕ → ℕ → ℕ → Call
  view_settled : ℕ → ℕ → ℕ → Call
  create : Draft → Call
  update : ℕ → Draft → Call
  delete : ℕ → Call
  settle : ℕ → Call
  revert : ℕ → Call
  check : Call
  -- request C-12
  migrate : Call
  -- request C-13: the MFNs, and how long the lent list of answers is
  settle_list : List ℕ → ℕ → Call
  -- request C-17
  recount : Call

-- what a call answers
pub record Outcome : Type 0 where
  pub answer : Answer
  -- the MFN returned: 0 but from a create that is done
  pub mfn : ℕ
  -- the field shown: empty but from a view that is done
  pub shown : List ℕ
  -- how many: the occurrences of the tag from a view that answers 15, else 0
  pub count : ℕ
  -- the answers that it lists: empty but from a list that is settled
  pub answers : List Answer

-- an answer with nothing else, one with an MFN, one with a field and how many, and one with a list of answers
abbrev pub plain : Answer → Outcome
plain a = record { answer = a; mfn = 0; shown = []; count = 0; answers = [] }

abbrev pub returned : Answer → ℕ → Outcome
returned a m = record { answer = a; mfn = m; shown = []; count = 0; answers = [] }

abbrev pub viewed : Answer → List ℕ → ℕ → Outcome
viewed a bytes n = record { answer = a; mfn = 0; shown = bytes; count = n; answers = [] }

abbrev pub listed : Answer → List Answer → Outcome
listed a each = record { answer = a; mfn = 0; shown = []; count = 0; answers = each }
