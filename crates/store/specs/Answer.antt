-- The answer numbers of document 01 and of the requests, and the lowest that applies.
use Rattle.std.specs.Prelude.{ℕ, Bool, cond, List, [], ◌∷◌, Result, Ok, Err}
use Rattle.store.specs.declared.answer.Refusal.{Refusal}
use Rattle.store.specs.declared.answer.Refusal.TheVariants.{BadLength, BadControl, BadDraft, NoMfn, NoSlot, BadEntry, Gone, BadRecord, Deleted, NotPending, NeverSettled, NoField, NoRoom, NotSound, FewerFields, NoRoomInList}

-- the number of each refusal
abbrev pub refusal_number : Refusal → ℕ
refusal_number BadLength = 1
refusal_number BadControl = 2
refusal_number BadDraft = 3
refusal_number NoMfn = 4
refusal_number NoSlot = 5
refusal_number BadEntry = 6
refusal_number Gone = 7
refusal_number BadRecord = 8
refusal_number Deleted = 9
refusal_number NotPending = 10
refusal_number NeverSettled = 11
refusal_number NoField = 12
refusal_number NoRoom = 13
refusal_number NotSound = 14
refusal_number (FewerFields occurrences) = 15
refusal_number NoRoomInList = 17

-- an answer: done, or a refusal
abbrev pub Answer : Type 0
Answer = Result Unit Refusal

-- the number of each answer: 0 where it is done
unfoldable pub number_of : Answer → ℕ
number_of (Ok _) = 0
number_of (Err r) = refusal_number r

-- a row of a table of refusals: an answer, and whether what it is given for is so
pub record Row : Type 0 where
  pub answer : Answer
  pub applies : Bool

abbrev pub refuse : Refusal → Bool → Row
refuse r b = record { answer = Err r; applies = b }

-- the first that applies; done where none applies. Every table of refusals ascends (proofs/Lowest and its like in the crates above), so the
-- first that applies is the lowest
abbrev pub lowest : List Row → Answer
lowest [] = Ok tt
lowest (r ∷ rs) = cond r.applies r.answer (lowest rs)

-- what holds after a call: the new where it is done, the old where it is refused
unfoldable pub after {ℓ} : {A : Type ℓ} → Answer → A → A → A
after (Ok _) new old = new
after (Err r) new old = old

-- what a call gives: a value where it is done, else the refusal
unfoldable pub give : {A : Type 0} → Answer → A → Result A Refusal
give (Ok _) x = Ok x
give (Err r) x = Err r
