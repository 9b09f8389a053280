-- What the ledger answers to a call: the lowest number that the table gives, read on the ledger. Each call's refusals stand in the order of
-- their numbers, and `lowest` takes the first that applies; proofs/Ascending shows that every table ascends, so that the first is the lowest.
-- Document 01, "The ledger of demand 3"; requests C-15 and C-17.
use Rattle.std.specs.Prelude.{ℕ, ◌+◌, Bool, true, not, ◌&&◌, ◌||◌, List, [], ◌∷◌, eqb, ltb, length}
use Rattle.std.proofs.Math.Option.{Option, some, none}
use Rattle.layout.specs.Sizes.{capacity_of}
use Rattle.record.specs.Fields.{field_named, occurrences_of}
use Rattle.drafts.specs.Bytes.{need_for}
use Rattle.store.specs.Answer.{Row, refuse, lowest, after, Answer}
use Rattle.store.specs.declared.answer.Refusal.TheVariants.{BadLength, BadControl, BadDraft, NoMfn, NoSlot, Gone, Deleted, NotPending, NeverSettled, NoRoom}
use Rattle.drafts.specs.Draft.{is_right, fields_in}
use Rattle.views.specs.Views.{among_fields, occurrences_with}
use Rattle.settling.specs.SettleList.{settle_list_refusals}
use Rattle.ledger.specs.Call.{Call, format, view, view_settled, create, update, delete, settle, revert, check, migrate, settle_list, recount, Outcome, plain, returned, viewed, listed}
use Rattle.ledger.specs.Ledger.{Marking, settled, Item, held, Ledger, next_mfn, with_item, lengths_fine, mfn_in, item_of, is_gone_item, kept_fields, kept_deleted, kept_mark, is_settled_mark, is_new_mark, kept_length, settled_fields}

-- ---- the rows that calls share

-- 1, before the refusals of every call
abbrev pub measured : Ledger → List Row → List Row
measured L rest = refuse BadLength (not (lengths_fine L)) ∷ rest

-- 4 and 7, for calls that name an MFN
abbrev pub named : Ledger → ℕ → List Row → List Row
named L m rest = refuse NoMfn (not (mfn_in L m)) ∷ refuse Gone (is_gone_item (item_of L m)) ∷ rest

-- 13, last, for a call that is appended: end + need exceeds the MST length
unfoldable pub overfull : Ledger → ℕ → Bool
overfull L need = ltb L.mst_length (L.end + need)

abbrev pub room_for : Ledger → Bool → ℕ → List Row
room_for L appended need = refuse NoRoom (appended && overfull L need) ∷ []

-- an update is appended where the record is settled, or its need exceeds the record length
unfoldable pub appends : Marking → ℕ → Bool
appends s need = is_settled_mark s || ltb (kept_length s) need

-- the bytes of the field named, if there is one
abbrev pub bytes_of : Option (List ℕ) → List ℕ
bytes_of none = []
bytes_of (some bytes) = bytes

-- ---- settling one MFN, and each of a list in order

abbrev pub settle_rows : Ledger → ℕ → List Row
settle_rows L m = measured L (named L m (refuse NotPending (is_settled_mark (kept_mark (item_of L m))) ∷ []))

-- mark settled; deleted or live stays
abbrev pub settled_item : Item → Item
settled_item i = held (kept_fields i) (kept_deleted i) settled

-- the ledger after one, done or refused
unfoldable pub settled_one : Ledger → ℕ → Ledger
settled_one L m = after (lowest (settle_rows L m)) (with_item L m (settled_item (item_of L m)) L.end) L

-- after each of a list, and the answers
unfoldable pub settled_each : Ledger → List ℕ → Ledger
settled_each L [] = L
settled_each L (m ∷ ms) = settled_each (settled_one L m) ms

unfoldable pub answers_each : Ledger → List ℕ → List Answer
answers_each L [] = []
answers_each L (m ∷ ms) = lowest (settle_rows L m) ∷ answers_each (settled_one L m) ms

-- ---- what a call gives: an MFN, a field and how often its tag occurs, a list of answers, or nothing but its answer

pub data Given : Type 0 where
  nothing : Given
  the_mfn : ℕ → Given
  the_field : List ℕ → ℕ → Given
  the_answers : List Answer → Given

-- ---- the table: the refusals of a call, and what it gives

pub record Reply : Type 0 where
  pub refusals : List Row
  pub gives : Given

abbrev pub reply : List Row → Given → Reply
reply rows given = record { refusals = rows; gives = given }

unfoldable pub reply_l : Ledger → Call → Reply
reply_l L format = reply (measured L []) nothing
-- a view shows the field asked for: 12 and 15 by the fields that the ledger keeps
reply_l L (view m tag occ) =
    reply
    (measured L
    (named L m
    (refuse Deleted (kept_deleted (item_of L m))
    ∷ among_fields (kept_fields (item_of L m)) tag occ)))
    (the_field (bytes_of (field_named (kept_fields (item_of L m)) tag occ)) (occurrences_of (kept_fields (item_of L m)) tag))
reply_l L (view_settled m tag occ) =
    reply
    (measured L
    (named L m
    (refuse Deleted (kept_deleted (item_of L m) && is_settled_mark (kept_mark (item_of L m)))
    ∷ refuse NeverSettled (is_new_mark (kept_mark (item_of L m)))
    ∷ among_fields (settled_fields (item_of L m)) tag occ)))
    (the_field (bytes_of (field_named (settled_fields (item_of L m)) tag occ)) (occurrences_of (settled_fields (item_of L m)) tag))
-- create returns the next MFN
reply_l L (create d) =
    reply
    (measured L
    (refuse BadDraft (not (is_right d))
    ∷ refuse NoSlot (eqb (next_mfn L) (capacity_of L.xrf_length + 1))
    ∷ room_for L true (need_for (fields_in d))))
    (the_mfn (next_mfn L))
reply_l L (update m d) =
    reply
    (measured L
    (refuse BadDraft (not (is_right d))
    ∷ named L m
    (refuse Deleted (kept_deleted (item_of L m))
    ∷ room_for L (appends (kept_mark (item_of L m)) (need_for (fields_in d))) (need_for (fields_in d)))))
    nothing
reply_l L (delete m) =
    reply
    (measured L
    (named L m
    (refuse Deleted (kept_deleted (item_of L m))
    ∷ room_for L (is_settled_mark (kept_mark (item_of L m))) (need_for (kept_fields (item_of L m))))))
    nothing
reply_l L (settle m) = reply (settle_rows L m) nothing
reply_l L (revert m) =
    reply
    (measured L
    (named L m
    (refuse NotPending (is_settled_mark (kept_mark (item_of L m)))
    ∷ refuse NeverSettled (is_new_mark (kept_mark (item_of L m)))
    ∷ [])))
    nothing
reply_l L check = reply (measured L []) nothing
-- every store of the list is one of today
reply_l L migrate = reply (measured L (refuse BadControl true ∷ [])) nothing
-- 17 by the two lengths of the lists alone
reply_l L (settle_list ms lent) = reply (settle_list_refusals (length ms) lent) (the_answers (answers_each L ms))
-- a recount answers 0
reply_l L recount = reply (measured L []) nothing

unfoldable pub refusals_l : Ledger → Call → List Row
refusals_l L c = (reply_l L c).refusals

unfoldable pub gives_l : Ledger → Call → Given
gives_l L c = (reply_l L c).gives

-- the answer
unfoldable pub number_l : Ledger → Call → Answer
number_l L c = lowest (refusals_l L c)

-- refused: MFN 0, an empty field and no answers; how often the tag occurs comes with 15 alone
abbrev pub outcome_of : Answer → Given → Outcome
outcome_of a nothing = plain a
outcome_of a (the_mfn m) = returned a (after a m 0)
outcome_of a (the_field bytes n) = viewed a (after a bytes []) (occurrences_with a n)
outcome_of a (the_answers each) = listed a (after a each [])

unfoldable pub answer_l : Ledger → Call → Outcome
answer_l L c = outcome_of (number_l L c) (gives_l L c)
