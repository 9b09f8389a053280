-- What the order and document 01 say of lists of calls beside demand 3, each a statement about the library's own answers. `Claims` stands last.
-- Proved in proofs/Claims, from laws of the ledger by demand 3.
use Rattle.std.specs.Prelude.{Ok, Err}
use Rattle.std.specs.Prelude.{ℕ, ◌+◌, ◌<◌, ◌≡◌, Bool, true, false, ◌&&◌, ◌||◌, List, [], ◌∷◌, ◌++◌, ltb}
use Rattle.layout.specs.declared.entry.Mark.TheVariants.{Settled}
use Rattle.layout.specs.declared.entry.Place.{Place}
use Rattle.layout.specs.declared.entry.Entry.TheVariants.{At}
use Rattle.drafts.specs.Bytes.{need_for}
use Rattle.store.specs.Answer.{number_of, Row, Answer}
use Rattle.store.specs.Reading.{mfn_in_range, entry_for, place_for}
use Rattle.store.specs.declared.answer.Refusal.TheVariants.{BadControl, NeverSettled, NoRoom}
use Rattle.store.specs.Store.{Store, store}
use Rattle.settling.specs.Theorems.{among}
use Rattle.drafts.specs.Draft.{Draft, fields_in}
use Rattle.ledger.specs.Call.{Call, format, view, view_settled, create, update, delete, settle, revert, check, migrate, settle_list, recount, Outcome, plain}
use Rattle.ledger.specs.Ledger.{item_of, kept_fields, kept_mark, is_settled_mark}
use Rattle.ledger.specs.LedgerAnswers.{appends, refusals_l}
use Rattle.ledger.specs.LedgerSteps.{touches, effect_of}
use Rattle.ledger.specs.StoreRun.{answer_s, next_s, answers_s, after_s}
use Rattle.ledger.specs.LedgerOf.{ledger_of}

-- every call of a list
pub data Every (P : Call → Type 0) : List Call → Type 0 where
  every_none : Every P []
  every_more : {c : Call} {cs : List Call} → P c → Every P cs → Every P (c ∷ cs)

-- ---- the settled version, whatever was done between

-- MFN m is live and settled
pub record LiveSettled (s : Store) (m : ℕ) : Type 0 where
  pub in_range : mfn_in_range s.mst m ≡ true
  pub place : Place
  pub entry : entry_for s m ≡ At place
  pub live : place.deleted ≡ false
  pub settled : place.mark ≡ Settled

-- a call is an update or a delete of m
pub data UpdatesOrDeletes (m : ℕ) : Call → Type 0 where
  updates : (d : Draft) → UpdatesOrDeletes m (update m d)
  deletes : UpdatesOrDeletes m (delete m)

-- it neither settles nor reverts m, alone or in a list, nor formats
pub record LeavesPending (m : ℕ) (c : Call) : Type 0 where
  pub no_format : c ≡ format → ⊥
  pub no_settle : c ≡ settle m → ⊥
  pub no_revert : c ≡ revert m → ⊥
  pub no_list : (ms : List ℕ) (lent : ℕ) → c ≡ settle_list ms lent → among m ms ≡ false

-- after such a change c of m, and such a list of calls cs
pub record SettledVersion (s : Store) (m : ℕ) (c : Call) (cs : List Call) : Type 0 where
  -- every settled view of m along the way equals the view before
  pub readable : (done rest : List Call) → done ++ rest ≡ cs → (tag occ : ℕ)
      → answer_s (after_s (next_s s c) done) (view_settled m tag occ) ≡ answer_s s (view m tag occ)
  -- revert answers 0
  pub reverts : answer_s (after_s (next_s s c) cs) (revert m) ≡ plain (Ok tt)
  -- and every view of m afterwards equals the view before
  pub current : (tag occ : ℕ) → answer_s (next_s (after_s (next_s s c) cs) (revert m)) (view m tag occ) ≡ answer_s s (view m tag occ)
  pub settled : (tag occ : ℕ) → answer_s (next_s (after_s (next_s s c) cs) (revert m)) (view_settled m tag occ) ≡ answer_s s (view m tag occ)

-- where a record is settled, its settled view is its current one: the same answer, the same bytes and the same number, on any two buffers
abbrev pub SettledIsCurrent : Store → ℕ → Type 0
SettledIsCurrent s m = (place_for s m).mark ≡ Settled → (tag occ : ℕ) → answer_s s (view_settled m tag occ) ≡ answer_s s (view m tag occ)

-- ---- never settled

-- a call neither settles m, alone or in a list, nor formats
pub record LeavesNew (m : ℕ) (c : Call) : Type 0 where
  pub no_format : c ≡ format → ⊥
  pub no_settle : c ≡ settle m → ⊥
  pub no_list : (ms : List ℕ) (lent : ℕ) → c ≡ settle_list ms lent → among m ms ≡ false

-- after a create that is done and returned m, and such a list of calls: revert of m answers 11, and so does its settled view
pub record NeverSettledYet (s : Store) (d : Draft) (m : ℕ) (cs : List Call) : Type 0 where
  pub reverts : answer_s (after_s (next_s s (create d)) cs) (revert m) ≡ plain (Err NeverSettled)
  pub settled : (tag occ : ℕ) → answer_s (after_s (next_s s (create d)) cs) (view_settled m tag occ) ≡ plain (Err NeverSettled)

-- ---- every other MFN's views are the same

pub record SameViews (s s' : Store) (m : ℕ) : Type 0 where
  pub current : (tag occ : ℕ) → answer_s s' (view m tag occ) ≡ answer_s s (view m tag occ)
  pub settled : (tag occ : ℕ) → answer_s s' (view_settled m tag occ) ≡ answer_s s (view_settled m tag occ)

-- ---- no room, exactly

-- a refusal with a number below n applies
unfoldable pub some_below : ℕ → List Row → Bool
some_below n [] = false
some_below n (r ∷ rs) = (r.applies && ltb (number_of r.answer) n) || some_below n rs

-- the room rule: an answer is 13 exactly if no lower number of the table applies, the call writes at the end and end + need exceeds the length
pub record RoomRule (a : Answer) (table : List Row) (at_end : Bool) (end need size : ℕ) : Type 0 where
  pub no_lower : a ≡ Err NoRoom → some_below 13 table ≡ false
  pub is_at_end : a ≡ Err NoRoom → at_end ≡ true
  pub exceeds : a ≡ Err NoRoom → size < end + need
  pub refused : some_below 13 table ≡ false → at_end ≡ true → size < end + need → a ≡ Err NoRoom

-- read on the ledger that the store holds, for a call
abbrev pub RoomOf : Store → Call → Bool → ℕ → Type 0
RoomOf s c at_end need = RoomRule (answer_s s c).answer (refusals_l (ledger_of s) c) at_end (ledger_of s).end need (ledger_of s).mst_length

-- ---- answers that never come

-- the numbers that a call never answers in a list from format: for document 01's own calls, 1, 2, 6, 7, 8 and 14
abbrev pub never_own : List ℕ
never_own = 1 ∷ 2 ∷ 6 ∷ 7 ∷ 8 ∷ 14 ∷ []

-- views give nothing that is said of drafts, of room or of what is pending, and 15 comes from views alone
abbrev pub never_views : List ℕ
never_views = 3 ∷ 5 ∷ 10 ∷ 13 ∷ 17 ∷ never_own

abbrev pub never_others : List ℕ
never_others = 15 ∷ 17 ∷ never_own

-- and for a migration, every number but 2
abbrev pub never_migrating : List ℕ
never_migrating = 0 ∷ 1 ∷ 3 ∷ 4 ∷ 5 ∷ 6 ∷ 7 ∷ 8 ∷ 9 ∷ 10 ∷ 11 ∷ 12 ∷ 13 ∷ 14 ∷ 15 ∷ 17 ∷ []

-- for a list of MFNs, every number but 0 and 17
abbrev pub never_listed : List ℕ
never_listed = 1 ∷ 2 ∷ 3 ∷ 4 ∷ 5 ∷ 6 ∷ 7 ∷ 8 ∷ 9 ∷ 10 ∷ 11 ∷ 12 ∷ 13 ∷ 14 ∷ 15 ∷ []

-- for a recount, every number but 0
abbrev pub never_recounting : List ℕ
never_recounting = 1 ∷ 2 ∷ 3 ∷ 4 ∷ 5 ∷ 6 ∷ 7 ∷ 8 ∷ 9 ∷ 10 ∷ 11 ∷ 12 ∷ 13 ∷ 14 ∷ 15 ∷ 17 ∷ []

abbrev pub never_from : Call → List ℕ
never_from format = never_others
never_from (view m tag occ) = never_views
never_from (view_settled m tag occ) = never_views
never_from (create d) = never_others
never_from (update m d) = never_others
never_from (delete m) = never_others
never_from (settle m) = never_others
never_from (revert m) = never_others
never_from check = never_others
never_from migrate = never_migrating
never_from (settle_list ms lent) = never_listed
never_from recount = never_recounting

-- an answer may come from a call
abbrev pub MayCome : Call → Answer → Type 0
MayCome c a = among (number_of a) (never_from c) ≡ false

-- the answers that it lists are those of a settle
pub data EachOwn : List Answer → Type 0 where
  no_answer : EachOwn []
  one_more : {a : Answer} {rest : List Answer} → among (number_of a) never_others ≡ false → EachOwn rest → EachOwn (a ∷ rest)

-- and every answer of a list from its call
pub data AllMayCome : List Call → List Outcome → Type 0 where
  none : AllMayCome [] []
  more : {c : Call} {cs : List Call} {o : Outcome} {os : List Outcome} → MayCome c o.answer → EachOwn o.answers → AllMayCome cs os
      → AllMayCome (c ∷ cs) (o ∷ os)

-- from format on
abbrev pub NeverCome : List ℕ → List ℕ → Type 0
NeverCome mst xrf = (cs : List Call) → AllMayCome cs (answers_s (next_s (store mst xrf) format) cs)

-- ---- THE CLAIMS, from any sound store

pub record Claims (s : Store) : Type 0 where
  -- the settled version of a live and settled MFN, after a change of it that is done, and calls that leave it pending
  pub settled_version : (m : ℕ) → LiveSettled s m → (c : Call) → UpdatesOrDeletes m c → (answer_s s c).answer ≡ Ok tt
      → (cs : List Call) → Every (LeavesPending m) cs → SettledVersion s m c cs
  -- a record never settled, after a create that is done, and calls that do not settle it
  pub never_settled : (d : Draft) → (answer_s s (create d)).answer ≡ Ok tt
      → (cs : List Call) → Every (LeavesNew (answer_s s (create d)).mfn) cs → NeverSettledYet s d (answer_s s (create d)).mfn cs
  -- a call leaves the views of every MFN that it does not set, add or empty
  pub others : (c : Call) (m : ℕ) → touches (ledger_of s) (effect_of (ledger_of s) c) m ≡ false → SameViews s (next_s s c) m
  -- 13 exactly by the room rule, of a create, an update and a delete: an update writes at the end where the record is settled or too short, a
  -- delete where it is settled
  pub create_room : (d : Draft) → RoomOf s (create d) true (need_for (fields_in d))
  pub update_room : (m : ℕ) (d : Draft) → RoomOf s (update m d) (appends (kept_mark (item_of (ledger_of s) m)) (need_for (fields_in d))) (need_for (fields_in d))
  pub delete_room : (m : ℕ) → RoomOf s (delete m) (is_settled_mark (kept_mark (item_of (ledger_of s) m))) (need_for (kept_fields (item_of (ledger_of s) m)))
  -- a migration answers 2 and changes nothing
  pub migrate_refused : answer_s s migrate ≡ plain (Err BadControl)
  pub migrate_nothing : next_s s migrate ≡ s
  -- a recount answers 0 and changes nothing
  pub recount_done : answer_s s recount ≡ plain (Ok tt)
  pub recount_nothing : next_s s recount ≡ s
