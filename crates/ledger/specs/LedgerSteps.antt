-- What a call does to the ledger where it is done. One description of it (`Effect`): it stays, it is emptied, one item and the end are set, one
-- item is added and the end set, or a list of MFNs is settled. Document 01, "The ledger of demand 3".
use Rattle.std.specs.Prelude.{ℕ, ◌+◌, Bool, true, false, cond, List, [], ◌∷◌, ◌++◌, eqb}
use Rattle.layout.specs.Sizes.{end_moved}
use Rattle.record.specs.Fields.{Field}
use Rattle.drafts.specs.Bytes.{need_for}
use Rattle.store.specs.Answer.{after}
use Rattle.drafts.specs.Draft.{fields_in}
use Rattle.settling.specs.Theorems.{among}
use Rattle.ledger.specs.Call.{Call, format, view, view_settled, create, update, delete, settle, revert, check, migrate, settle_list, recount, Outcome}
use Rattle.ledger.specs.Ledger.{Marking, settled, new, changed, Item, held, Ledger, next_mfn, empty, with_item, item_of, kept_fields, kept_deleted, kept_mark, is_settled_mark, kept_length, settled_fields}
use Rattle.ledger.specs.LedgerAnswers.{appends, settled_item, settled_each, number_l, answer_l}

pub data Effect : Type 0 where
  stays : Effect
  emptied : Effect
  -- the item of an MFN, and the end
  item_set : ℕ → Item → ℕ → Effect
  -- the next MFN's, and the end
  item_added : Item → ℕ → Effect
  -- each of a list of MFNs, in order, those included that are refused
  each_settled : List ℕ → Effect

-- the ledger after it
abbrev pub applied : Ledger → Effect → Ledger
applied L stays = L
applied L emptied = empty L.mst_length L.xrf_length
applied L (item_set m i e) = with_item L m i e
applied L (item_added i e) = record { mst_length = L.mst_length; xrf_length = L.xrf_length; end = e; items = L.items ++ (i ∷ []) }
applied L (each_settled ms) = settled_each L ms

-- it is on MFN o: it sets or adds its item, or empties the ledger
abbrev pub touches : Ledger → Effect → ℕ → Bool
touches L stays o = false
touches L emptied o = true
touches L (item_set m i e) o = eqb m o
touches L (item_added i e) o = eqb (next_mfn L) o
touches L (each_settled ms) o = among o ms

-- the MFN whose item it sets or adds; 0 where there is none, or a list of them
abbrev pub item_mfn : Ledger → Effect → ℕ
item_mfn L stays = 0
item_mfn L emptied = 0
item_mfn L (item_set m i e) = m
item_mfn L (item_added i e) = next_mfn L
item_mfn L (each_settled ms) = 0

-- ---- appended: the end grows by the need, and from an offset of 500 to 510 it goes on to the next multiple of 512; the record length is the
-- need. What is not appended leaves both

abbrev pub end_with : Ledger → Bool → ℕ → ℕ
end_with L appended need = cond appended (end_moved (L.end + need)) L.end

abbrev pub length_with : Marking → Bool → ℕ → ℕ
length_with s appended need = cond appended need (kept_length s)

-- ---- what calls do to one MFN

-- the mark of a new version with a record length: a settled record's fields become the settled fields, mark changed; a pending mark stays
abbrev pub version_mark : List Field → Marking → ℕ → Marking
version_mark fs settled n = changed n fs
version_mark fs (new k) n = new n
version_mark fs (changed k old) n = changed n old

-- MFN m has a new version of these fields, deleted or live, appended or in place
abbrev pub version : Ledger → ℕ → List Field → Bool → Bool → Effect
version L m fs deleted appended =
    item_set m
    (held fs deleted (version_mark (kept_fields (item_of L m)) (kept_mark (item_of L m)) (length_with (kept_mark (item_of L m)) appended (need_for fs))))
    (end_with L appended (need_for fs))

-- MFN m is settled with these fields, deleted or live
abbrev pub settled_as : Ledger → ℕ → List Field → Bool → Effect
settled_as L m fs deleted = item_set m (held fs deleted settled) L.end

-- ---- the calls

unfoldable pub effect_of : Ledger → Call → Effect
effect_of L format = emptied
effect_of L (view m tag occ) = stays
effect_of L (view_settled m tag occ) = stays
-- the next MFN gets the draft's fields, live, new, appended
effect_of L (create d) = item_added (held (fields_in d) false (new (need_for (fields_in d)))) (end_with L true (need_for (fields_in d)))
-- the draft's fields become current; appended where it is settled or their need exceeds the record length
effect_of L (update m d) = version L m (fields_in d) (kept_deleted (item_of L m)) (appends (kept_mark (item_of L m)) (need_for (fields_in d)))
-- its fields stay and it is deleted; appended where it is settled
effect_of L (delete m) = version L m (kept_fields (item_of L m)) true (is_settled_mark (kept_mark (item_of L m)))
effect_of L (settle m) = item_set m (settled_item (item_of L m)) L.end
-- the settled fields become current, live, mark settled
effect_of L (revert m) = settled_as L m (settled_fields (item_of L m)) false
effect_of L check = stays
effect_of L migrate = stays
effect_of L (settle_list ms lent) = each_settled ms
-- and changes nothing
effect_of L recount = stays

-- a refused call changes nothing
unfoldable pub next_l : Ledger → Call → Ledger
next_l L c = after (number_l L c) (applied L (effect_of L c)) L

-- ---- a list of calls

-- the answers, in order
unfoldable pub answers_l : Ledger → List Call → List Outcome
answers_l L [] = []
answers_l L (c ∷ cs) = answer_l L c ∷ answers_l (next_l L c) cs

-- the ledger after them
unfoldable pub after_l : Ledger → List Call → Ledger
after_l L [] = L
after_l L (c ∷ cs) = after_l (next_l L c) cs
