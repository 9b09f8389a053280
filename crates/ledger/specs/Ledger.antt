-- What the ledger keeps: the two buffer lengths, an end, and an item for each MFN created. It is fed each call with its arguments; nothing is
-- read from the buffers. Document 01, "The ledger of demand 3".
use Rattle.std.specs.Prelude.{ℕ, ◌+◌, ◌-◌, Bool, true, false, ◌&&◌, List, [], leb, ltb, length, get_or, set}
use Rattle.layout.specs.Sizes.{mst_permitted, xrf_permitted}
use Rattle.record.specs.Fields.{Field}

-- a record's mark; under the two pending marks a record length is kept, and under changed the settled fields too
pub data Marking : Type 0 where
  settled : Marking
  new : ℕ → Marking
  changed : ℕ → List Field → Marking

-- what is kept of an MFN: its fields, deleted or live, and its mark; or that it is physically deleted
pub data Item : Type 0 where
  gone : Item
  held : List Field → Bool → Marking → Item

pub record Ledger : Type 0 where
  pub mst_length : ℕ
  pub xrf_length : ℕ
  pub end : ℕ
  pub items : List Item

-- the next MFN
abbrev pub next_mfn : Ledger → ℕ
next_mfn L = length L.items + 1

-- format empties it: end 64, next MFN 1
unfoldable pub empty : ℕ → ℕ → Ledger
empty mst xrf = record { mst_length = mst; xrf_length = xrf; end = 64; items = [] }

-- one item and the end are set
abbrev pub with_item : Ledger → ℕ → Item → ℕ → Ledger
with_item L m i e = record { mst_length = L.mst_length; xrf_length = L.xrf_length; end = e; items = set L.items (m - 1) i }

-- both buffer lengths are permitted
unfoldable pub lengths_fine : Ledger → Bool
lengths_fine L = mst_permitted L.mst_length && xrf_permitted L.xrf_length

-- MFN m was created
unfoldable pub mfn_in : Ledger → ℕ → Bool
mfn_in L m = leb 1 m && ltb m (next_mfn L)

-- its item
abbrev pub item_of : Ledger → ℕ → Item
item_of L m = get_or L.items (m - 1) gone

-- ---- what an item keeps

abbrev pub is_gone_item : Item → Bool
is_gone_item gone = true
is_gone_item (held fs d s) = false

abbrev pub kept_fields : Item → List Field
kept_fields gone = []
kept_fields (held fs d s) = fs

abbrev pub kept_deleted : Item → Bool
kept_deleted gone = false
kept_deleted (held fs d s) = d

abbrev pub kept_mark : Item → Marking
kept_mark gone = settled
kept_mark (held fs d s) = s

abbrev pub is_settled_mark : Marking → Bool
is_settled_mark settled = true
is_settled_mark (new n) = false
is_settled_mark (changed n fs) = false

abbrev pub is_new_mark : Marking → Bool
is_new_mark settled = false
is_new_mark (new n) = true
is_new_mark (changed n fs) = false

-- the record length
abbrev pub kept_length : Marking → ℕ
kept_length settled = 0
kept_length (new n) = n
kept_length (changed n fs) = n

-- the settled fields under changed, otherwise the current ones
abbrev pub settled_or : List Field → Marking → List Field
settled_or fs settled = fs
settled_or fs (new n) = fs
settled_or fs (changed n old) = old

abbrev pub settled_fields : Item → List Field
settled_fields i = settled_or (kept_fields i) (kept_mark i)
