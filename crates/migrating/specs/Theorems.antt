-- What holds of a migration, and of a recount, as statements: what was read of the card is what is read of it afterwards. Requests C-12 and C-17.
-- Proved in proofs/Theorems.
use Rattle.std.specs.Prelude.{Ok, Err}
use Rattle.std.specs.Prelude.{ℕ, ◌+◌, ◌≡◌, true, length, get_or}
use Rattle.word.specs.Integer.{u16_at}
use Rattle.word.specs.Overwrite.{part}
use Rattle.files.specs.Control.{offsets_from, old_offsets_from, next_of, end_from, end_of}
use Rattle.files.specs.NamedBytes.{OffsetByte}
use Rattle.store.specs.Store.{Store}
use Rattle.store.specs.Reading.{lengths_permitted, control_fine}
use Rattle.store.specs.declared.answer.Refusal.TheVariants.{BadControl}
use Rattle.views.specs.Views.{view_of, settled_view_of}
use Rattle.views.specs.Fields.{field_of, settled_field_of}
use Rattle.asking.specs.State.{state_of}
use Rattle.asking.specs.Listing.{Lists, all_fields_of, all_fields_leaves, settled_all_fields_of, settled_all_fields_leaves}
use Rattle.soundness.specs.Sound.{steps, live_count, sound_apart, sound_of}
use Rattle.soundness.specs.Recount.{recount_answer, recount_leaves}
use Rattle.migrating.specs.Migrate.{migrate_answer, migrate_leaves}
use Rattle.migrating.specs.Readings.{state_by, view_by, settled_view_by, field_by, settled_field_by, AllFields, all_fields_by, settled_all_fields_by, steps_by, live_count_by, apart_by, sound_by}

-- ---- what the library gives of a store is what a rule gives of one

-- all fields in one call, both that it tells
abbrev pub all_fields_in : Store → ℕ → Lists → AllFields
all_fields_in s m l = record { told = all_fields_of s m l; left = all_fields_leaves s m l }

abbrev pub settled_all_fields_in : Store → ℕ → Lists → AllFields
settled_all_fields_in s m l = record { told = settled_all_fields_of s m l; left = settled_all_fields_leaves s m l }

pub record GivenBy (from : ℕ) (s s' : Store) : Type 0 where
  -- how every MFN's record stands, and every view of it: by tag and occurrence, by index, all fields in one call
  pub state : (m : ℕ) → state_of s' m ≡ state_by from s m
  pub view : (m tag occ : ℕ) → view_of s' m tag occ ≡ view_by from s m tag occ
  pub settled : (m tag occ : ℕ) → settled_view_of s' m tag occ ≡ settled_view_by from s m tag occ
  pub field : (m i : ℕ) → field_of s' m i ≡ field_by from s m i
  pub settled_field : (m i : ℕ) → settled_field_of s' m i ≡ settled_field_by from s m i
  pub all_fields : (m : ℕ) (l : Lists) → all_fields_in s' m l ≡ all_fields_by from s m l
  pub settled_all_fields : (m : ℕ) (l : Lists) → settled_all_fields_in s' m l ≡ settled_all_fields_by from s m l
  -- the steps, whether the store is sound apart from RECCNT, and the number that RECCNT should hold
  pub steps_are : steps s'.mst 64 ≡ steps_by from s.mst
  pub apart : sound_apart s' ≡ apart_by from s
  pub live : live_count s' ≡ live_count_by from s

-- the rule of today gives what the library gives, and a store is sound by it where the library says so
pub record AsToday (s : Store) : Type 0 where
  pub given : GivenBy offsets_from s s
  pub sound : sound_of s ≡ sound_by offsets_from s

-- ---- which bytes change

-- NXTMFP is one more; no other byte of the MST changes, and none of the XRF
pub record ChangesCount (s s' : Store) : Type 0 where
  pub long : length s'.mst ≡ length s.mst
  pub count : u16_at s'.mst 12 ≡ u16_at s.mst 12 + 1
  pub kept : (i : ℕ) → (OffsetByte i → ⊥) → get_or s'.mst i 0 ≡ get_or s.mst i 0
  pub xrf : s'.xrf ≡ s.xrf

-- a part of the MST is as it was
abbrev pub SameBytes : Store → Store → ℕ → ℕ → Type 0
SameBytes s s' start len = part s'.mst start len ≡ part s.mst start len

-- ---- what a rule gave of the card is what the library now gives of it

pub record Keeps (from : ℕ) (s s' : Store) : Type 0 where
  pub right : control_fine s' ≡ true
  pub next : next_of s'.mst ≡ next_of s.mst
  pub end : end_of s'.mst ≡ end_from from s.mst
  pub given : GivenBy from s s'
  -- and the bytes that it shows are the same
  pub view_bytes : (m tag occ : ℕ) → SameBytes s s' (view_of s' m tag occ).start (view_of s' m tag occ).len
  pub settled_bytes : (m tag occ : ℕ) → SameBytes s s' (settled_view_of s' m tag occ).start (settled_view_of s' m tag occ).len
  pub field_bytes : (m i : ℕ) → SameBytes s s' (field_of s' m i).start (field_of s' m i).len
  pub settled_field_bytes : (m i : ℕ) → SameBytes s s' (settled_field_of s' m i).start (settled_field_of s' m i).len

-- ---- THE CLAIM OF A MIGRATION: what the old rule gave of the card

pub record Migrates (s : Store) : Type 0 where
  pub changes : migrate_answer s ≡ Ok tt → ChangesCount s (migrate_leaves s)
  pub keeps : migrate_answer s ≡ Ok tt → Keeps old_offsets_from s (migrate_leaves s)
  -- a store that is sound by the old rule apart from RECCNT is migrated, whatever RECCNT holds, and is sound apart from RECCNT then
  pub done : apart_by old_offsets_from s ≡ true → migrate_answer s ≡ Ok tt
  pub apart : apart_by old_offsets_from s ≡ true → sound_apart (migrate_leaves s) ≡ true
  -- one that is sound by the old rule, RECCNT included, is sound then; and it is sound then only if it was so
  pub sound : sound_by old_offsets_from s ≡ true → sound_of (migrate_leaves s) ≡ true
  pub as_sound : migrate_answer s ≡ Ok tt → sound_of (migrate_leaves s) ≡ sound_by old_offsets_from s
  -- otherwise a recount makes it so, and keeps what was kept
  pub recounted : apart_by old_offsets_from s ≡ true → sound_of (recount_leaves (migrate_leaves s)) ≡ true
  pub still_keeps : apart_by old_offsets_from s ≡ true → Keeps old_offsets_from s (recount_leaves (migrate_leaves s))
  -- a second migration answers 2
  pub once : migrate_answer s ≡ Ok tt → migrate_answer (migrate_leaves s) ≡ Err BadControl
  -- and so does every migration of a store that is right by the rule of today
  pub today : lengths_permitted s ≡ true → control_fine s ≡ true → migrate_answer s ≡ Err BadControl

-- ---- THE CLAIM OF A RECOUNT, of any two buffers: what the library itself gave of the card, whatever RECCNT held

abbrev pub RecountKeeps : Store → Type 0
RecountKeeps s = recount_answer s ≡ Ok tt → Keeps offsets_from s (recount_leaves s)
