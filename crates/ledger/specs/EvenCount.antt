-- Request C-12: an even NXTMFP is refusal 2 in every call but format, which asks of the lengths alone, and a migration: in the calls of demand
-- 3's list, and in those that stand beside it, which only show something. In a list of MFNs (C-13) it is every answer of the list.
use Rattle.std.specs.Prelude.{Err}
use Rattle.std.specs.Prelude.{ℕ, ◌%◌, ◌≡◌, true, false, List, []}
use Rattle.word.specs.Integer.{u16_at}
use Rattle.store.specs.Store.{Store}
use Rattle.store.specs.Reading.{lengths_permitted}
use Rattle.store.specs.declared.answer.Refusal.TheVariants.{BadControl}
use Rattle.layout.specs.declared.entry.Mark.TheVariants.{Settled}
use Rattle.views.specs.Fields.{handed_out, field_of, settled_field_of}
use Rattle.asking.specs.Listing.{Lists, counted, all_fields_of, all_fields_leaves, settled_all_fields_of, settled_all_fields_leaves}
use Rattle.asking.specs.State.{next_shown, next_free_of, state_shown, state_of}
use Rattle.settling.specs.Theorems.{EachAnswers}
use Rattle.ledger.specs.Call.{Call, format, migrate, settle_list, plain}
use Rattle.ledger.specs.StoreRun.{answer_s, next_s}

-- a call answers 2, with no MFN and an empty field, and changes nothing
pub record Refused2 (s : Store) (c : Call) : Type 0 where
  pub answer : answer_s s c ≡ plain (Err BadControl)
  pub nothing : next_s s c ≡ s

-- the calls beside the list answer 2, and show nothing then
pub record ShowsNothing (s : Store) : Type 0 where
  pub field : (m i : ℕ) → field_of s m i ≡ handed_out (Err BadControl) 0 [] 0
  pub settled_field : (m i : ℕ) → settled_field_of s m i ≡ handed_out (Err BadControl) 0 [] 0
  pub fields : (m : ℕ) (l : Lists) → (all_fields_of s m l ≡ counted (Err BadControl) []) × (all_fields_leaves s m l ≡ l)
  pub settled_all : (m : ℕ) (l : Lists) → (settled_all_fields_of s m l ≡ counted (Err BadControl) []) × (settled_all_fields_leaves s m l ≡ l)
  pub next : next_free_of s ≡ next_shown (Err BadControl) []
  pub state : (m : ℕ) → state_of s m ≡ state_shown (Err BadControl) Settled false

-- THE CLAIM, of any two buffers of permitted lengths
pub record EvenRefused (s : Store) : Type 0 where
  pub listed : (c : Call) → (c ≡ format → ⊥) → (c ≡ migrate → ⊥) → ((ms : List ℕ) (lent : ℕ) → c ≡ settle_list ms lent → ⊥) → Refused2 s c
  pub each : (ms : List ℕ) → EachAnswers s ms (Err BadControl)
  pub beside : ShowsNothing s

abbrev pub EvenIsRefused : Type 0
EvenIsRefused = (s : Store) → lengths_permitted s ≡ true → u16_at s.mst 12 % 2 ≡ 0 → EvenRefused s
