-- What a migration returns, by what it found: a law for each `return`, and what the write asks.
use Rattle.std.specs.Prelude.{Ok, Err}
use Prim.Native.Nat.{ℕ, ◌≤◌}
use mathlib.Core.Path.{◌≡◌, sym, ◌∙◌}
use mathlib.Core.Bool.{Bool, true, false, not}
use mathlib.Core.List.{List}
use lib.ListN.{length}
use borrow.Author.Tests.{not-false}
use Rattle.word.specs.Integer.{u16_at}
use Rattle.layout.specs.Sizes.{offset_most, capacity_of}
use Rattle.files.specs.Control.{old_control_right, migrated_mst}
use Rattle.files.proofs.ControlRecord.{migrate_asks}
use Rattle.store.specs.Store.{store}
use Rattle.store.specs.Answer.{number_of, after}
use Rattle.store.specs.Reading.{lengths_permitted}
use Rattle.store.specs.declared.answer.Refusal.TheVariants.{BadLength, BadControl}
use Rattle.migrating.specs.Migrate.{migrate_answer, migrate_leaves}

module _ (mst xrf : List ℕ) (b : Bool) (e : b ≡ lengths_permitted (store mst xrf)) where
  pub migrate_lengths : not b ≡ true → ((Err BadLength) ≡ migrate_answer (store mst xrf)) × (store mst xrf ≡ migrate_leaves (store mst xrf))
  unfolding migrate_answer migrate_leaves after number_of
  migrate_lengths h = (rw (← e, h), rw (← e, h))

  module _ (h : not b ≡ false) (c : ℕ) (k : c ≡ capacity_of (length xrf)) (r : Bool) (f : r ≡ old_control_right mst c) where
    pub migrate_control : not r ≡ true → ((Err BadControl) ≡ migrate_answer (store mst xrf)) × (store mst xrf ≡ migrate_leaves (store mst xrf))
    unfolding migrate_answer migrate_leaves after number_of
    migrate_control i = (rw (← e, h, ← k, ← f, i), rw (← e, h, ← k, ← f, i))

    pub migrate_done : not r ≡ false → (m : List ℕ) → m ≡ migrated_mst mst → ((Ok tt) ≡ migrate_answer (store mst xrf)) × (store m xrf ≡ migrate_leaves (store mst xrf))
    unfolding migrate_answer migrate_leaves after number_of
    migrate_done i m q = (rw (← e, h, ← k, ← f, i), rw (← e, h, ← k, ← f, i, q))

pub migrate_write : (mst : List ℕ) (c : ℕ) (r : Bool) → r ≡ old_control_right mst c → not r ≡ false → (64 ≤ length mst) × (u16_at mst 12 ≤ offset_most)
migrate_write mst c r f i = migrate_asks mst c (sym f ∙ not-false r i)
