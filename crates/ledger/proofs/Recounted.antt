-- A RECOUNT KEEPS THE LEDGER: RECCNT is no part of what the ledger reads, so the store that a recount leaves, which is sound, has the ledger that its
-- bytes gave before, and demand 3 goes on from there.
use Rattle.std.specs.Prelude.{Ok}
use Prim.Native.Nat.{ℕ, ◌-◌, ◌≤◌, ◌<◌}
use native.Mathlib.Omega.{arith}
use mathlib.Core.Path.{◌≡◌, refl, ap, ◌∙◌}
use mathlib.Core.Bool.{Bool, true, false, cond}
use mathlib.Core.List.{List}
use lib.IntN.{ℤ, pos}
use Rattle.files.specs.Control.{next_of, count_is, with_count}
use Rattle.files.proofs.Count.{count_length, next_of_count, end_of_count}
use Rattle.store.specs.Store.{Store, store}
use Rattle.soundness.specs.Sound.{live_count}
use Rattle.soundness.specs.Recount.{recount_answer, recounted_mst, recount_leaves}
use Rattle.soundness.proofs.SoundEntries.{Sound, apart_stands}
use Rattle.soundness.proofs.Recounting.{control_in, count_entry, count_same_reading}
use Rattle.soundness.proofs.Recount.{recount_left, recounts}
use Rattle.ledger.specs.LedgerOf.{item_for, item_at, ledger_of, SoundStore}
use Rattle.ledger.specs.RecordCount.{RecountKeepsLedger}
use Rattle.ledger.proofs.Items.{tabulate_same}
use Rattle.ledger.proofs.Changing.{item_stands}
use Rattle.ledger.proofs.Theorem.{kept, answers_are_the_ledgers}

-- RECCNT is written
module _ {mst xrf : List ℕ} (s : Sound mst xrf) (z : ℤ) where
  item_kept : (o : ℕ) → 1 ≤ o → o < next_of mst → item_at (store (with_count mst z) xrf) o ≡ item_at (store mst xrf) o
  item_kept o low high =
      ap (item_for (with_count mst z)) (count_entry s z o) ∙ item_stands (with_count mst z) (s.entries o low high) (λ p e. count_same_reading s z o p low high e)

  ledger_kept : ledger_of (store (with_count mst z) xrf) ≡ ledger_of (store mst xrf)
  unfolding ledger_of
  ledger_kept =
      let long = control_in s z in
      rw (
        count_length mst z long,
        end_of_count mst z long,
        next_of_count mst z long,
        tabulate_same (next_of mst - 1) (item_at (store (with_count mst z) xrf)) (item_at (store mst xrf)) (λ o lo hi. item_kept o lo (omega arith)),
      )

module _ (s : Store) (d : recount_answer s ≡ Ok tt) where
  recounted_ledger : ledger_of (recount_leaves s) ≡ ledger_of s
  unfolding recounted_mst
  recounted_ledger =
      ap ledger_of (recount_left s.mst s.xrf d) ∙ go (count_is s.mst (live_count s))
    where
      go : (b : Bool) → ledger_of (store (cond b s.mst (with_count s.mst (pos (live_count s)))) s.xrf) ≡ ledger_of s
      go true = refl
      go false = ledger_kept (apart_stands s.mst s.xrf ((recounts s).only d)) (pos (live_count s))

  sound_then : SoundStore (recount_leaves s)
  sound_then = (recounts s).sound d

pub recount_keeps_ledger : (s : Store) → RecountKeepsLedger s
recount_keeps_ledger s =
    record {
      kept = λ d. kept (recount_leaves s) (sound_then s d) (ledger_of s) (recounted_ledger s d);
      answered = λ d cs. rw (recounted_ledger s d) at (answers_are_the_ledgers (recount_leaves s) (sound_then s d) cs);
    }
