-- A create that is done on a sound store, beside the ledger's create.
use Prim.Native.Nat.{ℕ, ◌+◌}
use mathlib.Core.Path.{◌≡◌, refl}
use mathlib.Core.Bool.{false}
use mathlib.Core.List.{List, []}
use lib.IntN.{pos}
use Rattle.files.specs.Control.{count_of}
use Rattle.soundness.specs.Sound.{live_count}
use Rattle.soundness.proofs.Live.{created_counts}
use Rattle.layout.specs.Sizes.{end_moved}
use Rattle.files.specs.Control.{next_of, end_of}
use Rattle.layout.specs.declared.entry.Mark.TheVariants.{New}
use Rattle.drafts.specs.Bytes.{need_for}
use Rattle.drafts.proofs.Draftable.{draft_draftable}
use Rattle.store.specs.Store.{store}
use Rattle.drafts.specs.Draft.{Draft, fields_in}
use Rattle.versions.specs.Written.{place_at_end, created_mst, created_xrf}
use Rattle.soundness.proofs.SoundEntries.{Sound, sound}
use Rattle.soundness.proofs.Leaving.{Leaves}
use Rattle.soundness.proofs.Writes.{created_leaves}
use Rattle.soundness.proofs.Asked.{CreateAsked}
use Rattle.ledger.specs.Call.{create}
use Rattle.ledger.specs.LedgerSteps.{applied, effect_of}
use Rattle.ledger.specs.LedgerOf.{ledger_of}
use Rattle.ledger.proofs.Changing.{ledger_more}
use Rattle.ledger.proofs.Either.{Left}

module _ (mst xrf : List ℕ) (d : Draft) (s : Sound mst xrf) (c : count_of mst ≡ pos (live_count (store mst xrf))) (a : CreateAsked mst xrf d) where
  create_leaves : Leaves mst xrf (created_mst mst (fields_in d)) (created_xrf mst xrf) (next_of mst) (end_moved (end_of mst + need_for (fields_in d))) (next_of mst + 1)
      (place_at_end mst false New) (need_for (fields_in d)) (fields_in d) []
  create_leaves = created_leaves s (fields_in d) (draft_draftable d.tags d.lens d.bytes a.draft) a.below a.room

  pub create_left : Left (store (created_mst mst (fields_in d)) (created_xrf mst xrf)) (applied (ledger_of (store mst xrf)) (effect_of (ledger_of (store mst xrf)) (create d)))
  unfolding effect_of ledger_of
  create_left =
      record {
        ledger = ledger_more s create_leaves s.numbers.next_low refl refl;
        sound = sound (created_mst mst (fields_in d)) (created_xrf mst xrf) create_leaves.sound (created_counts s c (fields_in d) create_leaves refl);
      }
