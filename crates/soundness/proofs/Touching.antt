-- THE THEOREM: of a sound store, a call but format that is done touches only what belongs to its MFN, new bytes at the end and the control
-- integers named. What each call leaves is told by `Leaves`, which has it; what a settle and a revert leave alone besides is read off their writes.
use Rattle.std.specs.Prelude.{Ok}
use Prim.Native.Nat.{ℕ, ◌+◌, ◌≤◌}
use native.Mathlib.Omega.{arith}
use mathlib.Core.Path.{◌≡◌, refl}
use mathlib.Core.Bool.{Bool, true, false}
use mathlib.Core.List.{List}
use lib.ListN.{length, replicate}
use Rattle.word.proofs.Overwrite.{overwrite_other}
use Rattle.layout.specs.Entry.{place_address}
use lib.IntN.{ℤ, suc_ℤ}
use Rattle.files.specs.Control.{next_of, count_of, counted_more}
use Rattle.files.proofs.Count.{count_length, count_kept}
use Rattle.soundness.proofs.Recounting.{control_in}
use Rattle.files.specs.NamedBytes.{NoByte, CountByte, BackByte}
use Rattle.layout.specs.declared.entry.Place.{Place}
use Rattle.files.proofs.ControlMoves.{out_of}
use Rattle.drafts.specs.Bytes.{need_for}
use Rattle.drafts.proofs.Draftable.{draft_draftable}
use Rattle.store.specs.Store.{Store, store}
use Rattle.drafts.specs.Draft.{Draft, fields_in}
use Rattle.store.specs.Reading.{place_for, is_settled, leader_at, current_fields}
use Rattle.store.proofs.Gates.{MfnFacts, mfn_facts, after_done}
use Rattle.writing.specs.Refusals.{create_answer, update_answer, delete_answer, settle_answer, revert_answer}
use Rattle.versions.specs.Written.{update_appends, created_mst, created_xrf, updated_mst, updated_xrf, deleted_mst, deleted_xrf, settled_mst, settled_xrf, reverted_mst, reverted_xrf}
use Rattle.writing.specs.Calls.{create_leaves, update_leaves, delete_leaves, settle_leaves, revert_leaves}
use Rattle.soundness.specs.Sound.{sound_of}
use Rattle.soundness.specs.Touching.{Changes, TouchesOnly, CallsTouchOnly}
use Rattle.soundness.proofs.Stepping.{member_facts}
use Rattle.soundness.proofs.SoundEntries.{Sound, stands, at_stands}
use Rattle.soundness.proofs.Writes.{created_leaves, update_appends_lem, update_stays, delete_appends, delete_stays, settled_leaves, reverted_leaves}
use Rattle.soundness.proofs.Asked.{There, CreateAsked, create_asked, UpdateAsked, update_asked, DeleteAsked, delete_asked, settle_asked, RevertAsked, revert_asked}

module _ {mst xrf : List ℕ} (s : Sound mst xrf) where
  abbrev whole : Store
  whole = store mst xrf

  create_touches : (d : Draft) → create_answer whole d ≡ Ok tt → TouchesOnly whole (create_leaves whole d) (next_of mst)
  unfolding create_leaves
  create_touches d e =
      let a : CreateAsked mst xrf d = create_asked s d e in
      rw (after_done (create_answer whole d) (store (created_mst mst (fields_in d)) (created_xrf mst xrf)) whole e)
      (created_leaves s (fields_in d) (draft_draftable d.tags d.lens d.bytes a.draft) a.below a.room).touches

  module _ (m : ℕ) where
    abbrev p : Place
    p = place_for whole m

    update_touches : (d : Draft) → update_answer whole m d ≡ Ok tt → TouchesOnly whole (update_leaves whole m d) m
    unfolding update_leaves
    update_touches d e =
        rw (after_done (update_answer whole m d) (store (updated_mst mst m p (fields_in d)) (updated_xrf mst xrf m p (fields_in d))) whole e)
        (go (update_appends p (leader_at mst p) (need_for (fields_in d))) refl)
      where
        a : UpdateAsked s m d
        a = update_asked s m d e

        go : (b : Bool) → update_appends p (leader_at mst p) (need_for (fields_in d)) ≡ b
            → TouchesOnly whole (store (updated_mst mst m p (fields_in d)) (updated_xrf mst xrf m p (fields_in d))) m
        go true h =
            let r : MfnFacts mst m = mfn_facts mst m a.here.known in
            (update_appends_lem s m p r.low r.high a.here.entry a.live (fields_in d) (draft_draftable d.tags d.lens d.bytes a.draft) h (a.room h)
            ).touches
        go false h =
            let r : MfnFacts mst m = mfn_facts mst m a.here.known in
            (update_stays s m p r.low r.high a.here.entry a.live (fields_in d) (draft_draftable d.tags d.lens d.bytes a.draft) h).touches

    delete_touches : delete_answer whole m ≡ Ok tt → TouchesOnly whole (delete_leaves whole m) m
    unfolding delete_leaves
    delete_touches e =
        rw (after_done (delete_answer whole m) (store (deleted_mst mst m p (current_fields mst p)) (deleted_xrf mst xrf m p)) whole e) (go (is_settled p.mark) refl)
      where
        a : DeleteAsked s m
        a = delete_asked s m e

        go : (b : Bool) → is_settled p.mark ≡ b → TouchesOnly whole (store (deleted_mst mst m p (current_fields mst p)) (deleted_xrf mst xrf m p)) m
        go true h = let r : MfnFacts mst m = mfn_facts mst m a.here.known in (delete_appends s m p r.low r.high a.here.entry a.live h (a.room h)).touches
        go false h = let r : MfnFacts mst m = mfn_facts mst m a.here.known in (delete_stays s m p r.low r.high a.here.entry a.live h).touches

    -- a settle
    module _ (e : settle_answer whole m ≡ Ok tt) where
      settle_is : settle_leaves whole m ≡ store (settled_mst mst p) (settled_xrf xrf m p)
      unfolding settle_leaves
      settle_is = after_done (settle_answer whole m) (store (settled_mst mst p) (settled_xrf xrf m p)) whole e

      settled : TouchesOnly whole (store (settled_mst mst p) (settled_xrf xrf m p)) m
      settled =
          let h : There mst xrf m = (settle_asked s m e).here in
          let r : MfnFacts mst m = mfn_facts mst m h.known in
          (settled_leaves s m p r.low r.high h.entry).touches

      pointer_in : place_address p + 6 ≤ length mst
      pointer_in =
          let h : There mst xrf m = (settle_asked s m e).here in
          let r : MfnFacts mst m = mfn_facts mst m h.known in
          let g = member_facts mst (place_address p) 64 s.way (at_stands s m p r.low r.high h.entry).step in
          let end = s.numbers.end_in in
          omega arith

      settle_touches : TouchesOnly whole (settle_leaves whole m) m
      settle_touches = rw settle_is settled

      pointer_only : Changes whole (settle_leaves whole m) m (BackByte (place_address p))
      unfolding settled_mst
      pointer_only =
          rw settle_is
          (record {
            mst_length = settled.mst_length;
            xrf_length = settled.xrf_length;
            mst_kept = λ i off. overwrite_other mst (place_address p + 6) (replicate 6 0) i pointer_in (out_of (place_address p + 6) 6 i off);
            xrf_kept = settled.xrf_kept;
          })

    -- a revert
    module _ (e : revert_answer whole m ≡ Ok tt) where
      revert_is : revert_leaves whole m ≡ store (reverted_mst mst p) (reverted_xrf mst xrf m p)
      unfolding revert_leaves
      revert_is = after_done (revert_answer whole m) (store (reverted_mst mst p) (reverted_xrf mst xrf m p)) whole e

      reverted : TouchesOnly whole (store (reverted_mst mst p) (reverted_xrf mst xrf m p)) m
      reverted =
          let a : RevertAsked s m = revert_asked s m e in
          let r : MfnFacts mst m = mfn_facts mst m a.here.known in
          (reverted_leaves s m p r.low r.high a.here.entry a.changed).touches

      revert_touches : TouchesOnly whole (revert_leaves whole m) m
      revert_touches = rw revert_is reverted

      entry_only : p.deleted ≡ false → Changes whole (revert_leaves whole m) m NoByte
      unfolding reverted_mst
      entry_only live =
          rw (revert_is, live)
          (record { mst_length = refl; xrf_length = reverted.xrf_length; mst_kept = λ i off. refl; xrf_kept = reverted.xrf_kept })

      count_only : p.deleted ≡ true → Changes whole (revert_leaves whole m) m CountByte
      unfolding reverted_mst counted_more
      count_only gone =
          let z : ℤ = suc_ℤ (count_of mst) in
          let long = control_in s z in
          rw (revert_is, gone)
          (record {
            mst_length = count_length mst z long;
            xrf_length = reverted.xrf_length;
            mst_kept = count_kept mst z long;
            xrf_kept = reverted.xrf_kept;
          })

pub calls_touch_only : (s : Store) → sound_of s ≡ true → CallsTouchOnly s
calls_touch_only s e =
    let f : Sound s.mst s.xrf = stands s.mst s.xrf e in
    record {
      create = create_touches f;
      update = update_touches f;
      delete = delete_touches f;
      settle = settle_touches f;
      revert = revert_touches f;
      settle_pointer = pointer_only f;
      revert_deleted = count_only f;
      revert_nothing = entry_only f;
    }

-- a call that writes nothing touches nothing
pub nothing_touched : (s : Store) (m : ℕ) (May : ℕ → Type 0) → Changes s s m May
nothing_touched s m May = record { mst_length = refl; xrf_length = refl; mst_kept = λ i off. refl; xrf_kept = λ i off. refl }
