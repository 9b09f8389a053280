-- What each call that is done leaves of a sound store: its write is one of the two kinds of `Leaving`. A create and a version at the end are
-- records at the end; a version in place and a settle write within m's own record; a revert writes no byte of the MST. What is left to show is
-- the back pointer of the new version, and that the settled version behind it still stands.
use Prim.Native.Nat.{ℕ, ◌+◌, ◌-◌, ◌≤◌, ◌<◌}
use native.Mathlib.Omega.{arith}
use mathlib.Core.Path.{◌≡◌, refl, sym, ap, ◌∙◌}
use mathlib.Core.Bool.{Bool, true, false, cond}
use mathlib.Core.List.{List, []}
use lib.Dec.{ltb}
use lib.ListN.{length, replicate}
use borrow.Author.Tests.{eq-eqb, ltb-false}
use Rattle.word.specs.Overwrite.{overwrite, part}
use Rattle.layout.specs.Sizes.{mst_permitted, xrf_permitted, capacity_of, address_of, end_moved}
use Rattle.layout.specs.Entry.{well_placed, placed, place_address}
use Rattle.files.specs.CrossReference.{with_entry, formatted_xrf}
use lib.IntN.{suc_ℤ, pred_ℤ}
use Rattle.files.specs.Control.{next_of, end_of, formatted_mst, count_of, with_next, with_end, counted_more, counted_less}
use Rattle.files.proofs.Count.{count_moved}
use Rattle.layout.specs.Leader.{leader_of}
use Rattle.files.specs.NamedBytes.{ControlByte}
use Rattle.layout.specs.declared.entry.Mark.{Mark}
use Rattle.layout.specs.declared.entry.Mark.TheVariants.{Settled, Changed, New}
use Rattle.layout.specs.declared.entry.Place.{Place}
use Rattle.layout.specs.declared.entry.Entry.TheVariants.{At}
use Rattle.layout.specs.declared.leader.Leader.{Leader}
use Rattle.word.proofs.Tests.{false_true, or_false}
use Rattle.layout.proofs.Facts.{well_placed_facts, well_placed_later, encodable}
use Rattle.files.proofs.ControlRecord.{formatted_length, formatted_next, formatted_end, formatted_right}
use Rattle.files.proofs.ControlMoves.{EndPlace, ControlMoved, both_moved}
use Rattle.files.proofs.CrossReference.{entry_well_placed, formatted_xrf_length, formatted_head, formatted_free}
use Rattle.record.specs.Fields.{Field, fields_of}
use Rattle.drafts.specs.Bytes.{need_for, record_bytes, leader_for}
use Rattle.record.proofs.Facts.{LeaderFacts, no_back_from}
use Rattle.drafts.proofs.Draftable.{Draftable, reads_draftable, reads_need}
use Rattle.record.proofs.Local.{ReadsAs, reads_leader, reads_settled, with_back}
use Rattle.drafts.proofs.Trip.{Writable, need_writable, written_length, written_placed}
use Rattle.store.specs.Reading.{lengths_permitted, entry_for, is_settled, record_at, leader_at, back_address, back_fine, settled_record, shown_settled, current_fields}
use Rattle.versions.specs.Written.{with_record, appended, place_at_end, created_mst, created_xrf, new_back_block, new_back_offset, pending_mark, version_leader, version_appended, version_in_place, updated_mst, updated_xrf, deleted_mst, deleted_xrf, settled_mst, settled_xrf, reverted_mst, reverted_xrf, update_appends}
use Rattle.store.proofs.Gates.{lengths_both, fine_facts, back_changed, back_settled, back_new, settled_facts}
use Rattle.soundness.proofs.Stepping.{arrives_end, member_facts}
use Rattle.soundness.proofs.SoundEntries.{PlaceStands, Sound, sound_from, at_stands}
use Rattle.soundness.proofs.Moves.{MstMoved, stays, goes_up, place_reads, settled_reads, reads_kept, step_before, settled_kept, xrf_entry, mst_same}
use Rattle.soundness.proofs.Leaving.{Leaves, SettledAt, leaves, mfn_small, known_in, entry_written, back_fine_changed, back_fine_none, back_fine_same, end_address, over_right, over_end, end_written, end_moves, end_leaves, within_moves, within_leaves, within_written}
use Rattle.soundness.proofs.Recounting.{counted_leaves}
use Rattle.store.specs.Store.{store}

-- ---- marks

new_not_changed : New ≡ Changed → ⊥
new_not_changed c = let z : ◌≡◌ {A = ℕ} 0 1 = cc in omega arith

settled_not_changed : Settled ≡ Changed → ⊥
settled_not_changed c = let z : ◌≡◌ {A = ℕ} 0 1 = cc in omega arith

-- ---- create

module _ {mst xrf : List ℕ} (s : Sound mst xrf) (fs : List Field) (d : Draftable fs) (below : next_of mst ≤ capacity_of (length xrf))
    (room : end_of mst + need_for fs ≤ length mst) where
  created_writable : Writable (next_of mst) (need_for fs) 0 0 fs
  created_writable = need_writable (next_of mst) 0 0 fs (mfn_small s (next_of mst) below) (omega arith) (omega arith) d

  -- the end, NXTMFN and RECCNT
  created_control : ControlMoved (with_record mst (end_of mst) (leader_for (next_of mst) (need_for fs) 0 0 false (length fs)) fs) (created_mst mst fs) ControlByte
      (capacity_of (length xrf)) (next_of mst + 1) (end_moved (end_of mst + need_for fs))
  unfolding created_mst appended counted_more
  created_control =
      let f = s.sizes in
      let over : List ℕ = with_record mst (end_of mst) (leader_for (next_of mst) (need_for fs) 0 0 false (length fs)) fs in
      let end : EndPlace (length over) (end_moved (end_of mst + need_for fs)) = over_end s (next_of mst) (need_for fs) 0 0 false fs created_writable room in
      let moved : List ℕ = with_next (with_end over (end_moved (end_of mst + need_for fs))) (next_of mst + 1) in
      count_moved over moved (suc_ℤ (count_of moved)) (omega (arith, end.low, end.high))
      (both_moved over (capacity_of (length xrf)) (end_moved (end_of mst + need_for fs))
      (over_right s (next_of mst) (need_for fs) 0 0 false fs created_writable room)
      end
      (next_of mst + 1) (omega arith) (omega arith) (omega arith))

  pub created_leaves : Leaves mst xrf (created_mst mst fs) (created_xrf mst xrf) (next_of mst) (end_moved (end_of mst + need_for fs)) (next_of mst + 1)
      (place_at_end mst false New) (need_for fs) fs []
  unfolding created_xrf
  created_leaves =
      let first : Leader = leader_for (next_of mst) (need_for fs) 0 0 false (length fs) in
      end_leaves s (next_of mst) (need_for fs) 0 0 false fs created_writable room created_control (goes_up created_control.next_is refl)
      s.numbers.next_low below New []
      (back_fine_none (end_of (created_mst mst fs)) (place_at_end mst false New) first refl (no_back_from first refl refl))
      (λ c. absurd (new_not_changed c))

-- ---- a new version: its back pointer, and the settled version behind it

module _ {mst xrf : List ℕ} (s : Sound mst xrf) (m : ℕ) (p : Place) (e : entry_for (store mst xrf) m ≡ At p) (f : PlaceStands mst m p) where
  own_well_placed : well_placed (end_of mst) p.block.0 p.offset ≡ true
  own_well_placed = entry_well_placed xrf (end_of mst) m p e

  own_back : back_fine (end_of mst) p (leader_at mst p) ≡ true
  own_back = (fine_facts mst m p f.fine).back

  -- the back pointer fits its bytes
  new_back : (new_back_block p (leader_at mst p) < 4294967296) × (new_back_offset p (leader_at mst p) < 65536)
  new_back = go p.mark refl
    where
      small : (b q : ℕ) → well_placed (end_of mst) b q ≡ true → (b < 4294967296) × (q < 65536)
      small b q w = let g = s.sizes in let h = s.numbers in let c = encodable (end_of mst) b q w (omega arith) in (omega arith, omega arith)

      go : (k : Mark) → p.mark ≡ k → (new_back_block p (leader_at mst p) < 4294967296) × (new_back_offset p (leader_at mst p) < 65536)
      go Settled c = rw c (small p.block.0 p.offset own_well_placed)
      go Changed c =
          let b = back_changed (end_of mst) p (leader_at mst p) own_back c in
          rw c (small (leader_at mst p).mfbwb.0 (leader_at mst p).mfbwp b.placed)
      go New c = let b = back_new (end_of mst) p (leader_at mst p) own_back c in rw (c, b.block, b.offset) (omega arith, omega arith)

  -- at the end
  end_back : (end : ℕ) (q : Place) (l : Leader) → end_of mst ≤ end → l.mfbwb.0 ≡ new_back_block p (leader_at mst p) → l.mfbwp ≡ new_back_offset p (leader_at mst p)
      → q.mark ≡ pending_mark p.mark → place_address q ≡ end_of mst → back_fine end q l ≡ true
  end_back end q l h block offset mark at = go p.mark refl
    where
      by_address : (b o : ℕ) → q.mark ≡ Changed → l.mfbwb.0 ≡ b → l.mfbwp ≡ o → well_placed (end_of mst) b o ≡ true → back_fine end q l ≡ true
      by_address b o c i j w =
          let g = well_placed_facts (end_of mst) b o w in
          back_fine_changed end q l c (rw (i, j) (well_placed_later (end_of mst) b o w end h)) (λ z. omega arith)

      go : (k : Mark) → p.mark ≡ k → back_fine end q l ≡ true
      go Settled c = by_address p.block.0 p.offset (mark ∙ ap pending_mark c) (block ∙ rw c) (offset ∙ rw c) own_well_placed
      go Changed c =
          by_address (leader_at mst p).mfbwb.0 (leader_at mst p).mfbwp (mark ∙ ap pending_mark c) (block ∙ rw c) (offset ∙ rw c)
          (back_changed (end_of mst) p (leader_at mst p) own_back c).placed
      go New c =
          let b = back_new (end_of mst) p (leader_at mst p) own_back c in
          back_fine_none end q l (rw (mark, c) refl) (no_back_from l (block ∙ rw (c, b.block)) (offset ∙ rw (c, b.offset)))

  module _ {mst' : List ℕ} {May : ℕ → Type 0} {at n : ℕ} (w : MstMoved mst xrf mst' May m at n) where
    -- the settled version of a changed record
    changed_settled : (a : ℕ) → a ≡ back_address (leader_at mst p) → p.mark ≡ Changed → SettledAt mst' m a (fields_of (settled_record mst p))
    changed_settled a z c =
        let r = settled_kept s w p e f c in
        rw z
        (record {
          step = w.steps_kept (back_address (leader_at mst p)) (f.settled c).step;
          right = r.right;
          no_back_lem = rw r.leader (settled_facts mst m p f.fine c (f.settled c).fine).no_back_lem;
          fields = r.fields;
        })

    -- a settled record that is left where it is
    old_settled : end_of mst ≤ at → p.deleted ≡ false → p.mark ≡ Settled → SettledAt mst' m (place_address p) (current_fields mst p)
    old_settled h live c =
        let r : ReadsAs (record_at mst' p) m p.deleted (leader_at mst p) (current_fields mst p) =
        reads_kept s w m (place_address p) f.step (step_before s w h (place_address p) f.step) (place_reads f) in
        let b = back_settled (end_of mst) p (leader_at mst p) own_back c in
        record {
          step = w.steps_kept (place_address p) f.step;
          right = rw live at r.right;
          no_back_lem = rw r.leader (no_back_from (leader_at mst p) b.block b.offset);
          fields = r.fields;
        }

    -- whichever it is, under the mark of the new version
    version_settled : end_of mst ≤ at → p.deleted ≡ false → pending_mark p.mark ≡ Changed
        → SettledAt mst' m (address_of (new_back_block p (leader_at mst p)) (new_back_offset p (leader_at mst p))) (fields_of (shown_settled mst p))
    version_settled h live pending = go p.mark refl
      where
        go : (k : Mark) → p.mark ≡ k
            → SettledAt mst' m (address_of (new_back_block p (leader_at mst p)) (new_back_offset p (leader_at mst p))) (fields_of (shown_settled mst p))
        go Settled c = rw c (old_settled h live c)
        go Changed c = rw c (changed_settled (back_address (leader_at mst p)) refl c)
        go New c = absurd (new_not_changed (rw c at pending))

-- ---- update and delete

module _ {mst xrf : List ℕ} (s : Sound mst xrf) (m : ℕ) (p : Place) (low : 1 ≤ m) (high : m < next_of mst) (e : entry_for (store mst xrf) m ≡ At p)
    (deleted : Bool) (fs : List Field) (d : Draftable fs) where
  here : PlaceStands mst m p
  here = at_stands s m p low high e

  in_xrf : m ≤ capacity_of (length xrf)
  in_xrf = known_in s m high

  abbrev back_block : ℕ
  back_block = new_back_block p (leader_at mst p)

  abbrev back_offset : ℕ
  back_offset = new_back_offset p (leader_at mst p)

  -- at the end
  module _ (live : p.deleted ≡ false) (room : end_of mst + need_for fs ≤ length mst) where
    version_writable : Writable m (need_for fs) back_block back_offset fs
    version_writable = let b = new_back s m p e here in need_writable m back_block back_offset fs (mfn_small s m in_xrf) b.0 b.1 d

    version_leaves : Leaves mst xrf (version_appended mst m p (leader_at mst p) deleted fs) (with_entry xrf m (place_at_end mst deleted (pending_mark p.mark))) m
        (end_moved (end_of mst + need_for fs)) (next_of mst) (place_at_end mst deleted (pending_mark p.mark)) (need_for fs) fs (fields_of (shown_settled mst p))
    unfolding version_appended version_leader
    version_leaves =
        let k : Mark = pending_mark p.mark in
        let l : Leader = leader_for m (need_for fs) back_block back_offset deleted (length fs) in
        let c = end_written s m (need_for fs) back_block back_offset deleted fs version_writable room in
        let n = stays c.next_is high in
        let w = end_moves s m (need_for fs) back_block back_offset deleted fs version_writable room c n low in_xrf in
        end_leaves s m (need_for fs) back_block back_offset deleted fs version_writable room c n low in_xrf k (fields_of (shown_settled mst p))
        (end_back s m p e here (end_of (appended mst l fs)) (place_at_end mst deleted k) l w.end_up refl refl refl (end_address mst deleted k))
        (version_settled s m p e here w (omega arith) live)

  -- in place: the record is pending, and its MFRL is enough
  module _ (pending : is_settled p.mark ≡ false) (enough : need_for fs ≤ (leader_at mst p).mfrl) where
    abbrev again : Leader
    again = leader_for m (leader_at mst p).mfrl back_block back_offset deleted (length fs)

    old_leader : LeaderFacts m p.deleted (length (record_at mst p)) (leader_at mst p)
    old_leader = reads_leader (place_reads here)

    again_writable : Writable m (leader_at mst p).mfrl back_block back_offset fs
    again_writable =
        let b = new_back s m p e here in
        record { mfn = mfn_small s m in_xrf; block = b.0; offset = b.1; long = old_leader.mfrl; room = enough; fields = d }

    again_inside : place_address p + length (record_bytes again fs) ≤ place_address p + (leader_at mst p).mfrl
    again_inside = omega (arith, written_length m (leader_at mst p).mfrl back_block back_offset deleted fs again_writable)

    again_reads : ReadsAs (part (overwrite mst (place_address p) (record_bytes again fs)) (place_address p) (end_of mst - place_address p)) m deleted again fs
    again_reads =
        let g = member_facts mst (place_address p) 64 s.way here.step in
        written_placed m (leader_at mst p).mfrl back_block back_offset deleted fs again_writable mst (place_address p) (end_of mst) (omega arith) s.numbers.end_in

    again_back : (q : Place) → q.mark ≡ p.mark → place_address q ≡ place_address p → back_fine (end_of mst) q again ≡ true
    again_back q mark at =
        back_fine_same (end_of mst) p q (leader_at mst p) again mark at (rw pending) (rw pending) (fine_facts mst m p here.fine).back

    again_settled : p.mark ≡ Changed → SettledAt (overwrite mst (place_address p) (record_bytes again fs)) m (back_address again) (fields_of (settled_record mst p))
    again_settled c =
        changed_settled s m p e here (within_moves s m p low high e (place_address p) (record_bytes again fs) (omega arith) again_inside again_reads refl)
        (back_address again) (rw pending) c

    -- an update: the entry stays as it is
    update_in_place_leaves : p.deleted ≡ deleted
        → Leaves mst xrf (version_in_place mst m p (leader_at mst p) deleted fs) xrf m (end_of mst) (next_of mst) p (leader_at mst p).mfrl fs (fields_of (settled_record mst p))
    unfolding version_in_place version_leader
    update_in_place_leaves del =
        within_leaves s m p low high e (place_address p) (record_bytes again fs) (omega arith) again_inside again_reads refl (fields_of (settled_record mst p)) del
        (again_back p refl refl) again_settled

    -- a delete: the entry is written with its block negated
    delete_in_place_leaves : Leaves mst xrf (version_in_place mst m p (leader_at mst p) deleted fs) (with_entry xrf m (placed p.block.0 p.offset deleted p.mark)) m
        (end_of mst) (next_of mst) (placed p.block.0 p.offset deleted p.mark) (leader_at mst p).mfrl fs (fields_of (settled_record mst p))
    unfolding version_in_place version_leader
    delete_in_place_leaves =
        within_written s m p low high e (place_address p) (record_bytes again fs) (omega arith) again_inside again_reads refl p.mark (fields_of (settled_record mst p))
        (again_back (placed p.block.0 p.offset deleted p.mark) refl refl) again_settled

-- ---- settle and revert

module _ {mst xrf : List ℕ} (s : Sound mst xrf) (m : ℕ) (p : Place) (low : 1 ≤ m) (high : m < next_of mst) (e : entry_for (store mst xrf) m ≡ At p) where
  there : PlaceStands mst m p
  there = at_stands s m p low high e

  pub settled_leaves : Leaves mst xrf (settled_mst mst p) (settled_xrf xrf m p) m (end_of mst) (next_of mst)
      (placed p.block.0 p.offset p.deleted Settled) (leader_at mst p).mfrl (current_fields mst p) []
  unfolding settled_mst settled_xrf
  settled_leaves =
      let l : Leader = with_back (leader_at mst p) 0 0 in
      let g = member_facts mst (place_address p) 64 s.way there.step in
      within_written s m p low high e (place_address p + 6) (replicate 6 0) (omega arith) (omega arith)
      (reads_settled mst (place_address p) (end_of mst - place_address p) (place_reads there)) refl Settled []
      (back_fine_none (end_of mst) (placed p.block.0 p.offset p.deleted Settled) l refl (no_back_from l refl refl))
      (λ c. absurd (settled_not_changed c))

  -- the settled version becomes current
  entry_reverted : p.mark ≡ Changed → Leaves mst xrf mst (reverted_xrf mst xrf m p) m (end_of mst) (next_of mst)
      (placed (leader_at mst p).mfbwb.0 (leader_at mst p).mfbwp false Settled) (leader_of (settled_record mst p)).mfrl (fields_of (settled_record mst p)) []
  unfolding reverted_xrf
  entry_reverted changed =
      let q : Place = placed (leader_at mst p).mfbwb.0 (leader_at mst p).mfbwp false Settled in
      let l : Leader = leader_of (settled_record mst p) in
      let b = settled_facts mst m p there.fine changed (there.settled changed).fine in
      leaves s (mst_same s m high) (xrf_entry xrf m q low (known_in s m high)) q l (fields_of (settled_record mst p)) []
      (entry_written s mst m q low (known_in s m high) refl s.numbers.end_in b.back.placed)
      (settled_reads there changed)
      (there.settled changed).step
      (back_fine_none (end_of mst) q l refl b.no_back_lem)
      (λ c. absurd (settled_not_changed c))
      (end_of mst) (next_of mst) refl refl

  -- with RECCNT, where it was deleted
  pub reverted_leaves : p.mark ≡ Changed → Leaves mst xrf (reverted_mst mst p) (reverted_xrf mst xrf m p) m (end_of mst) (next_of mst)
      (placed (leader_at mst p).mfbwb.0 (leader_at mst p).mfbwp false Settled) (leader_of (settled_record mst p)).mfrl (fields_of (settled_record mst p)) []
  unfolding reverted_mst counted_more
  reverted_leaves changed = go p.deleted
    where
      go : (b : Bool) → Leaves mst xrf (cond b (counted_more mst) mst) (reverted_xrf mst xrf m p) m (end_of mst) (next_of mst)
          (placed (leader_at mst p).mfbwb.0 (leader_at mst p).mfbwp false Settled) (leader_of (settled_record mst p)).mfrl (fields_of (settled_record mst p)) []
      go true = counted_leaves (suc_ℤ (count_of mst)) low high (omega arith) (entry_reverted changed)
      go false = entry_reverted changed

-- ---- update and delete, as the calls have them

module _ {mst xrf : List ℕ} (s : Sound mst xrf) (m : ℕ) (p : Place) (low : 1 ≤ m) (high : m < next_of mst) (e : entry_for (store mst xrf) m ≡ At p)
    (live : p.deleted ≡ false) where
  module _ (fs : List Field) (d : Draftable fs) where
    pub update_appends_lem : update_appends p (leader_at mst p) (need_for fs) ≡ true → end_of mst + need_for fs ≤ length mst
        → Leaves mst xrf (updated_mst mst m p fs) (updated_xrf mst xrf m p fs) m (end_moved (end_of mst + need_for fs)) (next_of mst)
        (place_at_end mst false (pending_mark p.mark)) (need_for fs) fs (fields_of (shown_settled mst p))
    unfolding updated_mst updated_xrf
    update_appends_lem h room = rw h (version_leaves s m p low high e false fs d live room)

    appends_none : update_appends p (leader_at mst p) (need_for fs) ≡ false → (is_settled p.mark ≡ false) × (ltb (leader_at mst p).mfrl (need_for fs) ≡ false)
    unfolding update_appends
    appends_none h = or_false (is_settled p.mark) (ltb (leader_at mst p).mfrl (need_for fs)) h

    pub update_stays : update_appends p (leader_at mst p) (need_for fs) ≡ false
        → Leaves mst xrf (updated_mst mst m p fs) (updated_xrf mst xrf m p fs) m (end_of mst) (next_of mst) p (leader_at mst p).mfrl fs (fields_of (settled_record mst p))
    unfolding updated_mst updated_xrf
    update_stays h =
        let both = appends_none h in
        rw h (update_in_place_leaves s m p low high e false fs d both.0 (ltb-false (leader_at mst p).mfrl (need_for fs) both.1) live)

  own_fields : Draftable (current_fields mst p)
  own_fields = reads_draftable (place_reads (at_stands s m p low high e))

  settled_is : (k : Mark) → is_settled k ≡ true → k ≡ Settled
  settled_is Settled h = refl
  settled_is Changed h = absurd (false_true h)
  settled_is New h = absurd (false_true h)

  pub delete_appends : is_settled p.mark ≡ true → end_of mst + need_for (current_fields mst p) ≤ length mst
      → Leaves mst xrf (deleted_mst mst m p (current_fields mst p)) (deleted_xrf mst xrf m p) m (end_moved (end_of mst + need_for (current_fields mst p))) (next_of mst)
      (place_at_end mst true Changed) (need_for (current_fields mst p)) (current_fields mst p) (current_fields mst p)
  unfolding deleted_mst deleted_xrf counted_less
  delete_appends h room =
      let c : p.mark ≡ Settled = settled_is p.mark h in
      let mark : pending_mark p.mark ≡ Changed = rw c in
      let shown : fields_of (shown_settled mst p) ≡ current_fields mst p = rw c in
      rw h
      (counted_leaves (pred_ℤ (count_of (version_appended mst m p (leader_at mst p) true (current_fields mst p)))) low high (omega arith)
      (rw (mark, shown) at (version_leaves s m p low high e true (current_fields mst p) own_fields live room)))

  pub delete_stays : is_settled p.mark ≡ false
      → Leaves mst xrf (deleted_mst mst m p (current_fields mst p)) (deleted_xrf mst xrf m p) m (end_of mst) (next_of mst)
      (placed p.block.0 p.offset true p.mark) (leader_at mst p).mfrl (current_fields mst p) (fields_of (settled_record mst p))
  unfolding deleted_mst deleted_xrf counted_less
  delete_stays h =
      rw h
      (counted_leaves (pred_ℤ (count_of (version_in_place mst m p (leader_at mst p) true (current_fields mst p)))) low high (omega arith)
      (delete_in_place_leaves s m p low high e true (current_fields mst p) own_fields h (reads_need (place_reads (at_stands s m p low high e)))))

-- ---- format

-- a formatted store is sound, and has no MFN
pub format_sound : (mst xrf : List ℕ) → lengths_permitted (store mst xrf) ≡ true → Sound (formatted_mst (length mst)) (formatted_xrf (length xrf))
unfolding lengths_permitted
format_sound mst xrf h =
    let a : mst_permitted (length mst) ≡ true = (lengths_both mst xrf h).0 in
    let b : xrf_permitted (length xrf) ≡ true = (lengths_both mst xrf h).1 in
    let i : length (formatted_mst (length mst)) ≡ length mst = formatted_length (length mst) a in
    let j : length (formatted_xrf (length xrf)) ≡ length xrf = formatted_xrf_length (length xrf) b in
    let next : next_of (formatted_mst (length mst)) ≡ 1 = formatted_next (length mst) a in
    let end : end_of (formatted_mst (length mst)) ≡ 64 = formatted_end (length mst) a in
    sound_from
    (rw (i, j) h)
    (formatted_right (length mst) a (capacity_of (length (formatted_xrf (length xrf)))))
    (λ k low high. formatted_head (length xrf) b k low (rw j at high))
    (λ m low high. formatted_free (length xrf) b m)
    (arrives_end (formatted_mst (length mst)) 64 (omega arith) ∙ eq-eqb 64 (end_of (formatted_mst (length mst))) (sym end))
    (λ m low high. absurd (omega arith))
