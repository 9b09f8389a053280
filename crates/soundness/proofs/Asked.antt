-- What a call that is done on a sound store was asked: none of the rows of its table applied.
use Rattle.std.specs.Prelude.{Ok, Err}
use Prim.Native.Nat.{ℕ, ◌+◌, ◌≤◌}
use native.Mathlib.Omega.{arith}
use mathlib.Core.Path.{◌≡◌, refl, sym, ◌∙◌}
use mathlib.Core.Bool.{Bool, true, false, not, ◌&&◌, cond}
use mathlib.Core.List.{List, [], ◌∷◌}
use lib.Dec.{eqb}
use lib.ListN.{length}
use borrow.Author.Tests.{ltb-false}
use Rattle.layout.specs.Sizes.{capacity_of}
use Rattle.files.specs.CrossReference.{xrf_block, head_right, slot_free}
use Rattle.files.specs.Control.{next_of, end_of, count_none}
use Rattle.writing.proofs.Counted.{create_through, revert_through, room_row, delete_late}
use Rattle.layout.specs.declared.entry.Mark.TheVariants.{Changed}
use Rattle.layout.specs.declared.entry.Entry.TheVariants.{At}
use Rattle.drafts.specs.Bytes.{need_for}
use Rattle.store.specs.Store.{store}
use Rattle.drafts.specs.Draft.{Draft, is_right, fields_in}
use Rattle.store.specs.Answer.{Row, refuse, lowest, number_of, Answer}
use Rattle.store.specs.Reading.{mfn_in_range, entry_for, place_for, is_gone, is_settled, is_new, leader_at, current_fields}
use Rattle.store.specs.Refusals.{named, fine, both_fine}
use Rattle.store.specs.declared.answer.Refusal.TheVariants.{BadControl, BadDraft, NoMfn, NoSlot, BadEntry, Gone as GoneAnswer, Deleted, NotPending, NeverSettled, NoRoom}
use Rattle.store.proofs.Gates.{Refusing, passed, holds}
use Rattle.writing.specs.Refusals.{exceeds, create_answer, update_answer, delete_answer, settle_answer, revert_answer}
use Rattle.versions.specs.Written.{update_appends}
use Rattle.writing.proofs.Results.{only_changed}
use Rattle.soundness.proofs.SoundEntries.{Sound, gated_sound, named_fine, named_both, entry_for_place, below_capacity}

-- ---- the answers of the rows are refusals

no_count : Refusing (Err BadControl)
unfolding number_of
no_count z = omega arith

no_draft : Refusing (Err BadDraft)
unfolding number_of
no_draft z = omega arith

no_mfn : Refusing (Err NoMfn)
unfolding number_of
no_mfn z = omega arith

no_entry : Refusing (Err GoneAnswer)
unfolding number_of
no_entry z = omega arith

no_live : Refusing (Err Deleted)
unfolding number_of
no_live z = omega arith

no_pending : Refusing (Err NotPending)
unfolding number_of
no_pending z = omega arith

no_settled : Refusing (Err NeverSettled)
unfolding number_of
no_settled z = omega arith

no_room : Refusing (Err NoRoom)
unfolding number_of
no_room z = omega arith

-- ---- what was asked

-- the MFN is there, at the place of its entry
pub record There (mst xrf : List ℕ) (m : ℕ) : Type 0 where
  pub known : mfn_in_range mst m ≡ true
  pub entry : entry_for (store mst xrf) m ≡ At (place_for (store mst xrf) m)

module _ {mst xrf : List ℕ} (s : Sound mst xrf) (m : ℕ) where
  -- the rows of an MFN passed, whatever 8 asks
  there : (ok : Bool) (rest : List Row)
      → lowest (named (store mst xrf) m ok rest) ≡ lowest (refuse NoMfn (not (mfn_in_range mst m)) ∷ refuse GoneAnswer (is_gone (entry_for (store mst xrf) m)) ∷ rest)
      → lowest (named (store mst xrf) m ok rest) ≡ Ok tt → There mst xrf m × (lowest rest ≡ Ok tt)
  there ok rest rows e =
      let k = holds (mfn_in_range mst m) (Err NoMfn) (cond (is_gone (entry_for (store mst xrf) m)) (Err GoneAnswer) (lowest rest)) no_mfn (sym rows ∙ e) in
      let g = passed (is_gone (entry_for (store mst xrf) m)) (Err GoneAnswer) (lowest rest) no_entry k.1 in
      (record { known = k.0; entry = entry_for_place s m k.0 g.0 }, g.1)

  there_fine : (rest : List Row) → lowest (named (store mst xrf) m (fine (store mst xrf) m) rest) ≡ Ok tt → There mst xrf m × (lowest rest ≡ Ok tt)
  there_fine rest = there (fine (store mst xrf) m) rest (named_fine s m rest)

  -- room, where the call writes at the end
  room_for : (appends : Bool) (need : ℕ) → (appends && exceeds mst need) ≡ false → appends ≡ true → end_of mst + need ≤ length mst
  unfolding exceeds
  room_for appends need e a = ltb-false (length mst) (end_of mst + need) (rw a at e)

  -- an update that is done
  pub record UpdateAsked (d : Draft) : Type 0 where
    pub draft : is_right d ≡ true
    pub here : There mst xrf m
    pub live : (place_for (store mst xrf) m).deleted ≡ false
    pub room : update_appends (place_for (store mst xrf) m) (leader_at mst (place_for (store mst xrf) m)) (need_for (fields_in d)) ≡ true
        → end_of mst + need_for (fields_in d) ≤ length mst

  pub update_asked : (d : Draft) → update_answer (store mst xrf) m d ≡ Ok tt → UpdateAsked d
  unfolding update_answer
  update_asked d e =
      let need = need_for (fields_in d) in
      let p = place_for (store mst xrf) m in
      let last : List Row = refuse NoRoom (update_appends p (leader_at mst p) need && exceeds mst need) ∷ [] in
      let rest : List Row = refuse Deleted p.deleted ∷ last in
      let r =
      holds (is_right d) (Err BadDraft) (lowest (named (store mst xrf) m (fine (store mst xrf) m) rest)) no_draft
      (sym (gated_sound s (refuse BadDraft (not (is_right d)) ∷ named (store mst xrf) m (fine (store mst xrf) m) rest)) ∙ e) in
      let h = there_fine rest r.1 in
      let l = passed p.deleted (Err Deleted) (lowest last) no_live h.1 in
      let w = passed (update_appends p (leader_at mst p) need && exceeds mst need) (Err NoRoom) (Ok tt) no_room l.1 in
      record { draft = r.0; here = h.0; live = l.0; room = λ a. room_for (update_appends p (leader_at mst p) need) need w.0 a }

  -- a delete that is done
  pub record DeleteAsked : Type 0 where
    pub here : There mst xrf m
    pub live : (place_for (store mst xrf) m).deleted ≡ false
    pub room : is_settled (place_for (store mst xrf) m).mark ≡ true → end_of mst + need_for (current_fields mst (place_for (store mst xrf) m)) ≤ length mst

  pub delete_asked : delete_answer (store mst xrf) m ≡ Ok tt → DeleteAsked
  delete_asked e =
      let p = place_for (store mst xrf) m in
      let need = need_for (current_fields mst p) in
      let last : List Row = refuse BadControl (count_none mst) ∷ refuse NoRoom (is_settled p.mark && exceeds mst need) ∷ [] in
      let rest : List Row = refuse Deleted p.deleted ∷ last in
      let h = there_fine rest (sym (gated_sound s (named (store mst xrf) m (fine (store mst xrf) m) rest)) ∙ (sym (delete_late (store mst xrf) m) ∙ e)) in
      let l = passed p.deleted (Err Deleted) (lowest last) no_live h.1 in
      let c = passed (count_none mst) (Err BadControl) (lowest (room_row (store mst xrf) m ∷ [])) no_count l.1 in
      let r = passed (is_settled p.mark && exceeds mst need) (Err NoRoom) (Ok tt) no_room c.1 in
      record { here = h.0; live = l.0; room = λ a. room_for (is_settled p.mark) need r.0 a }

  -- a settle that is done
  pub record SettleAsked : Type 0 where
    pub here : There mst xrf m
    pub pending : is_settled (place_for (store mst xrf) m).mark ≡ false

  pub settle_asked : settle_answer (store mst xrf) m ≡ Ok tt → SettleAsked
  unfolding settle_answer
  settle_asked e =
      let rest : List Row = refuse NotPending (is_settled (place_for (store mst xrf) m).mark) ∷ [] in
      let h = there_fine rest (sym (gated_sound s (named (store mst xrf) m (fine (store mst xrf) m) rest)) ∙ e) in
      let p = passed (is_settled (place_for (store mst xrf) m).mark) (Err NotPending) (Ok tt) no_pending h.1 in
      record { here = h.0; pending = p.0 }

  -- a revert that is done
  pub record RevertAsked : Type 0 where
    pub here : There mst xrf m
    pub changed : (place_for (store mst xrf) m).mark ≡ Changed

  pub revert_asked : revert_answer (store mst xrf) m ≡ Ok tt → RevertAsked
  revert_asked e =
      let p = place_for (store mst xrf) m in
      let last : List Row = refuse NeverSettled (is_new p.mark) ∷ [] in
      let rest : List Row = refuse NotPending (is_settled p.mark) ∷ last in
      let h = there (both_fine (store mst xrf) m) rest (named_both s m rest) (sym (gated_sound s (named (store mst xrf) m (both_fine (store mst xrf) m) rest)) ∙ revert_through (store mst xrf) m e) in
      let n = passed (is_settled p.mark) (Err NotPending) (lowest last) no_pending h.1 in
      let w = passed (is_new p.mark) (Err NeverSettled) (Ok tt) no_settled n.1 in
      record { here = h.0; changed = only_changed p.mark n.0 w.0 }

-- ---- create

-- 3, 5, 6 and 13
abbrev row_list : Bool → Bool → Bool → Bool → Answer
row_list d f h r = cond (not d) (Err BadDraft) (cond f (Err NoSlot) (cond (not h) (Err BadEntry) (cond r (Err NoRoom) (Ok tt))))

rows : (d f h r : Bool) → row_list d f h r ≡ Ok tt → (d ≡ true) × (f ≡ false) × (r ≡ false)
rows true true h r e = let z : ◌≡◌ {A = ℕ} 0 1 = cc in absurd (omega arith)
rows true false true true e = let z : ◌≡◌ {A = ℕ} 0 1 = cc in absurd (omega arith)
rows true false true false e = (refl, refl, refl)
rows true false false r e = let z : ◌≡◌ {A = ℕ} 0 1 = cc in absurd (omega arith)
rows false f h r e = let z : ◌≡◌ {A = ℕ} 0 1 = cc in absurd (omega arith)

-- a create that is done
pub record CreateAsked (mst xrf : List ℕ) (d : Draft) : Type 0 where
  pub draft : is_right d ≡ true
  pub below : next_of mst ≤ capacity_of (length xrf)
  pub room : end_of mst + need_for (fields_in d) ≤ length mst

pub create_asked : {mst xrf : List ℕ} → Sound mst xrf → (d : Draft) → create_answer (store mst xrf) d ≡ Ok tt → CreateAsked mst xrf d
unfolding exceeds
create_asked {mst} {xrf} s d e =
    let q =
    rows (is_right d) (eqb (next_of mst) (capacity_of (length xrf) + 1)) (head_right xrf (xrf_block (next_of mst)) && slot_free xrf (next_of mst))
    (exceeds mst (need_for (fields_in d))) (rw (s.lengths, s.control) at (create_through (store mst xrf) d e)) in
    record { draft = q.0; below = below_capacity s q.1; room = ltb-false (length mst) (end_of mst + need_for (fields_in d)) q.2 }
