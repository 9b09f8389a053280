-- On a sound store each call's answer is the ledger's. Row by row the two tables ask the same: 2, 6 and 8 never apply, and the other rows
-- read the same of the bytes and of the ledger.
use Rattle.std.specs.Prelude.{Err}
use Prim.Native.Nat.{ℕ, ◌+◌}
use native.Mathlib.Omega.{arith}
use mathlib.Core.Path.{◌≡◌, refl, ap, ◌∙◌}
use mathlib.Core.Bool.{Bool, true, false, not, ◌&&◌, ◌||◌, cond}
use mathlib.Core.List.{List, [], ◌∷◌}
use lib.Dec.{eqb, ltb}
use lib.ListN.{length}
use Rattle.layout.specs.Sizes.{capacity_of}
use Rattle.files.specs.CrossReference.{xrf_block, head_right, slot_free}
use Rattle.files.specs.Control.{next_of, count_full, count_none}
use Rattle.layout.specs.declared.entry.Mark.{Mark}
use Rattle.layout.specs.declared.entry.Mark.TheVariants.{Settled, Changed, New}
use Rattle.layout.specs.declared.entry.Place.{Place}
use Rattle.layout.specs.declared.entry.Entry.TheVariants.{Gone, At}
use Rattle.record.specs.Fields.{fields_of}
use Rattle.drafts.specs.Bytes.{need_for}
use Rattle.store.specs.Reading.{mfn_in_range, entry_for, is_malformed, is_gone, is_settled, is_changed, is_new, record_at, leader_at, record_fine, settled_record, version_fine, current_fields}
use Rattle.store.specs.Refusals.{fine, both_fine}
use Rattle.store.specs.Answer.{number_of, Row, refuse, lowest, Answer}
use Rattle.store.proofs.Gates.{after_refused}
use Rattle.writing.specs.Refusals.{exceeds, format_answer, create_answer, update_answer, delete_answer, settle_answer, revert_answer}
use Rattle.versions.specs.Written.{update_appends}
use Rattle.views.specs.Views.{view_answer, settled_view_answer}
use Rattle.store.specs.declared.answer.Refusal.TheVariants.{BadControl, BadDraft, NoMfn, NoSlot, BadEntry, Gone as GoneAnswer, BadRecord, NoRoom, Deleted}
use Rattle.soundness.specs.Sound.{body_apart, body_sound, check_answer}
use Rattle.soundness.specs.Recount.{recount_answer}
use Rattle.writing.proofs.Counted.{create_clear, revert_clear, delete_late}
use Rattle.migrating.specs.Migrate.{migrate_answer, migrate_leaves}
use Rattle.migrating.proofs.Theorems.{today_refused}
use Rattle.store.specs.Store.{Store}
use Rattle.drafts.specs.Draft.{Draft, is_right, fields_in}
use Rattle.ledger.specs.Call.{format, view, view_settled, create, update, delete, settle, revert, check, migrate, recount}
use Rattle.ledger.specs.Ledger.{gone, held, mfn_in, item_of, is_gone_item, is_settled_mark, is_new_mark, settled_or}
use Rattle.ledger.specs.LedgerAnswers.{overfull, appends, refusals_l, number_l, reply_l}
use Rattle.ledger.specs.LedgerOf.{marking_at, item_for, ledger_of}
use Rattle.ledger.proofs.Reading.{Opened, Seen, absent, physically, present, next_is, lengths_are, mfn_is, item_is}

-- the mark of the bytes and of the ledger
pub settled_mark : (mst : List ℕ) (p : Place) (k : Mark) → is_settled_mark (marking_at mst p k) ≡ is_settled k
settled_mark mst p Settled = refl
settled_mark mst p Changed = refl
settled_mark mst p New = refl

pub new_mark : (mst : List ℕ) (p : Place) (k : Mark) → is_new_mark (marking_at mst p k) ≡ is_new k
new_mark mst p Settled = refl
new_mark mst p Changed = refl
new_mark mst p New = refl

-- an update is appended, by the bytes and by the ledger
pub appends_is : (mst : List ℕ) (p : Place) (k : Mark) (need : ℕ) → appends (marking_at mst p k) need ≡ (is_settled k || ltb (leader_at mst p).mfrl need)
unfolding appends
appends_is mst p Settled need = refl
appends_is mst p Changed need = refl
appends_is mst p New need = refl

-- the fields that the settled view reads
pub settled_all : (mst : List ℕ) (p : Place) (k : Mark)
    → settled_or (current_fields mst p) (marking_at mst p k) ≡ fields_of (cond (is_changed k) (settled_record mst p) (record_at mst p))
settled_all mst p Settled = refl
settled_all mst p Changed = refl
settled_all mst p New = refl

module _ (s : Store) (o : Opened s) where
  -- the item of an MFN that is there
  pub item_at : (m : ℕ) (p : Place) → mfn_in_range s.mst m ≡ true → entry_for s m ≡ At p
      → item_of (ledger_of s) m ≡ held (current_fields s.mst p) p.deleted (marking_at s.mst p p.mark)
  item_at m p k e = item_is s o m k ∙ ap (item_for s.mst) e

  pub item_gone : (m : ℕ) → mfn_in_range s.mst m ≡ true → entry_for s m ≡ Gone → item_of (ledger_of s) m ≡ gone
  item_gone m k e = item_is s o m k ∙ ap (item_for s.mst) e

  pub room_is : (need : ℕ) → overfull (ledger_of s) need ≡ exceeds s.mst need
  unfolding overfull exceeds ledger_of
  room_is need = refl

  pub xrf_is : (ledger_of s).xrf_length ≡ length s.xrf
  unfolding ledger_of
  xrf_is = refl

  pub format_answer_lem : format_answer s ≡ number_l (ledger_of s) format
  unfolding format_answer number_l refusals_l reply_l
  format_answer_lem = rw (o.lengths, lengths_are s o)

  -- ---- calls that name an MFN: 4 and 7 are read the same, 6 and 8 do not apply, and x and y stand for the rows behind them

  module _ (m : ℕ) (w : Seen s m) where
    shared : (ok : Bool) (x y : Answer) → ((p : Place) → entry_for s m ≡ At p → record_fine s.mst m p ≡ true → version_fine s.mst m p ≡ true → ok ≡ true)
        → ((p : Place) → mfn_in_range s.mst m ≡ true → entry_for s m ≡ At p → x ≡ y)
        → cond (not (mfn_in_range s.mst m)) (Err NoMfn) (cond (is_malformed (entry_for s m)) (Err BadEntry) (cond (is_gone (entry_for s m)) (Err GoneAnswer) (cond (not ok) (Err BadRecord) x)))
        ≡ cond (not (mfn_in (ledger_of s) m)) (Err NoMfn) (cond (is_gone_item (item_of (ledger_of s) m)) (Err GoneAnswer) y)
    shared ok x y fits same = go w
      where
        go : Seen s m
            → cond (not (mfn_in_range s.mst m)) (Err NoMfn) (cond (is_malformed (entry_for s m)) (Err BadEntry) (cond (is_gone (entry_for s m)) (Err GoneAnswer) (cond (not ok) (Err BadRecord) x)))
            ≡ cond (not (mfn_in (ledger_of s) m)) (Err NoMfn) (cond (is_gone_item (item_of (ledger_of s) m)) (Err GoneAnswer) y)
        go (absent k) = rw (mfn_is s o m, k)
        go (physically k e) = rw (mfn_is s o m, k, e, item_gone m k e)
        go (present p k e f v) = rw (mfn_is s o m, k, e, fits p e f v, item_at m p k e) (same p k e)

    fine_fits : (p : Place) → entry_for s m ≡ At p → record_fine s.mst m p ≡ true → version_fine s.mst m p ≡ true → fine s m ≡ true
    fine_fits p e f v = rw (e, f)

    both_fit : (p : Place) → entry_for s m ≡ At p → record_fine s.mst m p ≡ true → version_fine s.mst m p ≡ true → both_fine s m ≡ true
    both_fit p e f v = rw (e, f, v)

    pub view_answer_lem : (tag occ : ℕ) → view_answer s m tag occ ≡ number_l (ledger_of s) (view m tag occ)
    unfolding view_answer number_l refusals_l reply_l
    view_answer_lem tag occ =
        rw (o.lengths, o.control, lengths_are s o)
        (shared (fine s m) _ _ fine_fits (λ p k e. rw (e, item_at m p k e)))

    pub settled_view_answer_lem : (tag occ : ℕ) → settled_view_answer s m tag occ ≡ number_l (ledger_of s) (view_settled m tag occ)
    unfolding settled_view_answer number_l refusals_l reply_l
    settled_view_answer_lem tag occ =
        rw (o.lengths, o.control, lengths_are s o)
        (shared (both_fine s m) _ _ both_fit
        (λ p k e.
        rw (
          e,
          item_at m p k e,
          settled_mark s.mst p p.mark,
          new_mark s.mst p p.mark,
          settled_all s.mst p p.mark,
        )))

    pub update_answer_lem : (d : Draft) → update_answer s m d ≡ number_l (ledger_of s) (update m d)
    unfolding update_answer number_l refusals_l update_appends reply_l
    update_answer_lem d =
        rw (o.lengths, o.control, lengths_are s o)
        (ap (λ (a : Answer). cond (not (is_right d)) (Err BadDraft) a)
        (shared (fine s m) _ _ fine_fits
        (λ p k e. rw (e, item_at m p k e, appends_is s.mst p p.mark (need_for (fields_in d)), room_is (need_for (fields_in d))))))

    -- a delete, which RECCNT does not bar where the record is live
    pub delete_answer_lem : ((p : Place) → mfn_in_range s.mst m ≡ true → entry_for s m ≡ At p → p.deleted ≡ false → count_none s.mst ≡ false)
        → delete_answer s m ≡ number_l (ledger_of s) (delete m)
    unfolding number_l refusals_l reply_l
    delete_answer_lem some =
        delete_late s m
        ∙ rw (o.lengths, o.control, lengths_are s o)
        (shared (fine s m) _ _ fine_fits
        (λ p k e.
        rw (e, item_at m p k e, settled_mark s.mst p p.mark, room_is (need_for (current_fields s.mst p))) (late p.deleted _ (some p k e))))
      where
        late : (d : Bool) (x : Answer) → (d ≡ false → count_none s.mst ≡ false) → cond d (Err Deleted) (cond (count_none s.mst) (Err BadControl) x) ≡ cond d (Err Deleted) x
        late true x f = refl
        late false x f = rw (f refl)

    pub settle_answer_lem : settle_answer s m ≡ number_l (ledger_of s) (settle m)
    unfolding settle_answer number_l refusals_l reply_l
    settle_answer_lem =
        rw (o.lengths, o.control, lengths_are s o)
        (shared (fine s m) _ _ fine_fits (λ p k e. rw (e, item_at m p k e, settled_mark s.mst p p.mark)))

    pub revert_answer_lem : count_full s.mst ≡ false → revert_answer s m ≡ number_l (ledger_of s) (revert m)
    unfolding number_l refusals_l reply_l
    revert_answer_lem less =
        revert_clear s m less
        ∙ rw (o.lengths, o.control, lengths_are s o)
        (shared (both_fine s m) _ _ both_fit (λ p k e. rw (e, item_at m p k e, settled_mark s.mst p p.mark, new_mark s.mst p p.mark)))

  -- create, whose row 6 does not apply below the capacity
  pub create_answer_lem : (d : Draft) → count_full s.mst ≡ false
      → (eqb (next_of s.mst) (capacity_of (length s.xrf) + 1) ≡ false → (head_right s.xrf (xrf_block (next_of s.mst)) && slot_free s.xrf (next_of s.mst)) ≡ true)
      → create_answer s d ≡ number_l (ledger_of s) (create d)
  unfolding number_l refusals_l reply_l
  create_answer_lem d less free =
      create_clear s d less
      ∙ rw (o.lengths, o.control, lengths_are s o, room_is (need_for (fields_in d)), next_is s o, xrf_is)
      (go (eqb (next_of s.mst) (capacity_of (length s.xrf) + 1)) free)
    where
      -- 3, 5 and 13, of the bytes with 6 before 13
      room : Row
      room = refuse NoRoom (exceeds s.mst (need_for (fields_in d)))

      slot : Bool
      slot = head_right s.xrf (xrf_block (next_of s.mst)) && slot_free s.xrf (next_of s.mst)

      go : (full : Bool) → (full ≡ false → slot ≡ true)
          → lowest (refuse BadDraft (not (is_right d)) ∷ refuse NoSlot full ∷ refuse BadEntry (not slot) ∷ room ∷ [])
          ≡ lowest (refuse BadDraft (not (is_right d)) ∷ refuse NoSlot full ∷ room ∷ [])
      go true f = refl
      go false f = rw (f refl)

  pub check_answer_lem : body_sound s ≡ true → check_answer s ≡ number_l (ledger_of s) check
  unfolding check_answer number_l refusals_l reply_l
  check_answer_lem b = rw (o.lengths, o.control, lengths_are s o, b)

  pub recount_answer_lem : body_apart s ≡ true → recount_answer s ≡ number_l (ledger_of s) recount
  unfolding recount_answer number_l refusals_l reply_l
  recount_answer_lem b = rw (o.lengths, o.control, lengths_are s o, b)

  -- a store of today is not migrated
  pub migrate_refuses : migrate_answer s ≡ Err BadControl
  migrate_refuses = today_refused s o.lengths o.control

  pub migrate_answer_lem : migrate_answer s ≡ number_l (ledger_of s) migrate
  unfolding number_l refusals_l reply_l
  migrate_answer_lem = rw (migrate_refuses, lengths_are s o)

  pub migrate_left : migrate_leaves s ≡ s
  unfolding migrate_leaves number_of
  migrate_left = after_refused (migrate_answer s) _ s (λ z. let n : number_of (migrate_answer s) ≡ 2 = ap number_of migrate_refuses in omega arith)
