-- What the writing halves leave. A record is written into the tail of the MST that starts at its
-- place; what the borrow checker hands back of that tail, with what the writer promises of it, is
-- the MST with the record placed there. Each law's premises are what is known at a call or at the
-- return of one writing half, so that `search` finds them.
use Prim.Native.Nat.{ℕ, ◌+◌, ◌-◌, ◌≤◌, ◌<◌}
use native.Mathlib.Omega.{arith}
use mathlib.Core.Path.{◌≡◌, sym, ap, ◌∙◌}
use mathlib.Core.Bool.{Bool, true, false}
use mathlib.Core.List.{List}
use lib.ListN.{length, replicate, length-take, length-drop, length-append}
use borrow.Rule.Slice.PartMut.{mid_of, put_mid}
use Rattle.word.specs.Overwrite.{overwrite}
use Rattle.word.proofs.Overwrite.{returned_front, returned_tail, tail_back}
use Rattle.layout.specs.Sizes.{address_limit, record_most, block_at, offset_at, end_moved}
use Rattle.layout.specs.Entry.{placed, place_address}
use Rattle.files.specs.Control.{next_of, end_of, with_next, with_end, counted_more, counted_less}
use Rattle.files.specs.CrossReference.{with_entry}
use Rattle.layout.specs.Leader.{leader_of}
use Rattle.layout.specs.declared.entry.Mark.TheVariants.{Settled, New}
use Rattle.layout.specs.declared.entry.Place.{Place}
use Rattle.layout.specs.declared.leader.Leader.{Leader}
use Rattle.layout.proofs.Facts.{end_moved_facts}
use Rattle.record.specs.Fields.{Field, fields_of, data_of}
use Rattle.record.specs.Record.{Readable}
use Rattle.drafts.specs.Draft.{need_of, draft_fields}
use Rattle.drafts.specs.Bytes.{need_for, record_bytes, leader_for}
use Rattle.record.proofs.Facts.{right_readable, readable_facts}
use Rattle.record.proofs.FieldData.{fields_count, data_within}
use Rattle.record.proofs.Local.{ReadsAs, right_reads, reads_bound}
use Rattle.drafts.proofs.Draftable.{draft_need, draft_count, readable_draftable}
use Rattle.store.specs.Reading.{record_at, leader_at, current_fields}
use Rattle.versions.specs.Written.{appended, created_mst, created_xrf, version_leader, version_appended, version_in_place, settled_mst, settled_xrf}
use Rattle.versions.specs.Asked.{AtEnd, DraftFits, RecordRead}
use Rattle.versions.proofs.Told.{need_low}

-- ---- the lent tail

module _ (mst : List ℕ) (at : ℕ) where
  pub tail_length : length (mid_of at (length mst - at) mst) ≡ length mst - at
  tail_length = simp (length-take, length-drop) (omega arith)

  -- it comes back as long
  tail_kept : (ys : List ℕ) → at ≤ length mst → length ys ≡ length (mid_of at (length mst - at) mst) → length (put_mid at (length mst - at) mst ys) ≡ length mst
  tail_kept ys h e = rw (tail_back mst at ys) (simp (length-append, length-take) (omega (arith, tail_length)))

-- ---- a record at the end

module _ (mst : List ℕ) (end : ℕ) (l : Leader) (a : AtEnd mst end l.mfrl) where
  -- the control record is in the MST still
  pub control_kept : (ys : List ℕ) → length ys ≡ length (mid_of end (length mst - end) mst) → 64 ≤ length (put_mid end (length mst - end) mst ys)
  control_kept ys e = omega (arith, tail_kept mst end ys (omega arith) e)

  pub end_small : (stop moved : ℕ) → moved ≡ end_moved stop → stop ≤ end + l.mfrl → moved < address_limit
  end_small stop moved e h = omega (arith, end_moved_facts stop)

  pub draft_appended : (tail last : List ℕ) (moved : ℕ) (fs : List Field) → tail ≡ overwrite (mid_of end (length mst - end) mst) 0 (record_bytes l fs)
      → moved ≡ end_moved (end + l.mfrl) → last ≡ with_end (put_mid end (length mst - end) mst tail) moved → last ≡ appended mst l fs
  unfolding appended
  draft_appended tail last moved fs e n w = w ∙ rw (n, returned_front mst end (record_bytes l fs) e, a.end_is)

-- ---- the record that is written again

module _ (mst : List ℕ) (end : ℕ) (p : Place) (l : Leader) (r : RecordRead mst end p l) where
  -- as it is read in the store
  pub own_readable : Readable (record_at mst p)
  own_readable = right_readable (record_at mst p) l.mfn.0 p.deleted r.right

  pub own_count : l.nvf ≡ length (current_fields mst p)
  own_count = rw r.leader_is (sym (fields_count (record_at mst p)))

  pub own_small : need_for (current_fields mst p) ≤ record_most
  own_small = (readable_draftable (record_at mst p) own_readable).need

  -- as it is lent up to the end
  module _ (at : ℕ) (e : at ≡ place_address p) where
    own_lent : mid_of at (end - at) mst ≡ record_at mst p
    own_lent = rw (e, r.end_is)

    pub own_lent_readable : Readable (mid_of at (end - at) mst)
    own_lent_readable = rw own_lent own_readable

    -- what the copy to the end leaves
    pub copy_kept : (size : ℕ) (out : List ℕ) → AtEnd mst end size → length out ≡ length mst → 64 ≤ length out
    copy_kept size out a h = omega arith

    pub copy_appended : (k : Leader) (out last : List ℕ) (moved : ℕ) → out ≡ overwrite mst end (record_bytes k (fields_of (mid_of at (end - at) mst)))
        → moved ≡ end_moved (end + k.mfrl) → last ≡ with_end out moved → last ≡ appended mst k (current_fields mst p)
    unfolding appended
    copy_appended k out last moved t n w = w ∙ rw (n, t, own_lent, r.end_is)

    module _ (size : ℕ) (s : size ≡ length (data_of (fields_of (mid_of at (end - at) mst)))) where
      own_size : size ≡ length (data_of (current_fields mst p))
      own_size = s ∙ ap (λ (x : List ℕ). length (data_of (fields_of x))) own_lent

      pub own_counted : (l.nvf ≤ 65535) × (size ≤ 65535)
      own_counted = omega (arith, own_size, data_within (record_at mst p) own_readable, (readable_facts own_readable).short)

      pub own_need : (n : ℕ) → n ≡ need_of l.nvf size → (n ≡ need_for (current_fields mst p)) × (18 ≤ n) × (n ≤ record_most)
      own_need n h =
          let is : n ≡ need_for (current_fields mst p) = rw (h, own_size, own_count) in
          (is, rw is (need_low _ _), rw is own_small)

  -- as it is read in the tail that is lent
  module _ (at : ℕ) (e : at ≡ place_address p) where
    lent_reads : ReadsAs (mid_of at (length mst - at) mst) l.mfn.0 p.deleted (leader_at mst p) (current_fields mst p)
    lent_reads =
        let own = right_reads (record_at mst p) l.mfn.0 p.deleted r.right in
        let long : (leader_at mst p).mfrl ≤ length mst - place_address p = rw (← r.leader_is) (omega arith) in
        rw e (reads_bound mst (place_address p) (end_of mst - place_address p) own (length mst - place_address p) long)

    pub tail_readable : Readable (mid_of at (length mst - at) mst)
    tail_readable = right_readable _ l.mfn.0 p.deleted lent_reads.right

    tail_leader : leader_of (mid_of at (length mst - at) mst) ≡ l
    tail_leader = lent_reads.leader ∙ sym r.leader_is

    tail_fields : fields_of (mid_of at (length mst - at) mst) ≡ current_fields mst p
    tail_fields = lent_reads.fields

    -- what the writing in place asks
    pub same_mfrl : (k : Leader) → k.mfrl ≡ l.mfrl → k.mfrl ≡ (leader_of (mid_of at (length mst - at) mst)).mfrl
    same_mfrl k h = rw tail_leader h

    pub rewritten : (m : ℕ) (k : Leader) (tail last : List ℕ) → k ≡ version_leader m p l l.mfrl true l.nvf
        → tail ≡ overwrite (mid_of at (length mst - at) mst) 0 (record_bytes k (fields_of (mid_of at (length mst - at) mst)))
        → last ≡ counted_less (put_mid at (length mst - at) mst tail) → last ≡ counted_less (version_in_place mst m p l true (current_fields mst p))
    unfolding version_in_place
    rewritten m k tail last v t w =
        w ∙ ap counted_less (returned_front mst at (record_bytes k (fields_of (mid_of at (length mst - at) mst))) t ∙ rw (tail_fields, v, own_count, e))

    pub back_cleared : (tail : List ℕ) → tail ≡ overwrite (mid_of at (length mst - at) mst) 6 (replicate 6 0)
        → put_mid at (length mst - at) mst tail ≡ settled_mst mst p
    unfolding settled_mst
    back_cleared tail t = returned_tail mst at 6 (replicate 6 0) t ∙ rw e

-- ---- a new version

module _ (mst : List ℕ) (m : ℕ) (p : Place) (l : Leader) (deleted : Bool) (k : Leader) (need : ℕ) where
  -- at the end, with the fields of a draft
  pub draft_versioned : (tags lens bytes last : List ℕ) → DraftFits tags lens bytes → need ≡ need_of (length tags) (length bytes)
      → k ≡ version_leader m p l need deleted (length tags) → last ≡ appended mst k (draft_fields tags lens bytes)
      → last ≡ version_appended mst m p l deleted (draft_fields tags lens bytes)
  unfolding version_appended
  draft_versioned tags lens bytes last d n v w =
      w ∙ rw (v, n, ← draft_need tags lens bytes d.right, ← draft_count tags lens bytes d.right)

  -- at the end, with its own, and RECCNT minus 1
  pub copy_versioned : (end : ℕ) (middle last : List ℕ) → RecordRead mst end p l → need ≡ need_for (current_fields mst p)
      → k ≡ version_leader m p l need deleted l.nvf → middle ≡ appended mst k (current_fields mst p) → last ≡ counted_less middle
      → last ≡ counted_less (version_appended mst m p l deleted (current_fields mst p))
  unfolding version_appended
  copy_versioned end middle last r n v w x = x ∙ ap counted_less (w ∙ rw (v, n, own_count mst end p l r))

-- over the old one
module _ (mst : List ℕ) (p : Place) (l k : Leader) (tags lens bytes : List ℕ) (at : ℕ) (d : DraftFits tags lens bytes) (e : at ≡ place_address p) where
  pub draft_in_place : (m : ℕ) (deleted : Bool) (tail : List ℕ) → k ≡ version_leader m p l l.mfrl deleted (length tags)
      → tail ≡ overwrite (mid_of at (length mst - at) mst) 0 (record_bytes k (draft_fields tags lens bytes))
      → put_mid at (length mst - at) mst tail ≡ version_in_place mst m p l deleted (draft_fields tags lens bytes)
  unfolding version_in_place
  draft_in_place m deleted tail v t =
      returned_front mst at (record_bytes k (draft_fields tags lens bytes)) t ∙ rw (v, e, ← draft_count tags lens bytes d.right)

-- ---- create

pub record_created : (mst tags lens bytes middle counted last : List ℕ) (next need : ℕ) (l : Leader) → DraftFits tags lens bytes → next ≡ next_of mst
    → need ≡ need_of (length tags) (length bytes) → l ≡ leader_for next need 0 0 false (length tags) → middle ≡ appended mst l (draft_fields tags lens bytes)
    → counted ≡ with_next middle (next + 1) → last ≡ counted_more counted → last ≡ created_mst mst (draft_fields tags lens bytes)
unfolding created_mst
record_created mst tags lens bytes middle counted last next need l d n s v w x y =
    y ∙ ap counted_more (x ∙ rw (w, v, s, n, ← draft_need tags lens bytes d.right, ← draft_count tags lens bytes d.right))

pub entry_created : (mst xrf last : List ℕ) (next end size : ℕ) (q : Place) → AtEnd mst end size → next ≡ next_of mst
    → q ≡ placed (block_at end) (offset_at end) false New → last ≡ with_entry xrf next q → last ≡ created_xrf mst xrf
unfolding created_xrf
entry_created mst xrf last next end size q a n v w = w ∙ rw (v, n, a.end_is)

-- ---- settle

pub mark_removed : (xrf last : List ℕ) (m : ℕ) (p : Place) → last ≡ with_entry xrf m (placed p.block.0 p.offset p.deleted Settled)
    → last ≡ settled_xrf xrf m p
unfolding settled_xrf
mark_removed xrf last m p w = w
