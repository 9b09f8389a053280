-- What a write leaves of a sound store. `Leaves` tells it: the new end and NXTMFN, what is read of m, and that every other MFN is read as before.
-- A write is a move of `Moves`, and where the record that it wrote reads back, and under the changed mark the settled version is at a step that
-- was not touched, m's new entry stands and the store is sound again (`leaves`). There are two kinds: a record at the end, with whatever control
-- integers are written besides (`end_leaves`), and bytes within m's own record that keep its MFRL (`within_leaves`).
use Prim.Native.Nat.{ℕ, ◌+◌, ◌-◌, ◌%◌, ◌≤◌, ◌<◌}
use native.Mathlib.Omega.{arith}
use mathlib.Core.Path.{◌≡◌, ap, sym, ◌∙◌}
use mathlib.Core.Bool.{Bool, true, false, not, ◌&&◌}
use mathlib.Core.List.{List}
use lib.Dec.{eqb}
use lib.ListN.{length}
use borrow.Author.Tests.{ne_eqb}
use Rattle.word.specs.Overwrite.{overwrite, part}
use Rattle.word.proofs.Overwrite.{overwrite_length, overwrite_other}
use Rattle.layout.specs.Sizes.{capacity_of, block_at, offset_at, end_moved}
use Rattle.layout.specs.Entry.{well_placed, placed, place_address}
use Rattle.files.specs.CrossReference.{xrf_block, with_entry}
use Rattle.files.specs.Control.{next_of, end_of, control_right}
use Rattle.layout.specs.Leader.{leader_of}
use Rattle.files.specs.NamedBytes.{NoByte, EndByte}
use Rattle.layout.specs.declared.entry.Mark.{Mark}
use Rattle.layout.specs.declared.entry.Mark.TheVariants.{Settled, Changed, New}
use Rattle.layout.specs.declared.entry.Place.{Place}
use Rattle.layout.specs.declared.entry.Entry.TheVariants.{At}
use Rattle.layout.specs.declared.leader.Leader.{Leader}
use Rattle.word.proofs.Tests.{tests, false_true}
use Rattle.layout.proofs.Facts.{address_of_at, well_placed_at, RecordLengthFacts, record_length_facts, EndMovedFacts, end_moved_facts, end_moved_in}
use Rattle.files.proofs.ControlRecord.{control_facts, next_placed, control_right_placed}
use Rattle.files.proofs.ControlMoves.{control_front, EndPlace, ControlMoved, end_moved_lem}
use Rattle.files.proofs.CrossReference.{slot_in, block_in, entry_well_placed, with_entry_same}
use Rattle.record.specs.Fields.{Field, fields_of}
use Rattle.record.specs.Record.{record_right, no_back, back_right}
use Rattle.drafts.specs.Bytes.{record_bytes, leader_for}
use Rattle.record.proofs.Local.{ReadsAs, reads_window}
use Rattle.drafts.proofs.Trip.{Writable, written_length, written_placed}
use Rattle.store.specs.Reading.{entry_for, is_changed, record_from, record_at, leader_at, back_address, back_fine, settled_record, current_fields}
use Rattle.versions.specs.Written.{appended, place_at_end}
use Rattle.soundness.specs.Sound.{elem, mfrl_at, steps}
use Rattle.soundness.specs.Touching.{TouchesOnly}
use Rattle.soundness.proofs.SoundEntries.{PlaceStands, is_at, Sound, at_stands}
use Rattle.soundness.proofs.Moves.{XrfMoved, MstMoved, NextMoved, next_stays, SameReading, fine_from, settled_from, entry_kept, other_same, moved_sound, moved_touches, xrf_same, xrf_entry, mst_within, within_end, AppendedTo, mst_append, append_step}
use Rattle.store.specs.Store.{store}

-- ---- what is left

-- the call leaves a sound store with this end and NXTMFN; m is at p, with a record of this MFRL, these fields and, where it is changed, these
-- settled ones; only what belongs to m is touched, and every other MFN is as it was
pub record Leaves (mst xrf mst' xrf' : List ℕ) (m end next : ℕ) (p : Place) (mfrl : ℕ) (fs old : List Field) : Type 0 where
  pub sound : Sound mst' xrf'
  pub mst_long : length mst' ≡ length mst
  pub xrf_long : length xrf' ≡ length xrf
  pub end_is : end_of mst' ≡ end
  pub next_is : next_of mst' ≡ next
  pub entry : entry_for (store mst' xrf') m ≡ At p
  pub record_length_lem : (leader_at mst' p).mfrl ≡ mfrl
  pub fields : current_fields mst' p ≡ fs
  pub settled_all : p.mark ≡ Changed → fields_of (settled_record mst' p) ≡ old
  pub touches : TouchesOnly (store mst xrf) (store mst' xrf') m
  pub others : (o : ℕ) → (o ≡ m → ⊥) → 1 ≤ o → o < next_of mst → entry_for (store mst' xrf') o ≡ entry_for (store mst xrf) o
  pub same : (o : ℕ) (q : Place) → (o ≡ m → ⊥) → 1 ≤ o → o < next_of mst → entry_for (store mst xrf) o ≡ At q → SameReading mst mst' q

-- a settled version at an address
pub record SettledAt (mst : List ℕ) (m a : ℕ) (fs : List Field) : Type 0 where
  pub step : elem a (steps mst 64) ≡ true
  pub right : record_right (record_from mst a) m false ≡ true
  pub no_back_lem : no_back (leader_of (record_from mst a)) ≡ true
  pub fields : fields_of (record_from mst a) ≡ fs

-- the record that was written stands
module _ {mst xrf mst' xrf' : List ℕ} {May : ℕ → Type 0} {m at n : ℕ} (s : Sound mst xrf) (w : MstMoved mst xrf mst' May m at n) (x : XrfMoved xrf xrf' m)
    (p : Place) (l : Leader) (fs old : List Field)
    (e : entry_for (store mst' xrf') m ≡ At p) (r : ReadsAs (record_at mst' p) m p.deleted l fs)
    (step : elem (place_address p) (steps mst' 64) ≡ true) (back : back_fine (end_of mst') p l ≡ true)
    (settled : p.mark ≡ Changed → SettledAt mst' m (back_address l) old) where
  own_stands : PlaceStands mst' m p
  own_stands =
      record {
        fine = fine_from mst' m p r.right (rw r.leader back);
        step = step;
        settled = λ c.
            let q = settled c in
            record {
              fine = settled_from mst' m p (rw r.leader q.right) (rw r.leader q.no_back_lem);
              step = rw r.leader q.step;
            };
      }

  pub leaves : (end next : ℕ) → end_of mst' ≡ end → next_of mst' ≡ next → Leaves mst xrf mst' xrf' m end next p l.mfrl fs old
  leaves end next a b =
      record {
        sound = moved_sound s w x (is_at p e own_stands);
        mst_long = w.long;
        xrf_long = x.long;
        end_is = a;
        next_is = b;
        entry = e;
        record_length_lem = ap (λ (k : Leader). k.mfrl) r.leader;
        fields = r.fields;
        settled_all = λ c. rw r.leader (settled c).fields;
        touches = moved_touches w x;
        others = entry_kept s w x;
        same = other_same s w x;
      }

-- ---- entries and back pointers

module _ {mst xrf : List ℕ} (s : Sound mst xrf) where
  -- an MFN that the XRF has room for
  pub mfn_small : (m : ℕ) → m ≤ capacity_of (length xrf) → m < 4294967296
  mfn_small m h = let f = s.sizes in omega arith

  pub known_in : (m : ℕ) → m < next_of mst → m ≤ capacity_of (length xrf)
  known_in m h = let f = s.numbers in omega arith

  -- an entry that is written is read back
  pub entry_written : (mst' : List ℕ) (m : ℕ) (p : Place) → 1 ≤ m → m ≤ capacity_of (length xrf) → length mst' ≡ length mst → end_of mst' ≤ length mst'
      → well_placed (end_of mst') p.block.0 p.offset ≡ true → entry_for (store mst' (with_entry xrf m p)) m ≡ At p
  entry_written mst' m p low high long end w =
      let f = s.sizes in
      with_entry_same xrf m p (slot_in (length xrf) m low high) (end_of mst') w (omega arith)
      (s.heads (xrf_block m) (omega arith) (block_in (length xrf) m low high))

-- a back pointer under changed, and 0/0 under the two others
pub back_fine_changed : (end : ℕ) (p : Place) (l : Leader) → p.mark ≡ Changed → well_placed end l.mfbwb.0 l.mfbwp ≡ true
    → (back_address l ≡ place_address p → ⊥) → back_fine end p l ≡ true
unfolding back_fine back_right
back_fine_changed end p l c w ne = rw (c, w, ne_eqb (back_address l) (place_address p) ne)

none_cases : (end : ℕ) (k : Mark) (b : Bool) (l : Leader) → is_changed k ≡ false → no_back l ≡ true → (back_right end k l && not (is_changed k && b)) ≡ true
unfolding back_right
none_cases end Settled b l c h = rw h
none_cases end Changed b l c h = absurd (false_true (sym c))
none_cases end New b l c h = rw h

pub back_fine_none : (end : ℕ) (p : Place) (l : Leader) → is_changed p.mark ≡ false → no_back l ≡ true → back_fine end p l ≡ true
unfolding back_fine
back_fine_none end p l c h = none_cases end p.mark (eqb (back_address l) (place_address p)) l c h

-- the same back pointer, under the same mark and at the same address
back_right_same : (end : ℕ) (k : Mark) (l l' : Leader) → l'.mfbwb.0 ≡ l.mfbwb.0 → l'.mfbwp ≡ l.mfbwp → back_right end k l ≡ true → back_right end k l' ≡ true
unfolding back_right no_back
back_right_same end Settled l l' a b e = rw (a, b) e
back_right_same end Changed l l' a b e = rw (a, b) e
back_right_same end New l l' a b e = rw (a, b) e

pub back_fine_same : (end : ℕ) (p q : Place) (l l' : Leader) → q.mark ≡ p.mark → place_address q ≡ place_address p
    → l'.mfbwb.0 ≡ l.mfbwb.0 → l'.mfbwp ≡ l.mfbwp → back_fine end p l ≡ true → back_fine end q l' ≡ true
unfolding back_fine
back_fine_same end p q l l' mark at a b e =
    let t = simp tests at e in
    simp tests (rw mark (back_right_same end p.mark l l' a b t.0), rw (mark, at, a, b) t.1)

-- ---- a record at the end

pub end_address : (mst : List ℕ) (deleted : Bool) (k : Mark) → place_address (place_at_end mst deleted k) ≡ end_of mst
end_address mst deleted k = address_of_at (end_of mst)

module _ {mst xrf : List ℕ} (s : Sound mst xrf) (m n b q : ℕ) (deleted : Bool) (fs : List Field) (w : Writable m n b q fs)
    (room : end_of mst + n ≤ length mst) where
  abbrev made : Leader
  made = leader_for m n b q deleted (length fs)

  abbrev over : List ℕ
  over = overwrite mst (end_of mst) (record_bytes made fs)

  abbrev end' : ℕ
  end' = end_moved (end_of mst + n)

  whole : length (record_bytes made fs) ≡ n
  whole = written_length m n b q deleted fs w

  fits : end_of mst + length (record_bytes made fs) ≤ length mst
  fits = rw whole room

  low : 16 ≤ end_of mst
  low = omega (arith, s.numbers.end_low)

  goes : EndMovedFacts (end_of mst + n) end'
  goes = end_moved_facts (end_of mst + n)

  -- the record is written, and the control record not yet
  long_over : length over ≡ length mst
  long_over = overwrite_length mst (end_of mst) (record_bytes made fs) fits

  pub over_right : control_right over (capacity_of (length xrf)) ≡ true
  over_right = control_right_placed mst (end_of mst) (record_bytes made fs) low fits (capacity_of (length xrf)) ∙ s.control

  pub over_end : EndPlace (length over) end'
  over_end =
      let f = s.sizes in
      let g = s.numbers in
      let h : RecordLengthFacts n = record_length_facts n w.long in
      let e = goes in
      let even : (end_of mst + n) % 2 ≡ 0 = omega arith in
      rw long_over
      (record {
        low = omega arith;
        high = end_moved_in (end_of mst + n) (length mst) f.mst_whole room;
        even = e.even even;
        offset = e.offset even;
        small = f.mst_high;
      })

  -- the end alone
  pub end_written : ControlMoved over (appended mst made fs) EndByte (capacity_of (length xrf)) (next_of mst) end'
  unfolding appended
  end_written = rw (next_placed mst (end_of mst) (record_bytes made fs) low fits) at (end_moved_lem over (capacity_of (length xrf)) end' over_right over_end)

  -- whatever control integers are written besides
  module _ {out : List ℕ} {May : ℕ → Type 0} {next : ℕ} (c : ControlMoved over out May (capacity_of (length xrf)) next end') (moves : NextMoved mst out m)
      (mfn : 1 ≤ m) (in_xrf : m ≤ capacity_of (length xrf)) where
    to : AppendedTo mst out May n
    to =
        record {
          long = c.long ∙ long_over;
          end_is = c.end_is;
          named = c.named;
          kept = λ i off side. c.kept i off ∙ overwrite_other mst (end_of mst) (record_bytes made fs) i (omega (arith, fits)) (rw whole side);
        }

    reads : ReadsAs (record_from out (end_of mst)) m deleted made fs
    reads =
        let e = goes in
        let h : end' ≤ length mst = rw long_over at over_end.high in
        let l = to.long in
        let end = c.end_is in
        let start = s.numbers.end_low in
        reads_window over (end_of mst) end' (written_placed m n b q deleted fs w mst (end_of mst) end' e.low h) out (end_of out)
        (omega arith) (omega arith) (λ i lo hi. c.kept i (λ b. omega (arith, control_front i (c.named i b))))

    mfrl : mfrl_at out (end_of mst) ≡ n
    mfrl = ap (λ (l : Leader). l.mfrl) reads.leader

    pub end_moves : MstMoved mst xrf out May m (end_of mst) n
    end_moves = mst_append s to w.long mfrl c.right moves

    -- the place at the end
    is_at_end : well_placed (end_of out) (block_at (end_of mst)) (offset_at (end_of mst)) ≡ true
    is_at_end =
        let f = s.numbers in
        let g = goes in
        let h : RecordLengthFacts n = record_length_facts n w.long in
        let e = c.end_is in
        well_placed_at (end_of out) (end_of mst) f.end_even f.end_offset f.end_low (omega arith)

    pub end_leaves : (k : Mark) (old : List Field) → back_fine (end_of out) (place_at_end mst deleted k) made ≡ true
        → (k ≡ Changed → SettledAt out m (back_address made) old)
        → Leaves mst xrf out (with_entry xrf m (place_at_end mst deleted k)) m end' next (place_at_end mst deleted k) n fs old
    end_leaves k old back settled =
        let p : Place = place_at_end mst deleted k in
        leaves s end_moves (xrf_entry xrf m p mfn in_xrf) p made fs old
        (entry_written s out m p mfn in_xrf to.long (control_facts out (capacity_of (length xrf)) c.right).end_in is_at_end)
        (rw (end_address mst deleted k) reads)
        (rw (end_address mst deleted k) (append_step s to w.long mfrl))
        back settled end' next c.end_is c.next_is

-- ---- bytes within m's own record, which keep its MFRL

module _ {mst xrf : List ℕ} (s : Sound mst xrf) (m : ℕ) (p : Place) (low : 1 ≤ m) (high : m < next_of mst) (e : entry_for (store mst xrf) m ≡ At p) (at : ℕ) (bs : List ℕ)
    (from : place_address p ≤ at) (to : at + length bs ≤ place_address p + (leader_at mst p).mfrl) where
  here : PlaceStands mst m p
  here = at_stands s m p low high e

  abbrev patched : List ℕ
  patched = overwrite mst at bs

  end : end_of patched ≡ end_of mst
  end = within_end s m high p e here at bs from to

  module _ {deleted : Bool} {l : Leader} {fs : List Field} (r : ReadsAs (part patched (place_address p) (end_of mst - place_address p)) m deleted l fs)
      (same : l.mfrl ≡ (leader_at mst p).mfrl) where
    own_reads : ReadsAs (record_at patched p) m deleted l fs
    own_reads = rw end r

    pub within_moves : MstMoved mst xrf patched NoByte m at (length bs)
    within_moves = mst_within s m high p e here at bs from to (ap (λ (x : Leader). x.mfrl) own_reads.leader ∙ same)

    -- the entry stays
    pub within_leaves : (old : List Field) → p.deleted ≡ deleted → back_fine (end_of mst) p l ≡ true → (p.mark ≡ Changed → SettledAt patched m (back_address l) old)
        → Leaves mst xrf patched xrf m (end_of mst) (next_of mst) p l.mfrl fs old
    within_leaves old del back settled =
        leaves s within_moves (xrf_same xrf m) p l fs old (rw end e) (rw del own_reads) (within_moves.steps_kept (place_address p) here.step)
        (rw end back) settled (end_of mst) (next_of mst) end (next_stays within_moves high)

    -- the entry is written: the same place with another mark, deleted or not
    pub within_written : (k : Mark) (old : List Field) → back_fine (end_of mst) (placed p.block.0 p.offset deleted k) l ≡ true
        → (k ≡ Changed → SettledAt patched m (back_address l) old)
        → Leaves mst xrf patched (with_entry xrf m (placed p.block.0 p.offset deleted k)) m (end_of mst) (next_of mst)
        (placed p.block.0 p.offset deleted k) l.mfrl fs old
    within_written k old back settled =
        let q : Place = placed p.block.0 p.offset deleted k in
        let w = within_moves in
        leaves s w (xrf_entry xrf m q low (known_in s m high)) q l fs old
        (entry_written s patched m q low (known_in s m high) w.long (control_facts patched (capacity_of (length xrf)) w.control).end_in
        (rw end (entry_well_placed xrf (end_of mst) m p e)))
        own_reads (w.steps_kept (place_address p) here.step) (rw end back) settled (end_of mst) (next_of mst) end (next_stays w high)
