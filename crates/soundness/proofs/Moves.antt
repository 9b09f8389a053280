-- What a call that writes leaves of a sound store. A call changes the entry of one MFN m, and touches bytes of the MST within m's own record or
-- from the end on, besides the numbers of the control record. The steps of the walk are apart from each other, and a right record holds its own
-- MFN, so no step of another MFN is touched: every other entry stands as it stood, and its record and settled version are read as before. What
-- a write does to the two files is told by two records, `MstMoved`, which names the control integers that it may change, and `XrfMoved`; the
-- theorem takes those, and each write of the library has a law that gives one.
use Prim.Native.Nat.{ℕ, ◌+◌, ◌≤◌, ◌<◌}
use native.Mathlib.Omega.{arith}
use native.Mathlib.Decide.{ℕ_discrete}
use mathlib.Core.Path.{◌≡◌, refl, sym, ap, ◌∙◌}
use mathlib.Core.Logic.{◌⊎◌, inl, inr, ⊎_elim}
use mathlib.Core.Bool.{Bool, true, false}
use mathlib.Core.List.{List}
use lib.ListN.{length, get_or}
use Rattle.word.specs.Overwrite.{overwrite}
use Rattle.word.proofs.Overwrite.{lt_or_ge, overwrite_length, overwrite_other}
use Rattle.layout.specs.Sizes.{capacity_of, end_moved, record_length}
use Rattle.layout.specs.Entry.{place_address}
use Rattle.files.specs.CrossReference.{slot_at, head_right, entry_at, slot_free, with_entry}
use Rattle.files.specs.Control.{next_of, end_of}
use Rattle.layout.specs.Leader.{leader_of}
use Rattle.files.specs.NamedBytes.{Within, NoByte, ControlByte}
use Rattle.layout.specs.declared.entry.Mark.{Mark}
use Rattle.layout.specs.declared.entry.Mark.TheVariants.{Settled, Changed, New}
use Rattle.layout.specs.declared.entry.Place.{Place}
use Rattle.layout.specs.declared.entry.Entry.TheVariants.{At}
use Rattle.layout.specs.declared.leader.Leader.{Leader}
use Rattle.word.proofs.Tests.{tests}
use Rattle.layout.proofs.Facts.{well_placed_later, end_moved_facts}
use Rattle.files.proofs.ControlRecord.{control_facts, next_placed, end_placed, control_right_placed}
use Rattle.files.proofs.ControlMoves.{out_of, control_front}
use Rattle.files.proofs.CrossReference.{slot_in, entry_later, entry_gone, with_entry_length, with_entry_byte, with_entry_head, with_entry_free, with_entry_other}
use Rattle.record.specs.Fields.{Field, fields_of}
use Rattle.record.specs.Record.{record_right, no_back, back_right}
use Rattle.record.proofs.Local.{ReadsAs, reads_mfn, reads_window}
use Rattle.store.specs.Reading.{lengths_permitted, control_fine, entry_for, record_from, record_at, leader_at, back_address, back_fine, record_fine, settled_record, settled_fine, current_fields}
use Rattle.store.proofs.Gates.{fine_both, settled_both, fine_facts, BackFacts, back_changed, settled_facts, fine_reads, settled_fine_reads}
use Rattle.soundness.specs.Sound.{elem, mfrl_at, steps, arrives}
use Rattle.soundness.specs.Touching.{MayChange, control_integer, own_record, new_byte, TouchesOnly}
use Rattle.soundness.proofs.Stepping.{MemberFacts, member_facts, steps_apart, mfrl_kept, MfrlKept, steps_same, arrives_same, arrives_append, elem_kept, elem_new}
use Rattle.soundness.proofs.SoundEntries.{PlaceStands, EntryStands, is_gone_lem, is_at, Sound, sound_from}
use Rattle.store.specs.Store.{store}

-- ---- what a write does

-- to the XRF: only the entry of MFN m is another
pub record XrfMoved (xrf xrf' : List ℕ) (m : ℕ) : Type 0 where
  pub long : length xrf' ≡ length xrf
  pub kept : (i : ℕ) → (i < slot_at m) ⊎ (slot_at m + 4 ≤ i) → get_or xrf' i 0 ≡ get_or xrf i 0
  pub heads : (k : ℕ) → head_right xrf' k ≡ head_right xrf k
  pub others : (o : ℕ) → 1 ≤ o → (o ≡ m → ⊥) → (end : ℕ) → entry_at xrf' end o ≡ entry_at xrf end o
  pub slots : (o : ℕ) → 1 ≤ o → (o ≡ m → ⊥) → slot_free xrf' o ≡ slot_free xrf o

-- the n bytes from an address on are new bytes at the end, or lie within m's own record
pub data Touched (mst xrf mst' : List ℕ) (m at n : ℕ) : Type 0 where
  beyond : end_of mst ≤ at → at + n ≤ end_of mst' → Touched mst xrf mst' m at n
  within : (p : Place) → entry_for (store mst xrf) m ≡ At p → PlaceStands mst m p → place_address p ≤ at → at + n ≤ place_address p + (leader_at mst p).mfrl
      → Touched mst xrf mst' m at n

-- NXTMFN stays, or goes up by one where MFN m is created
pub data NextMoved (mst mst' : List ℕ) (m : ℕ) : Type 0 where
  stays : next_of mst' ≡ next_of mst → m < next_of mst → NextMoved mst mst' m
  goes_up : next_of mst' ≡ next_of mst + 1 → m ≡ next_of mst → NextMoved mst mst' m

-- to the MST: only those n bytes, and the control integers that `May` names, are others, and each step is a step still
pub record MstMoved (mst xrf mst' : List ℕ) (May : ℕ → Type 0) (m at n : ℕ) : Type 0 where
  pub long : length mst' ≡ length mst
  pub control : control_fine (store mst' xrf) ≡ true
  pub next : NextMoved mst mst' m
  pub end_up : end_of mst ≤ end_of mst'
  pub touched : Touched mst xrf mst' m at n
  pub named : (i : ℕ) → May i → ControlByte i
  pub kept : (i : ℕ) → (May i → ⊥) → (i < at) ⊎ (at + n ≤ i) → get_or mst' i 0 ≡ get_or mst i 0
  pub way : arrives mst' 64 ≡ true
  pub steps_kept : (a : ℕ) → elem a (steps mst 64) ≡ true → elem a (steps mst' 64) ≡ true

-- of an MFN that is there already
pub next_stays : {mst xrf mst' : List ℕ} {May : ℕ → Type 0} {m at n : ℕ} → MstMoved mst xrf mst' May m at n → m < next_of mst → next_of mst' ≡ next_of mst
next_stays {mst} {xrf} {mst'} {m = m} w known = go w.next
  where
    go : NextMoved mst mst' m → next_of mst' ≡ next_of mst
    go (stays e k) = e
    go (goes_up e k) = absurd (omega arith)

-- ---- what stays

-- the settled version of the record at a place is read as before
pub record SameSettled (mst mst' : List ℕ) (p : Place) : Type 0 where
  pub leader : leader_of (settled_record mst' p) ≡ leader_of (settled_record mst p)
  pub fields : fields_of (settled_record mst' p) ≡ fields_of (settled_record mst p)

-- the record at a place is, and its settled version
pub record SameReading (mst mst' : List ℕ) (p : Place) : Type 0 where
  pub leader : leader_at mst' p ≡ leader_at mst p
  pub fields : current_fields mst' p ≡ current_fields mst p
  pub settled : p.mark ≡ Changed → SameSettled mst mst' p

-- the place of an MFN stands as it stood
pub record Kept (mst mst' : List ℕ) (m : ℕ) (p : Place) : Type 0 where
  pub stands : PlaceStands mst' m p
  pub same : SameReading mst mst' p

-- ---- back pointers

back_right_later : (end end' : ℕ) (k : Mark) (l : Leader) → end ≤ end' → back_right end k l ≡ true → back_right end' k l ≡ true
unfolding back_right
back_right_later end end' Settled l h e = e
back_right_later end end' Changed l h e = well_placed_later end l.mfbwb.0 l.mfbwp e end' h
back_right_later end end' New l h e = e

-- a later end leaves a back pointer right
pub back_later : (end end' : ℕ) (p : Place) (l : Leader) → end ≤ end' → back_fine end p l ≡ true → back_fine end' p l ≡ true
unfolding back_fine
back_later end end' p l h e = let q = simp tests at e in simp tests (back_right_later end end' p.mark l h q.0, q.1)

pub fine_from : (mst : List ℕ) (m : ℕ) (p : Place) → record_right (record_at mst p) m p.deleted ≡ true → back_fine (end_of mst) p (leader_at mst p) ≡ true
    → record_fine mst m p ≡ true
fine_from mst m p a b = rw (fine_both mst m p, a, b)

pub settled_from : (mst : List ℕ) (m : ℕ) (p : Place) → record_right (settled_record mst p) m false ≡ true → no_back (leader_of (settled_record mst p)) ≡ true
    → settled_fine mst m p ≡ true
settled_from mst m p a b = rw (settled_both mst m p, a, b)

-- what is read of a place that stands, and of its settled version
pub place_reads : {mst : List ℕ} {m : ℕ} {p : Place} → PlaceStands mst m p → ReadsAs (record_at mst p) m p.deleted (leader_at mst p) (current_fields mst p)
place_reads {mst} {m} {p} s = fine_reads mst m p s.fine

pub settled_reads : {mst : List ℕ} {m : ℕ} {p : Place} → PlaceStands mst m p → p.mark ≡ Changed
    → ReadsAs (settled_record mst p) m false (leader_of (settled_record mst p)) (fields_of (settled_record mst p))
settled_reads {mst} {m} {p} s c = settled_fine_reads mst m p (s.settled c).fine

-- ---- THE THEOREM

module _ {mst xrf mst' : List ℕ} {May : ℕ → Type 0} {m at n : ℕ} (s : Sound mst xrf) (w : MstMoved mst xrf mst' May m at n) where
  -- a step none of whose bytes is touched
  abbrev pub Untouched : ℕ → Type 0
  Untouched a = (i : ℕ) → a ≤ i → i < a + mfrl_at mst a → (i < at) ⊎ (at + n ≤ i)

  member : (a : ℕ) → elem a (steps mst 64) ≡ true → MemberFacts mst 64 a
  member a i = member_facts mst a 64 s.way i

  -- where nothing before the end is touched
  pub step_before : end_of mst ≤ at → (a : ℕ) → elem a (steps mst 64) ≡ true → Untouched a
  step_before h a e i lo hi = let f = member a e in inl (omega arith)

  -- a step other than m's own place
  pub step_apart : (a : ℕ) → elem a (steps mst 64) ≡ true
      → ((p : Place) → entry_for (store mst xrf) m ≡ At p → PlaceStands mst m p → a ≡ place_address p → ⊥) → Untouched a
  step_apart a e other = go w.touched
    where
      go : Touched mst xrf mst' m at n → Untouched a
      go (beyond h k) = step_before h a e
      go (within p q f low high) = λ i lo hi.
          ⊎_elim (λ b. inl (omega arith)) (λ b. inr (omega arith))
          (steps_apart mst a (place_address p) 64 s.way e f.step (other p q f))

  -- a step that holds another MFN
  pub step_other : (o a : ℕ) {deleted : Bool} {l : Leader} {fs : List Field} → (o ≡ m → ⊥) → elem a (steps mst 64) ≡ true
      → ReadsAs (record_from mst a) o deleted l fs → Untouched a
  step_other o a ne e r =
      step_apart a e
      (λ p q f z.
      let own : ReadsAs (record_from mst a) m p.deleted (leader_at mst p) (current_fields mst p) = rw z (place_reads f) in
      ne (reads_mfn r own))

  -- a record that is not touched is read as before
  pub reads_kept : (o a : ℕ) {deleted : Bool} {l : Leader} {fs : List Field} → elem a (steps mst 64) ≡ true → Untouched a
      → ReadsAs (record_from mst a) o deleted l fs → ReadsAs (record_from mst' a) o deleted l fs
  reads_kept o a {l = l} e u r =
      let f = member a e in
      let g = control_facts mst' (capacity_of (length xrf)) w.control in
      let own : mfrl_at mst a ≡ l.mfrl = ap (λ (x : Leader). x.mfrl) r.leader in
      let up = w.end_up in
      reads_window mst a (end_of mst) r mst' (end_of mst') (omega arith) g.end_in
      (λ i lo hi. w.kept i (λ b. omega (arith, control_front i (w.named i b))) (u i lo (omega arith)))

  -- a place whose record and settled version are not touched
  module _ (o : ℕ) (p : Place) (f : PlaceStands mst o p) (u : Untouched (place_address p))
      (v : p.mark ≡ Changed → Untouched (back_address (leader_at mst p))) where
    kept_reads : ReadsAs (record_at mst' p) o p.deleted (leader_at mst p) (current_fields mst p)
    kept_reads = reads_kept o (place_address p) f.step u (place_reads f)

    kept_settled : (c : p.mark ≡ Changed) → ReadsAs (settled_record mst' p) o false (leader_of (settled_record mst p)) (fields_of (settled_record mst p))
    kept_settled c = rw kept_reads.leader (reads_kept o (back_address (leader_at mst p)) (f.settled c).step (v c) (settled_reads f c))

    pub place_kept : Kept mst mst' o p
    place_kept =
        record {
          stands =
              record {
                fine =
                    fine_from mst' o p kept_reads.right
                    (rw kept_reads.leader (back_later (end_of mst) (end_of mst') p (leader_at mst p) w.end_up (fine_facts mst o p f.fine).back));
                step = w.steps_kept (place_address p) f.step;
                settled = λ c.
                    record {
                      fine =
                          settled_from mst' o p (kept_settled c).right
                          (rw (kept_settled c).leader (settled_facts mst o p f.fine c (f.settled c).fine).no_back_lem);
                      step = rw kept_reads.leader (w.steps_kept (back_address (leader_at mst p)) (f.settled c).step);
                    };
              };
          same =
              record {
                leader = kept_reads.leader;
                fields = kept_reads.fields;
                settled = λ c. record { leader = (kept_settled c).leader; fields = (kept_settled c).fields };
              };
        }

  -- the place of another MFN
  pub other_kept : (o : ℕ) (p : Place) → (o ≡ m → ⊥) → PlaceStands mst o p → Kept mst mst' o p
  other_kept o p ne f =
      place_kept o p f (step_other o (place_address p) ne f.step (place_reads f))
      (λ c. step_other o (back_address (leader_at mst p)) ne (f.settled c).step (settled_reads f c))

  -- m's own settled version, which is at another step
  pub settled_kept : (p : Place) → entry_for (store mst xrf) m ≡ At p → PlaceStands mst m p → p.mark ≡ Changed
      → ReadsAs (record_from mst' (back_address (leader_at mst p))) m false (leader_of (settled_record mst p)) (fields_of (settled_record mst p))
  settled_kept p e f c =
      let a : ℕ = back_address (leader_at mst p) in
      let b : BackFacts (end_of mst) p (leader_at mst p) = back_changed (end_of mst) p (leader_at mst p) (fine_facts mst m p f.fine).back c in
      reads_kept m a (f.settled c).step
      (step_apart a (f.settled c).step
      (λ q i g z. let same : q ≡ p = cc in b.other (z ∙ ap (λ (r : Place). place_address r) same)))
      (settled_reads f c)

  -- with the XRF
  module _ {xrf' : List ℕ} (x : XrfMoved xrf xrf' m) where
    -- the entry of another MFN
    pub entry_kept : (o : ℕ) → (o ≡ m → ⊥) → 1 ≤ o → o < next_of mst → entry_for (store mst' xrf') o ≡ entry_for (store mst xrf) o
    entry_kept o ne low high = x.others o low ne (end_of mst') ∙ go (s.entries o low high)
      where
        go : EntryStands mst xrf o → entry_at xrf (end_of mst') o ≡ entry_for (store mst xrf) o
        go (is_gone_lem e) = entry_gone xrf (end_of mst) (end_of mst') o e ∙ sym e
        go (is_at p e f) = entry_later xrf (end_of mst) o p e (end_of mst') w.end_up ∙ sym e

    pub other_stands : (o : ℕ) → (o ≡ m → ⊥) → 1 ≤ o → o < next_of mst → EntryStands mst' xrf' o
    other_stands o ne low high = go (s.entries o low high)
      where
        go : EntryStands mst xrf o → EntryStands mst' xrf' o
        go (is_gone_lem e) = is_gone_lem (entry_kept o ne low high ∙ e)
        go (is_at p e f) = is_at p (entry_kept o ne low high ∙ e) (other_kept o p ne f).stands

    pub other_same : (o : ℕ) (p : Place) → (o ≡ m → ⊥) → 1 ≤ o → o < next_of mst → entry_for (store mst xrf) o ≡ At p → SameReading mst mst' p
    other_same o p ne low high e = go (s.entries o low high)
      where
        go : EntryStands mst xrf o → SameReading mst mst' p
        go (is_gone_lem g) = let z : ◌≡◌ {A = ℕ} 0 1 = cc in absurd (omega arith)
        go (is_at q g f) = let same : q ≡ p = cc in rw same at (other_kept o q ne f).same

    next_low : next_of mst ≤ next_of mst'
    next_low = go w.next
      where
        go : NextMoved mst mst' m → next_of mst ≤ next_of mst'
        go (stays e k) = omega arith
        go (goes_up e k) = omega arith

    own_known : m < next_of mst'
    own_known = go w.next
      where
        go : NextMoved mst mst' m → m < next_of mst'
        go (stays e k) = omega arith
        go (goes_up e k) = omega arith

    other_known : (o : ℕ) → (o ≡ m → ⊥) → o < next_of mst' → o < next_of mst
    other_known o ne h = go w.next
      where
        go : NextMoved mst mst' m → o < next_of mst
        go (stays e k) = omega arith
        go (goes_up e k) = ⊎_elim (λ l. l) (λ l. absurd (ne (omega arith))) (lt_or_ge o (next_of mst))

    -- the new store is sound if m's new entry stands
    pub moved_sound : EntryStands mst' xrf' m → Sound mst' xrf'
    unfolding lengths_permitted
    moved_sound own =
        sound_from
        (rw (w.long, x.long) s.lengths)
        (rw x.long w.control)
        (λ k low high. x.heads k ∙ s.heads k low (rw x.long at high))
        (λ o low high.
        let f = s.numbers in
        let up = next_low in
        let known = own_known in
        x.slots o (omega arith) (λ z. omega arith) ∙ s.free o (omega arith) (rw x.long at high))
        w.way
        (λ o low high. each o low high (ℕ_discrete o m))
      where
        each : (o : ℕ) → 1 ≤ o → o < next_of mst' → Dec (o ≡ m) → EntryStands mst' xrf' o
        each o low high (yes e) = rw e own
        each o low high (no ne) = other_stands o ne low (other_known o ne high)

-- ---- what is touched

pub moved_touches : {mst xrf mst' xrf' : List ℕ} {May : ℕ → Type 0} {m at n : ℕ} → MstMoved mst xrf mst' May m at n → XrfMoved xrf xrf' m
    → TouchesOnly (store mst xrf) (store mst' xrf') m
moved_touches {mst} {xrf} {mst'} {xrf'} {May} {m} {at} {n} w x =
    record {
      mst_length = w.long;
      xrf_length = x.long;
      mst_kept = λ i off. w.kept i (λ b. off (control_integer (w.named i b))) (out_of at n i (λ h. off (inside i h w.touched)));
      xrf_kept = λ i off. x.kept i (out_of (slot_at m) 4 i off);
    }
  where
    inside : (i : ℕ) → Within at n i → Touched mst xrf mst' m at n → MayChange (store mst xrf) (store mst' xrf') m i
    inside i h (beyond a b) = new_byte (omega (arith, h.0)) (omega (arith, h.1))
    inside i h (within p e f a b) = own_record p e (omega (arith, h.0), omega (arith, h.1))

-- ---- the writes: the XRF

pub xrf_same : (xrf : List ℕ) (m : ℕ) → XrfMoved xrf xrf m
xrf_same xrf m =
    record { long = refl; kept = λ i side. refl; heads = λ k. refl; others = λ o low ne end. refl; slots = λ o low ne. refl }

-- the entry of MFN m is written
pub xrf_entry : (xrf : List ℕ) (m : ℕ) (p : Place) → 1 ≤ m → m ≤ capacity_of (length xrf) → XrfMoved xrf (with_entry xrf m p) m
xrf_entry xrf m p low high =
    let slot : slot_at m + 4 ≤ length xrf = slot_in (length xrf) m low high in
    record {
      long = with_entry_length xrf m p slot;
      kept = λ i side. with_entry_byte xrf m p slot i side;
      heads = λ k. with_entry_head xrf m p slot k;
      others = λ o h ne end. with_entry_other xrf m p slot low o h ne end;
      slots = λ o h ne. with_entry_free xrf m p slot low o h ne;
    }

-- ---- the writes: the MST

-- nothing, and something within m's own record that leaves its MFRL
module _ {mst xrf : List ℕ} (s : Sound mst xrf) (m : ℕ) (known : m < next_of mst) where
  pub mst_same : MstMoved mst xrf mst NoByte m (end_of mst) 0
  mst_same =
      record {
        long = refl;
        control = s.control;
        next = stays refl known;
        end_up = omega arith;
        touched = beyond (omega arith) (omega arith);
        named = λ i b. absurd b;
        kept = λ i off side. refl;
        way = s.way;
        steps_kept = λ a e. e;
      }

  module _ (p : Place) (e : entry_for (store mst xrf) m ≡ At p) (f : PlaceStands mst m p) (at : ℕ) (bs : List ℕ) (from : place_address p ≤ at)
      (to : at + length bs ≤ place_address p + (leader_at mst p).mfrl) where
    own : MemberFacts mst 64 (place_address p)
    own = member_facts mst (place_address p) 64 s.way f.step

    low : 64 ≤ at
    low = let g = own in omega arith

    fits : at + length bs ≤ length mst
    fits = let g = own in let h = s.numbers in omega arith

    pub within_end : end_of (overwrite mst at bs) ≡ end_of mst
    within_end = end_placed mst at bs (omega (arith, low)) fits

    module _ (same : mfrl_at (overwrite mst at bs) (place_address p) ≡ (leader_at mst p).mfrl) where
      all_kept : MfrlKept mst (overwrite mst at bs) (steps mst 64)
      all_kept a i = go (ℕ_discrete a (place_address p))
        where
          go : Dec (a ≡ place_address p) → mfrl_at (overwrite mst at bs) a ≡ mfrl_at mst a
          go (yes z) = rw z same
          go (no ne) =
              let g = member_facts mst a 64 s.way i in
              let l = fits in
              let end = within_end in
              mfrl_kept mst (overwrite mst at bs) a (omega arith) (omega arith)
              (λ j lo hi.
              overwrite_other mst at bs j (omega arith)
              (⊎_elim (λ b. inl (omega arith)) (λ b. inr (omega arith)) (steps_apart mst a (place_address p) 64 s.way i f.step ne)))

      pub mst_within : MstMoved mst xrf (overwrite mst at bs) NoByte m at (length bs)
      mst_within =
          let h : 64 ≤ at = low in
          let l : at + length bs ≤ length mst = fits in
          record {
            long = overwrite_length mst at bs l;
            control = control_right_placed mst at bs (omega arith) l (capacity_of (length xrf)) ∙ s.control;
            next = stays (next_placed mst at bs (omega arith) l) known;
            end_up = rw within_end (omega arith);
            touched = within p e f from to;
            named = λ i b. absurd b;
            kept = λ i off side. overwrite_other mst at bs i (omega arith) side;
            way = arrives_same mst (overwrite mst at bs) within_end 64 all_kept ∙ s.way;
            steps_kept = λ a i. rw (steps_same mst (overwrite mst at bs) within_end 64 all_kept) i;
          }

-- a record of n bytes at the end
pub record AppendedTo (mst mst' : List ℕ) (May : ℕ → Type 0) (n : ℕ) : Type 0 where
  pub long : length mst' ≡ length mst
  pub end_is : end_of mst' ≡ end_moved (end_of mst + n)
  pub named : (i : ℕ) → May i → ControlByte i
  pub kept : (i : ℕ) → (May i → ⊥) → (i < end_of mst) ⊎ (end_of mst + n ≤ i) → get_or mst' i 0 ≡ get_or mst i 0

module _ {mst xrf mst' : List ℕ} {May : ℕ → Type 0} {n : ℕ} (s : Sound mst xrf) (a : AppendedTo mst mst' May n) (size : record_length n ≡ true)
    (mfrl : mfrl_at mst' (end_of mst) ≡ n) where
  all_kept_before : MfrlKept mst mst' (steps mst 64)
  all_kept_before b i =
      let g = member_facts mst b 64 s.way i in
      let h = end_moved_facts (end_of mst + n) in
      let e = a.end_is in
      mfrl_kept mst mst' b (omega arith) (omega arith)
      (λ j lo hi. a.kept j (λ c. omega (arith, control_front j (a.named j c))) (inl (omega arith)))

  pub mst_append : {m : ℕ} → control_fine (store mst' xrf) ≡ true → NextMoved mst mst' m → MstMoved mst xrf mst' May m (end_of mst) n
  mst_append control next =
      let g = end_moved_facts (end_of mst + n) in
      let e = a.end_is in
      record {
        long = a.long;
        control = control;
        next = next;
        end_up = omega arith;
        touched = beyond (omega arith) (omega arith);
        named = a.named;
        kept = a.kept;
        way = arrives_append mst mst' n size mfrl a.end_is 64 s.way all_kept_before;
        steps_kept = elem_kept mst mst' n size mfrl a.end_is 64 s.way all_kept_before;
      }

  -- the new record stands at a step
  pub append_step : elem (end_of mst) (steps mst' 64) ≡ true
  append_step = elem_new mst mst' n size mfrl a.end_is 64 s.way all_kept_before
