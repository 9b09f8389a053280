-- A sound store as facts. `sound_of` is a chain of tests; `stands` turns it into a record of what each test says, `sound` turns the record back,
-- and laws about sound stores speak of the record alone. From it follows what a call asks on a sound store: control record, entry and record
-- are never wrong there, so that answers 2, 6, 8 and 14 do not come.
use Rattle.std.specs.Prelude.{Err}
use Prim.Native.Nat.{ℕ, ◌+◌, ◌-◌, ◌/◌, ◌≤◌, ◌<◌}
use native.Mathlib.Omega.{arith}
use mathlib.Core.Path.{◌≡◌, refl, sym}
use mathlib.Core.Logic.{⊎_elim}
use mathlib.Core.Bool.{Bool, true, false, not, ◌&&◌, cond}
use mathlib.Core.List.{List, ◌∷◌}
use lib.Dec.{eqb, leb}
use lib.ListN.{length}
use borrow.Author.Tests.{le-leb, eqb-false}
use Rattle.word.proofs.Overwrite.{lt_or_ge}
use Rattle.layout.specs.Sizes.{capacity_of}
use Rattle.layout.specs.Entry.{place_address}
use Rattle.files.specs.CrossReference.{xrf_block, head_right, slot_free}
use Rattle.files.specs.Control.{next_of, count_of}
use Rattle.files.proofs.Count.{is_number_lem, count_is_lem}
use lib.IntN.{pos}
use Rattle.layout.specs.declared.entry.Mark.{Mark}
use Rattle.layout.specs.declared.entry.Mark.TheVariants.{Settled, Changed, New}
use Rattle.layout.specs.declared.entry.Place.{Place}
use Rattle.layout.specs.declared.entry.Entry.{Entry}
use Rattle.layout.specs.declared.entry.Entry.TheVariants.{Gone, Malformed, At}
use Rattle.word.proofs.Tests.{tests, false_true}
use Rattle.files.proofs.ControlRecord.{ControlFacts, control_facts}
use Rattle.files.proofs.CrossReference.{block_in}
use Rattle.store.specs.Answer.{Row, refuse, lowest, Answer}
use Rattle.store.specs.Reading.{lengths_permitted, control_fine, mfn_in_range, entry_for, place_for, is_malformed, is_gone, is_changed, leader_at, back_address, record_fine, settled_fine, version_fine}
use Rattle.store.specs.Refusals.{gated, named, fine, both_fine}
use Rattle.store.specs.declared.answer.Refusal.TheVariants.{NoMfn, BadEntry, Gone as GoneAnswer, BadRecord}
use Rattle.store.proofs.Gates.{LengthsFacts, lengths_facts, mfn_facts}
use Rattle.soundness.proofs.Counting.{all_to_at, all_to_all}
use Rattle.soundness.specs.Sound.{all_to, elem, implies, heads_right, rest_free, steps, arrives, place_sound, entry_sound, entries_sound, live_count, count_right, body_apart, body_sound, sound_apart, sound_of}
use Rattle.store.specs.Store.{store}

-- ---- the facts

-- the settled version of a changed record is right, and stands at a step
pub record SettledStands (mst : List ℕ) (m : ℕ) (p : Place) : Type 0 where
  pub fine : settled_fine mst m p ≡ true
  pub step : elem (back_address (leader_at mst p)) (steps mst 64) ≡ true

-- the record at a place is right and stands at a step, and so does its settled version if it is changed
pub record PlaceStands (mst : List ℕ) (m : ℕ) (p : Place) : Type 0 where
  pub fine : record_fine mst m p ≡ true
  pub step : elem (place_address p) (steps mst 64) ≡ true
  pub settled : p.mark ≡ Changed → SettledStands mst m p

-- the entry of MFN m is -2048, or names such a place
pub data EntryStands (mst xrf : List ℕ) (m : ℕ) : Type 0 where
  is_gone_lem : entry_for (store mst xrf) m ≡ Gone → EntryStands mst xrf m
  is_at : (p : Place) → entry_for (store mst xrf) m ≡ At p → PlaceStands mst m p → EntryStands mst xrf m

-- a store that is sound apart from RECCNT, fact by fact: what `sound_apart` tests
pub record Sound (mst xrf : List ℕ) : Type 0 where
  pub lengths : lengths_permitted (store mst xrf) ≡ true
  pub control : control_fine (store mst xrf) ≡ true
  pub sizes : LengthsFacts mst xrf
  pub numbers : ControlFacts mst (capacity_of (length xrf))
  pub heads : (k : ℕ) → 1 ≤ k → k ≤ length xrf / 512 → head_right xrf k ≡ true
  pub free : (m : ℕ) → next_of mst ≤ m → m ≤ capacity_of (length xrf) → slot_free xrf m ≡ true
  pub way : arrives mst 64 ≡ true
  pub entries : (m : ℕ) → 1 ≤ m → m < next_of mst → EntryStands mst xrf m

pub sound_from : {mst xrf : List ℕ} → lengths_permitted (store mst xrf) ≡ true → control_fine (store mst xrf) ≡ true
    → ((k : ℕ) → 1 ≤ k → k ≤ length xrf / 512 → head_right xrf k ≡ true)
    → ((m : ℕ) → next_of mst ≤ m → m ≤ capacity_of (length xrf) → slot_free xrf m ≡ true)
    → arrives mst 64 ≡ true
    → ((m : ℕ) → 1 ≤ m → m < next_of mst → EntryStands mst xrf m) → Sound mst xrf
sound_from {mst} {xrf} lengths control heads free way entries =
    record {
      lengths = lengths;
      control = control;
      sizes = lengths_facts mst xrf lengths;
      numbers = control_facts mst (capacity_of (length xrf)) control;
      heads = heads;
      free = free;
      way = way;
      entries = entries;
    }

-- ---- an entry

changed_is : (k : Mark) → is_changed k ≡ true → k ≡ Changed
changed_is Settled e = absurd (false_true e)
changed_is Changed e = refl
changed_is New e = absurd (false_true e)

implied : (a b : Bool) → implies a b ≡ true → a ≡ true → b ≡ true
implied true b e h = e
implied false b e h = absurd (false_true h)

implying : (a b : Bool) → (a ≡ true → b ≡ true) → implies a b ≡ true
implying true b h = h refl
implying false b h = refl

module _ (mst : List ℕ) (m : ℕ) (p : Place) where
  place_stands : place_sound mst (steps mst 64) m p ≡ true → PlaceStands mst m p
  unfolding place_sound
  place_stands e =
      let q = simp tests at e in
      record { fine = q.0.0; step = q.0.1; settled = λ c. back q.1 c }
    where
      back : implies (is_changed p.mark) (settled_fine mst m p && elem (back_address (leader_at mst p)) (steps mst 64)) ≡ true
          → p.mark ≡ Changed → SettledStands mst m p
      back e c =
          let r =
          simp tests at
          (implied (is_changed p.mark) (settled_fine mst m p && elem (back_address (leader_at mst p)) (steps mst 64)) e (rw c refl)) in
          record { fine = r.0; step = r.1 }

  place_sound_lem : PlaceStands mst m p → place_sound mst (steps mst 64) m p ≡ true
  unfolding place_sound
  place_sound_lem s =
      simp tests (
        (s.fine, s.step),
        implying (is_changed p.mark) (settled_fine mst m p && elem (back_address (leader_at mst p)) (steps mst 64))
            (λ c. let r = s.settled (changed_is p.mark c) in simp tests (r.fine, r.step)),
      )

module _ (mst xrf : List ℕ) (m : ℕ) where
  entry_stands : (e : Entry) → entry_for (store mst xrf) m ≡ e → entry_sound mst (steps mst 64) m e ≡ true → EntryStands mst xrf m
  unfolding entry_sound
  entry_stands Gone q t = is_gone_lem q
  entry_stands Malformed q t = absurd (false_true t)
  entry_stands (At p) q t = is_at p q (place_stands mst m p t)

  entry_sound_lem : EntryStands mst xrf m → entry_sound mst (steps mst 64) m (entry_for (store mst xrf) m) ≡ true
  unfolding entry_sound
  entry_sound_lem (is_gone_lem q) = rw q
  entry_sound_lem (is_at p q s) = rw q (place_sound_lem mst m p s)

-- ---- THE LAWS

module _ (mst xrf : List ℕ) where
  pub body_stands : lengths_permitted (store mst xrf) ≡ true → control_fine (store mst xrf) ≡ true → body_apart (store mst xrf) ≡ true → Sound mst xrf
  unfolding body_apart heads_right rest_free entries_sound
  body_stands lengths control e =
      let q = simp tests at e in
      sound_from lengths control
      (all_to_at (length xrf / 512) (head_right xrf) q.0.0.0)
      (λ m low high. free q.0.0.1 m low high)
      q.0.1
      (λ m low high.
      entry_stands mst xrf m (entry_for (store mst xrf) m) refl
      (all_to_at (next_of mst - 1) (λ (o : ℕ). entry_sound mst (steps mst 64) o (entry_for (store mst xrf) o)) q.1 m low (omega arith)))
    where
      free : all_to (capacity_of (length xrf)) (λ (m : ℕ). implies (leb (next_of mst) m) (slot_free xrf m)) ≡ true
          → (m : ℕ) → next_of mst ≤ m → m ≤ capacity_of (length xrf) → slot_free xrf m ≡ true
      free e m low high =
          let f = control_facts mst (capacity_of (length xrf)) control in
          implied (leb (next_of mst) m) (slot_free xrf m)
          (all_to_at (capacity_of (length xrf)) (λ (o : ℕ). implies (leb (next_of mst) o) (slot_free xrf o)) e m (omega arith) high)
          (le-leb (next_of mst) m low)

  pub stands : sound_of (store mst xrf) ≡ true → Sound mst xrf
  unfolding sound_of body_sound
  stands e = let q = simp tests at e in body_stands q.0.0 q.0.1 q.1.0

  pub apart_stands : sound_apart (store mst xrf) ≡ true → Sound mst xrf
  unfolding sound_apart
  apart_stands e = let q = simp tests at e in body_stands q.0.0 q.0.1 q.1

  -- and RECCNT
  pub stands_counted : sound_of (store mst xrf) ≡ true → count_of mst ≡ pos (live_count (store mst xrf))
  unfolding sound_of body_sound count_right
  stands_counted e = let q = simp tests at e in count_is_lem mst (live_count (store mst xrf)) q.1.1

  pub body_apart_lem : Sound mst xrf → body_apart (store mst xrf) ≡ true
  unfolding body_apart heads_right rest_free entries_sound
  body_apart_lem s =
      simp tests (
        (
          (
            all_to_all (length xrf / 512) (head_right xrf) s.heads,
            all_to_all (capacity_of (length xrf)) (λ (m : ℕ). implies (leb (next_of mst) m) (slot_free xrf m))
                (λ m low high. implying (leb (next_of mst) m) (slot_free xrf m) (λ t. s.free m (omega (arith, simp tests at t)) high)),
          ),
          s.way,
        ),
        all_to_all (next_of mst - 1) (λ (m : ℕ). entry_sound mst (steps mst 64) m (entry_for (store mst xrf) m))
            (λ m low high. entry_sound_lem mst xrf m (s.entries m low (omega arith))),
      )

  pub sound_apart_lem : Sound mst xrf → sound_apart (store mst xrf) ≡ true
  unfolding sound_apart
  sound_apart_lem s = simp tests ((s.lengths, s.control), body_apart_lem s)

  pub body_sound_lem : Sound mst xrf → count_of mst ≡ pos (live_count (store mst xrf)) → body_sound (store mst xrf) ≡ true
  unfolding body_sound count_right
  body_sound_lem s c = simp tests (body_apart_lem s, is_number_lem mst (live_count (store mst xrf)) c)

  pub sound : Sound mst xrf → count_of mst ≡ pos (live_count (store mst xrf)) → sound_of (store mst xrf) ≡ true
  unfolding sound_of
  sound s c = simp tests ((s.lengths, s.control), body_sound_lem s c)

-- the place of an entry
pub at_stands : {mst xrf : List ℕ} → Sound mst xrf → (m : ℕ) (p : Place) → 1 ≤ m → m < next_of mst → entry_for (store mst xrf) m ≡ At p → PlaceStands mst m p
at_stands {mst} {xrf} s m p low high e = go (s.entries m low high)
  where
    go : EntryStands mst xrf m → PlaceStands mst m p
    go (is_gone_lem g) = let z : ◌≡◌ {A = ℕ} 0 1 = cc in absurd (omega arith)
    go (is_at q g f) = let same : q ≡ p = cc in rw (← same) f

-- ---- what a call asks on a sound store

-- 4, 6, 7 and 8, where 6 never comes of a known MFN, and 8 never of one that is not gone
named_rows : (known malformed gone right : Bool) (rest : Answer) → (known ≡ true → malformed ≡ false) → (known ≡ true → gone ≡ false → right ≡ true)
    → cond (not known) (Err NoMfn) (cond malformed (Err BadEntry) (cond gone (Err GoneAnswer) (cond (not right) (Err BadRecord) rest)))
    ≡ cond (not known) (Err NoMfn) (cond gone (Err GoneAnswer) rest)
named_rows true malformed true right rest a b = rw (a refl)
named_rows true malformed false right rest a b = rw (a refl, b refl refl)
named_rows false malformed gone right rest a b = refl

pub version_fine_lem : (mst : List ℕ) (m : ℕ) (p : Place) → PlaceStands mst m p → version_fine mst m p ≡ true
unfolding version_fine
version_fine_lem mst m p s = go (is_changed p.mark) refl
  where
    go : (t : Bool) → is_changed p.mark ≡ t → cond t (settled_fine mst m p) true ≡ true
    go true e = (s.settled (changed_is p.mark e)).fine
    go false e = refl

module _ {mst xrf : List ℕ} (s : Sound mst xrf) where
  -- 1 and 2
  pub gated_sound : (rest : List Row) → lowest (gated (store mst xrf) rest) ≡ lowest rest
  gated_sound rest = rw (s.lengths, s.control)

  module _ (m : ℕ) where
    module _ (known : mfn_in_range mst m ≡ true) where
      pub known_stands : EntryStands mst xrf m
      known_stands = let q = mfn_facts mst m known in s.entries m q.low q.high

      -- 6
      pub not_malformed : is_malformed (entry_for (store mst xrf) m) ≡ false
      not_malformed = go known_stands
        where
          go : EntryStands mst xrf m → is_malformed (entry_for (store mst xrf) m) ≡ false
          go (is_gone_lem e) = rw e
          go (is_at p e f) = rw e

      module _ (there : is_gone (entry_for (store mst xrf) m) ≡ false) where
        -- the place that is there
        pub place_for_stands : PlaceStands mst m (place_for (store mst xrf) m)
        place_for_stands = go known_stands
          where
            go : EntryStands mst xrf m → PlaceStands mst m (place_for (store mst xrf) m)
            go (is_gone_lem e) = absurd (false_true (sym (rw e at there)))
            go (is_at p e f) = rw e f

        pub entry_for_place : entry_for (store mst xrf) m ≡ At (place_for (store mst xrf) m)
        entry_for_place = go known_stands
          where
            go : EntryStands mst xrf m → entry_for (store mst xrf) m ≡ At (place_for (store mst xrf) m)
            go (is_gone_lem e) = absurd (false_true (sym (rw e at there)))
            go (is_at p e f) = rw e

        -- 8, where the record is used, and where its settled version is too
        pub fine_sound : fine (store mst xrf) m ≡ true
        fine_sound = place_for_stands.fine

        pub both_fine_sound : both_fine (store mst xrf) m ≡ true
        both_fine_sound = simp tests (place_for_stands.fine, version_fine_lem mst m (place_for (store mst xrf) m) place_for_stands)

    pub named_fine : (rest : List Row) → lowest (named (store mst xrf) m (fine (store mst xrf) m) rest)
        ≡ lowest (refuse NoMfn (not (mfn_in_range mst m)) ∷ refuse GoneAnswer (is_gone (entry_for (store mst xrf) m)) ∷ rest)
    named_fine rest =
        named_rows (mfn_in_range mst m) (is_malformed (entry_for (store mst xrf) m)) (is_gone (entry_for (store mst xrf) m)) (fine (store mst xrf) m) (lowest rest) not_malformed fine_sound

    pub named_both : (rest : List Row) → lowest (named (store mst xrf) m (both_fine (store mst xrf) m) rest)
        ≡ lowest (refuse NoMfn (not (mfn_in_range mst m)) ∷ refuse GoneAnswer (is_gone (entry_for (store mst xrf) m)) ∷ rest)
    named_both rest =
        named_rows (mfn_in_range mst m) (is_malformed (entry_for (store mst xrf) m)) (is_gone (entry_for (store mst xrf) m)) (both_fine (store mst xrf) m) (lowest rest) not_malformed both_fine_sound

  -- 6 of a create, where 5 does not come
  pub create_row : next_of mst ≤ capacity_of (length xrf) → head_right xrf (xrf_block (next_of mst)) && slot_free xrf (next_of mst) ≡ true
  create_row h =
      let f = s.numbers in
      simp tests (
        s.heads (xrf_block (next_of mst)) (omega arith) (block_in (length xrf) (next_of mst) f.next_low h),
        s.free (next_of mst) (omega arith) h,
      )

  pub below_capacity : eqb (next_of mst) (capacity_of (length xrf) + 1) ≡ false → next_of mst ≤ capacity_of (length xrf)
  below_capacity e =
      let f = s.numbers in
      let d = eqb-false (next_of mst) (capacity_of (length xrf) + 1) e in
      ⊎_elim (λ h. omega arith) (λ h. absurd (d (omega arith))) (lt_or_ge (next_of mst) (capacity_of (length xrf) + 1))
