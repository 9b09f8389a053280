-- Two cards, one read by a rule and one by the rule of today, that have the same end, the same NXTMFN and the same bytes behind the control
-- record (`SameBehind`). All that is read of a record stands there, since a well-formed place has an address of 64 or more. So both read the same:
-- every view, every step, and whether the store is sound apart from RECCNT. A card of the old rule and the same card migrated are two such cards,
-- and so are a card and the same card recounted.
use Rattle.std.specs.Prelude.{Ok, Err}
use Prim.Native.Nat.{ℕ, zero, suc, ◌+◌, ◌-◌, ◌≤◌}
use native.Mathlib.Omega.{arith}
use mathlib.Core.Path.{◌≡◌, refl, sym, ap, ◌∙◌}
use mathlib.Core.Logic.{⊎_elim}
use mathlib.Core.Bool.{Bool, true, false, not, ◌&&◌, cond}
use mathlib.Core.List.{List, ◌∷◌}
use lib.Dec.{leb}
use lib.ListN.{length}
use Rattle.word.specs.Overwrite.{part}
use Rattle.word.proofs.Tests.{tests, and_left}
use Rattle.layout.specs.Sizes.{end_moved, record_length, capacity_of}
use Rattle.layout.specs.Entry.{place_address, is_settled, is_changed, is_new}
use Rattle.layout.specs.Leader.{leader_of}
use Rattle.layout.specs.declared.entry.Mark.{Mark}
use Rattle.layout.specs.declared.entry.Mark.TheVariants.{Settled, Changed, New}
use Rattle.layout.specs.declared.entry.Place.{Place}
use Rattle.layout.specs.declared.entry.Entry.{Entry}
use Rattle.layout.specs.declared.entry.Entry.TheVariants.{Gone, Malformed, At}
use Rattle.layout.proofs.Facts.{well_placed_facts, end_moved_facts}
use Rattle.files.specs.Control.{offsets_from, next_of, end_from, end_of, control_right_from, count_of, count_is}
use Rattle.files.specs.CrossReference.{entry_at}
use Rattle.files.proofs.ControlRecord.{control_facts}
use Rattle.files.proofs.CrossReference.{entry_well_placed}
use Rattle.record.specs.Record.{back_address}
use Rattle.record.specs.Directory.{tag_at, pos_at, len_at}
use Rattle.record.specs.Fields.{fields_of, occurrences_of, find_of}
use Rattle.record.proofs.Facts.{well_formed_both}
use Rattle.store.specs.Store.{store}
use Rattle.store.specs.Answer.{Row, refuse, lowest, number_of, after, Answer}
use Rattle.store.specs.Reading.{lengths_permitted, mfn_in_range, place_in}
use Rattle.store.specs.declared.answer.Refusal.TheVariants.{BadLength, NoMfn, BadEntry, Gone as GoneAnswer, BadRecord, Deleted, NeverSettled}
use Rattle.store.proofs.Gates.{Refusing, after_done, after_refused, after_cases, holds, named_list, list_done, back_changed}
use Rattle.views.specs.Views.{found_start, found_length, shown_at}
use Rattle.views.proofs.ViewAnswers.{uncounted}
use Rattle.views.specs.Fields.{handed_out}
use Rattle.asking.specs.State.{state_shown}
use Rattle.asking.specs.Listing.{Lists, listed_over}
use Rattle.soundness.specs.Sound.{elem, implies}
use Rattle.soundness.proofs.Counting.{all_to_same}
use Rattle.migrating.specs.Readings.{record_by, leader_by, back_by, fine_by, settled_fine_by, both_fine_by, named_by, state_by, on_current_by, settled_record_by, settled_address_by, on_settled_by, found_rows, found_shown, view_by, settled_view_by, index_rows, index_shown, field_by, settled_field_by, list_shown, mfrl_by, next_step_by, steps_in_by, arrives_in_by, steps_by, arrives_by, entry_sound_by, body_apart_by, apart_by, body_sound_by, sound_by, live_count_by}
use Rattle.migrating.specs.Theorems.{SameBytes}

-- ---- a call by what is read: where the tables ask the same, the same is shown

-- 1, 4, 6, 7 and 8, and the rows behind them; both control records are right
abbrev table : Bool → Bool → Entry → Bool → Answer → Answer
table lengths known e ok rest = cond (not lengths) (Err BadLength) (named_list known e ok rest)

-- refused by 1 to 8, before anything is asked of a record
pub record Unread (a : Answer) : Type 0 where
  pub refusing : Refusing a
  pub low : number_of a ≤ 8

-- a call that is refused so shows the same, wherever it looked
abbrev pub EmptyRefused : {A : Type 0} → (Answer → ℕ → List ℕ → A) → Type 0
EmptyRefused show = (a : Answer) → Unread a → (at at' : ℕ) (rec rec' : List ℕ) → show a at rec ≡ show a at' rec'

pub found_empty : (tag occ : ℕ) → EmptyRefused (found_shown tag occ)
unfolding shown_at
found_empty tag occ a u at at' rec rec' =
    let h = u.refusing in
    rw (
      after_refused a (at + found_start (find_of rec tag occ)) 0 h,
      after_refused a (found_length (find_of rec tag occ)) 0 h,
      after_refused a (at' + found_start (find_of rec' tag occ)) 0 h,
      after_refused a (found_length (find_of rec' tag occ)) 0 h,
      uncounted a (occurrences_of (fields_of rec) tag) (omega (arith, u.low)),
      uncounted a (occurrences_of (fields_of rec') tag) (omega (arith, u.low)),
    )

pub index_empty : (i : ℕ) → EmptyRefused (index_shown i)
unfolding handed_out
index_empty i a u at at' rec rec' =
    let h = u.refusing in
    rw (
      after_refused a (tag_at rec i) 0 h,
      after_refused a (at + ((leader_of rec).base + pos_at rec i)) 0 h,
      after_refused a (len_at rec i) 0 h,
      after_refused a (tag_at rec' i) 0 h,
      after_refused a (at' + ((leader_of rec').base + pos_at rec' i)) 0 h,
      after_refused a (len_at rec' i) 0 h,
    )

pub list_empty : (l : Lists) → EmptyRefused (list_shown l)
list_empty l a u at at' rec rec' =
    let h = u.refusing in
    rw (
      after_refused a (leader_of rec).nvf 0 h,
      after_refused a (listed_over at rec l) l h,
      after_refused a (leader_of rec').nvf 0 h,
      after_refused a (listed_over at' rec' l) l h,
    )

module _ (lengths known : Bool) where
  -- an entry that has no place is refused, and so is a record that is not right
  no_place : (a : Answer) → Unread a → Unread (cond (not lengths) (Err BadLength) (cond (not known) (Err NoMfn) a))
  unfolding number_of
  no_place a h = go lengths known
    where
      go : (l k : Bool) → Unread (cond (not l) (Err BadLength) (cond (not k) (Err NoMfn) a))
      go false k = record { refusing = λ z. omega arith; low = omega arith }
      go true false = record { refusing = λ z. omega arith; low = omega arith }
      go true true = h

  gone_refused : Unread (table lengths known Gone true (Ok tt))
  unfolding number_of
  gone_refused = no_place (Err GoneAnswer) (record { refusing = λ z. omega arith; low = omega arith })

  malformed_refused : Unread (table lengths known Malformed true (Ok tt))
  unfolding number_of
  malformed_refused = no_place (Err BadEntry) (record { refusing = λ z. omega arith; low = omega arith })

  wrong_refused : (p : Place) → Unread (table lengths known (At p) false (Ok tt))
  unfolding number_of
  wrong_refused p = no_place (Err BadRecord) (record { refusing = λ z. omega arith; low = omega arith })

  -- two readings of one entry
  module _ {A : Type 0} (ok ok' : Place → Bool) (rest rest' : Place → Answer) (show show' : Answer → Place → A) where
    shown_same : (e : Entry)
        → ((a : Answer) → Unread a → (p : Place) → show a p ≡ show' a p)
        → ((p : Place) → e ≡ At p → ok p ≡ ok' p)
        → ((p : Place) → e ≡ At p → ok' p ≡ true → (rest p ≡ rest' p) × ((a : Answer) → show a p ≡ show' a p))
        → show (table lengths known e (ok (place_in e)) (rest (place_in e))) (place_in e) ≡ show' (table lengths known e (ok' (place_in e)) (rest' (place_in e))) (place_in e)
    shown_same Gone empty same more = empty _ gone_refused _
    shown_same Malformed empty same more = empty _ malformed_refused _
    shown_same (At p) empty same more = rw (same p refl) (go (ok' p) (more p refl))
      where
        go : (b : Bool) → (b ≡ true → (rest p ≡ rest' p) × ((a : Answer) → show a p ≡ show' a p))
            → show (table lengths known (At p) b (rest p)) p ≡ show' (table lengths known (At p) b (rest' p)) p
        go false h = empty _ (wrong_refused p) p
        go true h = let q = h refl in rw q.0 (q.1 _)

  -- a call that is done read a record at a place
  table_done : (e : Entry) (ok : Bool) (rest : Answer) → table lengths known e ok rest ≡ Ok tt → (e ≡ At (place_in e)) × (ok ≡ true)
  unfolding number_of
  table_done e ok rest h =
      let a = holds lengths (Err BadLength) _ (λ z. omega arith) h in
      let q = list_done known e ok rest a.1 in
      (q.1, q.2)

-- ---- the two cards

-- one that is right by a rule, and one that is right by the rule of today
pub record SameBehind (from : ℕ) (mst mst' : List ℕ) (capacity : ℕ) : Type 0 where
  pub right : control_right_from from mst capacity ≡ true
  pub right_now : control_right_from offsets_from mst' capacity ≡ true
  pub long : length mst' ≡ length mst
  pub next : next_of mst' ≡ next_of mst
  pub end : end_from offsets_from mst' ≡ end_from from mst
  pub parts : (at n : ℕ) → 64 ≤ at → part mst' at n ≡ part mst at n

module _ {from : ℕ} (mst mst' xrf : List ℕ) (behind : SameBehind from mst mst' (capacity_of (length xrf))) where
  same_end : end_from offsets_from mst' ≡ end_from from mst
  same_end = behind.end

  -- ---- a record

  -- of the second card, with the end that both have
  abbrev read_now : ℕ → List ℕ
  read_now at = part mst' at (end_from from mst - at)

  read_same : (at : ℕ) → 64 ≤ at → read_now at ≡ record_by from mst at
  read_same at h = behind.parts at (end_from from mst - at) h

  record_same : (at : ℕ) → 64 ≤ at → record_by offsets_from mst' at ≡ record_by from mst at
  record_same at h = rw same_end (read_same at h)

  module _ (m : ℕ) (p : Place) (low : 64 ≤ place_address p) where
    fine_same : fine_by offsets_from mst' m p ≡ fine_by from mst m p
    unfolding fine_by
    fine_same = rw (record_same (place_address p) low, same_end)

    back_same : back_by offsets_from mst' p ≡ back_by from mst p
    back_same = rw (record_same (place_address p) low)

    -- a changed record that is well formed has a well-formed back place
    back_low : fine_by from mst m p ≡ true → p.mark ≡ Changed → 64 ≤ back_by from mst p
    unfolding fine_by
    back_low e k =
        let q = simp tests at (sym (well_formed_both (record_by from mst (place_address p)) (end_from from mst) m p) ∙ e) in
        (back_changed (end_from from mst) p (leader_by from mst p) q.1 k).facts.above

    settled_fine_same : 64 ≤ back_by from mst p → settled_fine_by offsets_from mst' m p ≡ settled_fine_by from mst m p
    unfolding settled_fine_by
    settled_fine_same h = rw (record_same (place_address p) low, record_same (back_by from mst p) h, same_end)

    -- with its settled version
    both_same : both_fine_by offsets_from mst' m p ≡ both_fine_by from mst m p
    both_same = rw fine_same (go (fine_by from mst m p) refl)
      where
        by : (k : Mark) → p.mark ≡ k → fine_by from mst m p ≡ true
            → cond (is_changed k) (settled_fine_by offsets_from mst' m p) true ≡ cond (is_changed k) (settled_fine_by from mst m p) true
        by Settled e f = refl
        by Changed e f = settled_fine_same (back_low f e)
        by New e f = refl

        go : (b : Bool) → fine_by from mst m p ≡ b
            → (b && cond (is_changed p.mark) (settled_fine_by offsets_from mst' m p) true)
            ≡ (b && cond (is_changed p.mark) (settled_fine_by from mst m p) true)
        go false e = refl
        go true e = by p.mark refl e

    settled_record_same : fine_by from mst m p ≡ true
        → (settled_record_by offsets_from mst' p ≡ settled_record_by from mst p) × (settled_address_by offsets_from mst' p ≡ settled_address_by from mst p)
    settled_record_same f = go p.mark refl
      where
        go : (k : Mark) → p.mark ≡ k
            → (cond (is_changed k) (record_by offsets_from mst' (back_by offsets_from mst' p)) (record_by offsets_from mst' (place_address p))
            ≡ cond (is_changed k) (record_by from mst (back_by from mst p)) (record_by from mst (place_address p)))
            × (cond (is_changed k) (back_by offsets_from mst' p) (place_address p) ≡ cond (is_changed k) (back_by from mst p) (place_address p))
        go Settled e = (record_same (place_address p) low, refl)
        go Changed e = (rw back_same (record_same (back_by from mst p) (back_low f e)), back_same)
        go New e = (record_same (place_address p) low, refl)

    -- the record that the settled view reads stands behind the control record
    settled_address_low : fine_by from mst m p ≡ true → 64 ≤ settled_address_by from mst p
    settled_address_low f = go p.mark refl
      where
        go : (k : Mark) → p.mark ≡ k → 64 ≤ cond (is_changed k) (back_by from mst p) (place_address p)
        go Settled e = low
        go Changed e = back_low f e
        go New e = low

  -- ---- an entry

  entry_low : (m : ℕ) (p : Place) → entry_at xrf (end_from from mst) m ≡ At p → 64 ≤ place_address p
  entry_low m p e = (well_placed_facts (end_from from mst) p.block.0 p.offset (entry_well_placed xrf (end_from from mst) m p e)).above

  known_same : (m : ℕ) → mfn_in_range mst' m ≡ mfn_in_range mst m
  unfolding mfn_in_range
  known_same m = rw behind.next

  pub lengths_same : lengths_permitted (store mst' xrf) ≡ lengths_permitted (store mst xrf)
  unfolding lengths_permitted
  lengths_same = rw behind.long

  -- ---- the views

  right_both : (control_right_from offsets_from mst' (capacity_of (length xrf)) ≡ true) × (control_right_from from mst (capacity_of (length xrf)) ≡ true)
  right_both = (behind.right_now, behind.right)

  -- the settled version of the second card, with the end that both have
  abbrev back_now : Place → ℕ
  back_now p = back_address (leader_of (read_now (place_address p)))

  abbrev settled_now : Place → List ℕ
  settled_now p = cond (is_changed p.mark) (read_now (back_now p)) (read_now (place_address p))

  abbrev settled_at_now : Place → ℕ
  settled_at_now p = cond (is_changed p.mark) (back_now p) (place_address p)

  pub state_same : (m : ℕ) → state_by offsets_from (store mst' xrf) m ≡ state_by from (store mst xrf) m
  unfolding state_by
  state_same m =
      rw (right_both.0, right_both.1, lengths_same, known_same m, same_end)
      (shown_same (lengths_permitted (store mst xrf)) (mfn_in_range mst m)
      (fine_by offsets_from mst' m) (fine_by from mst m)
      (λ p. (Ok tt)) (λ p. (Ok tt))
      (λ a p. state_shown a p.mark p.deleted) (λ a p. state_shown a p.mark p.deleted)
      (entry_at xrf (end_from from mst) m)
      (λ a h p. refl)
      (λ p e. fine_same m p (entry_low m p e))
      (λ p e f. (refl, λ a. refl)))

  -- a call that shows a version, whatever it asks and shows of the record
  module _ (m : ℕ) (rows : List ℕ → List Row) where
    -- the rows behind 8, of a record that is read
    abbrev current_rest : List ℕ → Place → Answer
    current_rest rec p = cond p.deleted (Err Deleted) (lowest (rows rec))

    abbrev settled_rest : List ℕ → Place → Answer
    settled_rest rec p = cond (p.deleted && is_settled p.mark) (Err Deleted) (cond (is_new p.mark) (Err NeverSettled) (lowest (rows rec)))

    module _ {A : Type 0} (show : Answer → ℕ → List ℕ → A) (empty : EmptyRefused show) where
      pub current_same : on_current_by offsets_from (store mst' xrf) m rows show ≡ on_current_by from (store mst xrf) m rows show
      current_same =
          rw (right_both.0, right_both.1, lengths_same, known_same m, same_end)
          (shown_same (lengths_permitted (store mst xrf)) (mfn_in_range mst m)
          (fine_by offsets_from mst' m) (fine_by from mst m)
          (λ p. current_rest (read_now (place_address p)) p) (λ p. current_rest (record_by from mst (place_address p)) p)
          (λ a p. show a (place_address p) (read_now (place_address p)))
          (λ a p. show a (place_address p) (record_by from mst (place_address p)))
          (entry_at xrf (end_from from mst) m)
          (λ a h p. empty a h _ _ _ _)
          (λ p e. fine_same m p (entry_low m p e))
          (λ p e f. let r = read_same (place_address p) (entry_low m p e) in (rw r refl, λ a. rw r refl)))

      pub settled_same : on_settled_by offsets_from (store mst' xrf) m rows show ≡ on_settled_by from (store mst xrf) m rows show
      settled_same =
          rw (right_both.0, right_both.1, lengths_same, known_same m, same_end)
          (shown_same (lengths_permitted (store mst xrf)) (mfn_in_range mst m)
          (both_fine_by offsets_from mst' m) (both_fine_by from mst m)
          (λ p. settled_rest (settled_now p) p) (λ p. settled_rest (settled_record_by from mst p) p)
          (λ a p. show a (settled_at_now p) (settled_now p))
          (λ a p. show a (settled_address_by from mst p) (settled_record_by from mst p))
          (entry_at xrf (end_from from mst) m)
          (λ a h p. empty a h _ _ _ _)
          (λ p e. both_same m p (entry_low m p e))
          (λ p e f.
          let r : (settled_now p ≡ settled_record_by from mst p) × (settled_at_now p ≡ settled_address_by from mst p)
          = rw same_end at (settled_record_same m p (entry_low m p e) (and_left (fine_by from mst m p) _ f)) in
          (rw r.0 refl, λ a. rw (r.0, r.1) refl)))

    -- where it is done, the version stands behind the control record
    abbrev place : Place
    place = place_in (entry_at xrf (end_from from mst) m)

    abbrev current_asked : List Row
    current_asked =
        named_by from (store mst xrf) m (fine_by from mst m place)
        (refuse Deleted place.deleted ∷ rows (record_by from mst (place_address place)))

    current_low : lowest current_asked ≡ Ok tt → 64 ≤ place_address place
    current_low d =
        let q = table_done (lengths_permitted (store mst xrf)) (mfn_in_range mst m) (entry_at xrf (end_from from mst) m) (fine_by from mst m place)
        (current_rest (record_by from mst (place_address place)) place) (rw right_both.1 at d) in
        entry_low m place q.0

    abbrev settled_asked : List Row
    settled_asked =
        named_by from (store mst xrf) m (both_fine_by from mst m place)
        (refuse Deleted (place.deleted && is_settled place.mark)
        ∷ refuse NeverSettled (is_new place.mark)
        ∷ rows (settled_record_by from mst place))

    settled_low : lowest settled_asked ≡ Ok tt → 64 ≤ settled_address_by from mst place
    settled_low d =
        let q = table_done (lengths_permitted (store mst xrf)) (mfn_in_range mst m) (entry_at xrf (end_from from mst) m) (both_fine_by from mst m place)
        (settled_rest (settled_record_by from mst place) place) (rw right_both.1 at d) in
        settled_address_low m place (entry_low m place q.0) (and_left (fine_by from mst m place) _ q.1)

  -- ---- the bytes shown

  bytes_same : (a : Answer) (at n len : ℕ) → (a ≡ Ok tt → 64 ≤ at) → SameBytes (store mst xrf) (store mst' xrf) (after a (at + n) 0) (after a len 0)
  bytes_same a at n len low =
      ⊎_elim
      (λ d. rw (after_done a (at + n) 0 d.0, after_done a len 0 d.0) (behind.parts (at + n) len (omega (arith, low d.0))))
      (λ r. rw (after_refused a (at + n) 0 r.0, after_refused a len 0 r.0) refl)
      (after_cases {A = ℕ} a 1 0)

  module _ (m tag occ : ℕ) where
    pub view_bytes_same : SameBytes (store mst xrf) (store mst' xrf) (view_by from (store mst xrf) m tag occ).start (view_by from (store mst xrf) m tag occ).len
    unfolding view_by shown_at
    view_bytes_same = bytes_same _ _ _ _ (current_low m (found_rows tag occ))

    pub settled_bytes_same : SameBytes (store mst xrf) (store mst' xrf) (settled_view_by from (store mst xrf) m tag occ).start (settled_view_by from (store mst xrf) m tag occ).len
    unfolding settled_view_by shown_at
    settled_bytes_same = bytes_same _ _ _ _ (settled_low m (found_rows tag occ))

  module _ (m i : ℕ) where
    pub field_bytes_same : SameBytes (store mst xrf) (store mst' xrf) (field_by from (store mst xrf) m i).start (field_by from (store mst xrf) m i).len
    unfolding field_by handed_out
    field_bytes_same = bytes_same _ _ _ _ (current_low m (index_rows i))

    pub settled_field_bytes_same : SameBytes (store mst xrf) (store mst' xrf) (settled_field_by from (store mst xrf) m i).start (settled_field_by from (store mst xrf) m i).len
    unfolding settled_field_by handed_out
    settled_field_bytes_same = bytes_same _ _ _ _ (settled_low m (index_rows i))

  -- ---- the steps

  -- the next step, by MFRL and the end
  abbrev step_to : ℕ → ℕ → ℕ → ℕ
  step_to at mfrl end = cond (record_length mfrl && leb (at + mfrl) end) (end_moved (at + mfrl)) (end + 1)

  next_same : (at : ℕ) → 64 ≤ at → next_step_by offsets_from mst' at ≡ next_step_by from mst at
  unfolding next_step_by
  next_same at h =
      let mfrl : mfrl_by offsets_from mst' at ≡ mfrl_by from mst at = ap (λ (r : List ℕ). (leader_of r).mfrl) (record_same at h) in
      ap (λ (k : ℕ). step_to at k (end_of mst')) mfrl ∙ ap (step_to at (mfrl_by from mst at)) same_end

  next_low : (at : ℕ) → 64 ≤ at → 64 ≤ next_step_by from mst at
  unfolding next_step_by
  next_low at h = go (record_length (mfrl_by from mst at) && leb (at + mfrl_by from mst at) (end_from from mst))
    where
      go : (b : Bool) → 64 ≤ cond b (end_moved (at + mfrl_by from mst at)) (end_from from mst + 1)
      go true = omega (arith, (end_moved_facts (at + mfrl_by from mst at)).low)
      go false = omega (arith, (control_facts mst (capacity_of (length xrf)) behind.right).end_low)

  steps_in_same : (n at : ℕ) → 64 ≤ at → steps_in_by offsets_from n mst' at ≡ steps_in_by from n mst at
  unfolding steps_in_by
  steps_in_same zero at h = refl
  steps_in_same (suc n) at h = rw (next_same at h, steps_in_same n (next_step_by from mst at) (next_low at h), same_end)

  arrives_in_same : (n at : ℕ) → 64 ≤ at → arrives_in_by offsets_from n mst' at ≡ arrives_in_by from n mst at
  unfolding arrives_in_by
  arrives_in_same zero at h = rw same_end
  arrives_in_same (suc n) at h = rw (next_same at h, arrives_in_same n (next_step_by from mst at) (next_low at h), same_end)

  pub steps_are_same : steps_by offsets_from mst' ≡ steps_by from mst
  unfolding steps_by
  steps_are_same = rw same_end (steps_in_same (end_from from mst - 64) 64 (omega arith))

  arrives_same : arrives_by offsets_from mst' ≡ arrives_by from mst
  unfolding arrives_by
  arrives_same = rw same_end (arrives_in_same (end_from from mst - 64) 64 (omega arith))

  -- ---- a sound store

  place_sound_same : (l : List ℕ) (m : ℕ) (p : Place) → 64 ≤ place_address p
      → entry_sound_by offsets_from mst' l m (At p) ≡ entry_sound_by from mst l m (At p)
  unfolding entry_sound_by
  place_sound_same l m p low = rw (fine_same m p low) (go (fine_by from mst m p) refl)
    where
      by : (k : Mark) → p.mark ≡ k → fine_by from mst m p ≡ true
          → implies (is_changed k) (settled_fine_by offsets_from mst' m p && elem (back_by offsets_from mst' p) l)
          ≡ implies (is_changed k) (settled_fine_by from mst m p && elem (back_by from mst p) l)
      by Settled e f = refl
      by Changed e f = rw (settled_fine_same m p low (back_low m p low f e), back_same m p low)
      by New e f = refl

      go : (b : Bool) → fine_by from mst m p ≡ b
          → (b && elem (place_address p) l && implies (is_changed p.mark) (settled_fine_by offsets_from mst' m p && elem (back_by offsets_from mst' p) l))
          ≡ (b && elem (place_address p) l && implies (is_changed p.mark) (settled_fine_by from mst m p && elem (back_by from mst p) l))
      go false e = refl
      go true e = rw (by p.mark refl e)

  entry_sound_same : (l : List ℕ) (m : ℕ)
      → entry_sound_by offsets_from mst' l m (entry_at xrf (end_from from mst) m) ≡ entry_sound_by from mst l m (entry_at xrf (end_from from mst) m)
  unfolding entry_sound_by
  entry_sound_same l m = go (entry_at xrf (end_from from mst) m) (entry_low m)
    where
      go : (e : Entry) → ((p : Place) → e ≡ At p → 64 ≤ place_address p) → entry_sound_by offsets_from mst' l m e ≡ entry_sound_by from mst l m e
      go Gone low = refl
      go Malformed low = refl
      go (At p) low = place_sound_same l m p (low p refl)

  body_same : body_apart_by offsets_from (store mst' xrf) ≡ body_apart_by from (store mst xrf)
  unfolding body_apart_by
  body_same =
      rw (
        arrives_same,
        steps_are_same,
        behind.next,
        same_end,
        all_to_same (next_of mst - 1)
            (λ m. entry_sound_by offsets_from mst' (steps_by from mst) m (entry_at xrf (end_from from mst) m))
            (λ m. entry_sound_by from mst (steps_by from mst) m (entry_at xrf (end_from from mst) m))
            (λ m low high. entry_sound_same (steps_by from mst) m),
      )

  pub apart_same : apart_by offsets_from (store mst' xrf) ≡ apart_by from (store mst xrf)
  unfolding apart_by
  apart_same = rw (right_both.0, right_both.1, lengths_same, body_same)

  pub live_same : live_count_by offsets_from (store mst' xrf) ≡ live_count_by from (store mst xrf)
  unfolding live_count_by
  live_same = rw (behind.next, behind.end)

  -- and with it, where both hold the same
  pub sound_same : count_of mst' ≡ count_of mst → sound_by offsets_from (store mst' xrf) ≡ sound_by from (store mst xrf)
  unfolding sound_by body_sound_by count_is
  sound_same c = rw (right_both.0, right_both.1, lengths_same, body_same, live_same, c)
