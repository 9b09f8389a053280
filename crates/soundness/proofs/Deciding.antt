-- The counts of the two passes decide whether every entry is sound. An entry is sound if it is right but for the steps and names steps only
-- (`entries_split`). A well-formed record holds its own MFN, and a changed one has its settled version elsewhere; so entries that are right but
-- for the steps are a `Naming`, and the counting law makes of the walk's count whether they name steps only (`walk_decides`).
use Prim.Native.Nat.{ℕ, ◌-◌, ◌≤◌}
use native.Mathlib.Omega.{arith}
use mathlib.Core.Path.{◌≡◌, refl, sym, ap, ◌∙◌}
use mathlib.Core.Logic.{⊎_elim}
use mathlib.Core.Bool.{Bool, true, false, not, ◌&&◌, cond}
use mathlib.Core.List.{List, [], ◌∷◌}
use lib.Dec.{eqb}
use borrow.Author.Tests.{eqb-false, ne_eqb}
use Rattle.layout.specs.Entry.{place_address}
use Rattle.files.specs.Control.{next_of, end_of}
use Rattle.layout.specs.Leader.{leader_of}
use Rattle.layout.specs.declared.entry.Place.{Place}
use Rattle.layout.specs.declared.entry.Entry.{Entry}
use Rattle.layout.specs.declared.entry.Entry.TheVariants.{Gone, Malformed, At}
use Rattle.word.proofs.Tests.{tests, and_iff, false_true, not_both, cond_holds}
use Rattle.record.specs.Record.{record_right, no_back, back_right}
use Rattle.record.proofs.Facts.{right_facts}
use Rattle.store.specs.Reading.{mfn_in_range, entry_for, is_changed, record_from, record_at, leader_at, back_address, back_fine, record_fine, settled_record, settled_fine, version_fine}
use Rattle.store.proofs.Gates.{fine_both, settled_both}
use Rattle.soundness.specs.Sound.{all_to, elem, implies, steps, arrives, place_sound, entry_sound, entries_sound}
use Rattle.soundness.specs.Passes.{names_of, entry_fine, entries_fine, named_total, mfn_at, hit, walk_of}
use Rattle.soundness.proofs.Stepping.{steps_ascend, elem_none, elem_cases}
use Rattle.soundness.proofs.Counting.{all_to_at, all_to_same, all_to_and, every, Once, ascends_once, Naming, named_all}
use Rattle.store.specs.Store.{store}

-- ---- an entry that is right but for the steps

module _ (mst : List ℕ) (m : ℕ) where
  -- a well-formed record holds its own MFN
  right_own : (at : ℕ) (deleted : Bool) → record_right (record_from mst at) m deleted ≡ true → mfn_at mst at ≡ m
  right_own at deleted e = (right_facts (record_from mst at) m deleted e).leader.mfn

  module _ (p : Place) (f : entry_fine mst m (At p) ≡ true) where
    both_fine : (record_fine mst m p ≡ true) × (version_fine mst m p ≡ true)
    unfolding entry_fine
    both_fine = (and_iff (record_fine mst m p) (version_fine mst m p)).0 f

    record_both : (record_right (record_at mst p) m p.deleted ≡ true) × (back_fine (end_of mst) p (leader_at mst p) ≡ true)
    record_both =
        (and_iff (record_right (record_at mst p) m p.deleted) (back_fine (end_of mst) p (leader_at mst p))).0 (rw (fine_both mst m p) at both_fine.0)

    place_own : mfn_at mst (place_address p) ≡ m
    place_own = right_own (place_address p) p.deleted record_both.0

    module _ (c : is_changed p.mark ≡ true) where
      back_own : mfn_at mst (back_address (leader_at mst p)) ≡ m
      unfolding version_fine
      back_own =
          right_own (back_address (leader_at mst p)) false
          ((and_iff (record_right (settled_record mst p) m false) (no_back (leader_of (settled_record mst p)))).0
          (rw (settled_both mst m p) at (cond_holds (is_changed p.mark) (settled_fine mst m p) both_fine.1 c))).0

      back_other : place_address p ≡ back_address (leader_at mst p) → ⊥
      unfolding back_fine
      back_other q =
          eqb-false (back_address (leader_at mst p)) (place_address p)
          (not_both (is_changed p.mark) (eqb (back_address (leader_at mst p)) (place_address p))
          ((and_iff (back_right (end_of mst) p.mark (leader_at mst p))
          (not (is_changed p.mark && eqb (back_address (leader_at mst p)) (place_address p)))).0 record_both.1).1
          c)
          (sym q)

    names_own : (a : ℕ) → elem a (names_of mst (At p)) ≡ true → mfn_at mst a ≡ m
    unfolding names_of
    names_own a i = ⊎_elim (λ q. rw q place_own) (back (is_changed p.mark) refl) (elem_cases a (place_address p) rest i)
      where
        rest : List ℕ
        rest = cond (is_changed p.mark) (back_address (leader_at mst p) ∷ []) []

        back : (t : Bool) → is_changed p.mark ≡ t → elem a (cond t (back_address (leader_at mst p) ∷ []) []) ≡ true → mfn_at mst a ≡ m
        back true c j =
            ⊎_elim (λ q. rw q (back_own c)) (λ k. absurd (elem_none a k)) (elem_cases a (back_address (leader_at mst p)) [] j)
        back false c j = absurd (elem_none a j)

    names_once : Once (names_of mst (At p))
    unfolding names_of elem
    names_once = go (is_changed p.mark) refl
      where
        go : (t : Bool) → is_changed p.mark ≡ t → Once (place_address p ∷ cond t (back_address (leader_at mst p) ∷ []) [])
        go true c = (rw (ne_eqb (place_address p) (back_address (leader_at mst p)) (back_other c)), (refl, tt))
        go false c = (refl, tt)

  entry_own : (e : Entry) → entry_fine mst m e ≡ true → (a : ℕ) → elem a (names_of mst e) ≡ true → mfn_at mst a ≡ m
  unfolding entry_fine names_of
  entry_own Gone f a i = absurd (elem_none a i)
  entry_own Malformed f a i = absurd (false_true f)
  entry_own (At p) f a i = names_own p f a i

  entry_once : (e : Entry) → entry_fine mst m e ≡ true → Once (names_of mst e)
  unfolding names_of
  entry_once Gone f = tt
  entry_once Malformed f = tt
  entry_once (At p) f = names_once p f

  -- an entry is sound if it is right but for the steps and names steps only
  entry_splits : (l : List ℕ) (e : Entry) → entry_sound mst l m e ≡ (entry_fine mst m e && every (λ (a : ℕ). elem a l) (names_of mst e))
  unfolding entry_sound place_sound entry_fine version_fine names_of every
  entry_splits l Gone = refl
  entry_splits l Malformed = refl
  entry_splits l (At p) = go (record_fine mst m p) (elem (place_address p) l) (is_changed p.mark) (settled_fine mst m p) (elem back l) refl
    where
      back : ℕ
      back = back_address (leader_at mst p)

      go : (r i c s j : Bool) → elem back l ≡ j
          → ((r && i) && implies c (s && elem back l)) ≡ ((r && cond c s true) && (i && every (λ (a : ℕ). elem a l) (cond c (back ∷ []) [])))
      go true true true true true q = rw q
      go true true true true false q = rw q
      go true true true false j q = refl
      go true true false s j q = refl
      go true false true true j q = refl
      go true false true false j q = refl
      go true false false s j q = refl
      go false i true s j q = refl
      go false i false s j q = refl

-- ---- all entries

module _ (mst xrf : List ℕ) where
  -- every entry below NXTMFN names addresses of a list only
  all_named : List ℕ → Bool
  all_named l = all_to (next_of mst - 1) (λ (m : ℕ). every (λ (a : ℕ). elem a l) (names_of mst (entry_for (store mst xrf) m)))

  entries_split : (l : List ℕ) → entries_sound (store mst xrf) l ≡ (entries_fine (store mst xrf) && all_named l)
  unfolding entries_sound entries_fine all_named
  entries_split l =
      all_to_same (next_of mst - 1) (λ (m : ℕ). entry_sound mst l m (entry_for (store mst xrf) m))
      (λ (m : ℕ). entry_fine mst m (entry_for (store mst xrf) m) && every (λ (a : ℕ). elem a l) (names_of mst (entry_for (store mst xrf) m)))
      (λ m lo hi. entry_splits mst m l (entry_for (store mst xrf) m))
      ∙ all_to_and (next_of mst - 1) (λ (m : ℕ). entry_fine mst m (entry_for (store mst xrf) m))
      (λ (m : ℕ). every (λ (a : ℕ). elem a l) (names_of mst (entry_for (store mst xrf) m)))

  pub entries_wrong : entries_fine (store mst xrf) ≡ false → (l : List ℕ) → entries_sound (store mst xrf) l ≡ false
  entries_wrong h l = entries_split l ∙ rw h

  module _ (low : 1 ≤ next_of mst) (fine : entries_fine (store mst xrf) ≡ true) where
    pub entry_fine_lem : (m : ℕ) → 1 ≤ m → m ≤ next_of mst - 1 → entry_fine mst m (entry_for (store mst xrf) m) ≡ true
    unfolding entries_fine
    entry_fine_lem m lo hi = all_to_at (next_of mst - 1) (λ (m : ℕ). entry_fine mst m (entry_for (store mst xrf) m)) fine m lo hi

    naming : Naming (next_of mst - 1) (mfn_in_range mst) (λ (m : ℕ). names_of mst (entry_for (store mst xrf) m)) (mfn_at mst)
    unfolding mfn_in_range
    naming =
        record {
          inside = λ m lo hi. simp tests (lo, omega arith);
          outside = λ m h. let q = simp tests at h in (q.0, omega arith);
          own = λ m a lo hi. entry_own mst m (entry_for (store mst xrf) m) (entry_fine_lem m lo hi) a;
          once = λ m lo hi. entry_once mst m (entry_for (store mst xrf) m) (entry_fine_lem m lo hi);
        }

    -- THE COUNTS DECIDE
    pub walk_decides : walk_of (store mst xrf) (named_total (store mst xrf)) ≡ (arrives mst 64 && entries_sound (store mst xrf) (steps mst 64))
    unfolding walk_of hit named_total all_named
    walk_decides =
        let l : List ℕ = steps mst 64 in
        ap (λ (t : Bool). arrives mst 64 && t)
        (named_all (next_of mst - 1) (mfn_in_range mst) (λ (m : ℕ). names_of mst (entry_for (store mst xrf) m)) (mfn_at mst) naming l
        (ascends_once l 64 (steps_ascend mst 64))
        ∙ sym (entries_split l ∙ rw fine))
