-- THE CLAIMS of specs/Theorems hold of any two buffers and every list. A settle that is done leaves
-- a settled mark in its MFN's entry, and settling others writes other slots and nothing of the
-- control record, so that the mark is still read there when the MFN comes again.
use Rattle.std.specs.Prelude.{Ok, Err}
use Prim.Native.Nat.{ℕ, zero, suc, ◌+◌, ◌≤◌, ◌<◌}
use native.Mathlib.Decide.{ℕ_discrete}
use native.Mathlib.Omega.{arith}
use mathlib.Core.Path.{◌≡◌, refl, ap, ◌∙◌}
use mathlib.Core.Logic.{⊎_elim}
use mathlib.Core.Bool.{true, false, or-true}
use mathlib.Core.List.{List, [], ◌∷◌}
use lib.ListN.{length, get_or, take, replicate}
use lib.Seq.{take-length}
use borrow.Author.Tests.{eq-eqb}
use Rattle.word.proofs.Overwrite.{overwrite_length, overwrite_other}
use Rattle.layout.specs.Entry.{placed, place_address}
use Rattle.layout.specs.declared.entry.Mark.TheVariants.{Settled}
use Rattle.layout.specs.declared.entry.Place.{Place}
use Rattle.layout.specs.declared.entry.Entry.TheVariants.{At}
use Rattle.files.specs.CrossReference.{slot_at, entry_at}
use Rattle.files.specs.Control.{end_of}
use Rattle.files.specs.NamedBytes.{Within, BackByte}
use Rattle.files.proofs.ControlMoves.{out_of}
use Rattle.files.proofs.ControlRecord.{end_placed}
use Rattle.files.proofs.CrossReference.{slot_in, entry_head, with_entry_length, with_entry_byte, with_entry_same, with_entry_other}
use Rattle.store.specs.Store.{Store, store}
use Rattle.store.specs.Answer.{number_of, after, Answer}
use Rattle.store.specs.Reading.{lengths_permitted, entry_for, place_for, is_settled, leader_at}
use Rattle.store.specs.Refusals.{fine}
use Rattle.store.specs.declared.answer.Refusal.TheVariants.{BadLength}
use Rattle.store.proofs.Gates.{after_done, after_cases, gate_done, named_done, Planned, planned_at}
use Rattle.versions.specs.Written.{settled_mst, settled_xrf}
use Rattle.writing.specs.Refusals.{settle_answer}
use Rattle.writing.specs.Calls.{settle_leaves}
use Rattle.settling.specs.SettleList.{settle_each_answers, settle_each_leaves}
use Rattle.settling.specs.Theorems.{InOrder, Again, EachAnswers, among, ChangesOnly, SettlesInOrder}
use Rattle.settling.proofs.Folding.{answers_count, leaves_more}

-- ---- in order

answer_at : (s : Store) (ms : List ℕ) (i : ℕ) → i < length ms → get_or (settle_each_answers s ms) i (Ok tt) ≡ settle_answer (settle_each_leaves s (take i ms)) (get_or ms i 0)
unfolding settle_each_answers settle_each_leaves
answer_at s [] i h = absurd (omega arith)
answer_at s (m ∷ ms) zero h = refl
answer_at s (m ∷ ms) (suc i) h = answer_at (settle_leaves s m) ms i (omega arith)

in_order : (s : Store) (ms : List ℕ) → InOrder s ms
unfolding settle_each_leaves
in_order s ms =
    record {
      count = answers_count s ms;
      answer = answer_at s ms;
      first = refl;
      next = leaves_more s ms;
      last = ap (settle_each_leaves s) (take-length ms);
    }

-- ---- a settle that is done

module _ (mst xrf : List ℕ) (k : ℕ) (e : settle_answer (store mst xrf) k ≡ Ok tt) where
  abbrev p : Place
  p = place_for (store mst xrf) k

  -- the entry that it writes
  abbrev own : Place
  own = placed p.block.0 p.offset p.deleted Settled

  asked : Planned mst xrf k p (leader_at mst p)
  unfolding settle_answer
  asked =
      let g = gate_done mst xrf _ e in
      let n = named_done mst xrf k (fine (store mst xrf) k) _ g.2 in
      planned_at mst xrf k p (leader_at mst p) g.0 g.1 n.0 n.1 n.2 refl refl

  low : 1 ≤ k
  low = asked.found.mfn.low

  slot_within : slot_at k + 4 ≤ length xrf
  slot_within = let o = asked.gate in let f = asked.found.mfn in slot_in (length xrf) k f.low (omega arith)

  leaves_is : settle_leaves (store mst xrf) k ≡ store (settled_mst mst p) (settled_xrf xrf k p)
  unfolding settle_leaves
  leaves_is = after_done (settle_answer (store mst xrf) k) (store (settled_mst mst p) (settled_xrf xrf k p)) (store mst xrf) e

  end_kept : end_of (settled_mst mst p) ≡ end_of mst
  unfolding settled_mst
  end_kept =
      let o = asked.gate in
      let f = asked.found.place in
      end_placed mst (place_address p + 6) (replicate 6 0) (omega arith) (omega arith)

  own_entry : entry_for (settle_leaves (store mst xrf) k) k ≡ At own
  unfolding settled_xrf
  own_entry =
      let o = asked.gate in
      let f = asked.found in
      rw leaves_is
      (ap (λ (end : ℕ). entry_at (settled_xrf xrf k p) end k) end_kept
      ∙ with_entry_same xrf k own slot_within (end_of mst) f.well_placed_lem (omega arith) (entry_head xrf (end_of mst) k p f.entry))

  other_entry : (m : ℕ) → 1 ≤ m → (m ≡ k → ⊥) → entry_for (settle_leaves (store mst xrf) k) m ≡ entry_for (store mst xrf) m
  unfolding settled_xrf
  other_entry m lo ne =
      rw leaves_is
      (ap (λ (end : ℕ). entry_at (settled_xrf xrf k p) end m) end_kept ∙ with_entry_other xrf k own slot_within low m lo ne (end_of mst))

-- ---- the same MFN again

abbrev Marked : Store → ℕ → Type 0
Marked s m = is_settled (place_for s m).mark ≡ true

marked_own : (s : Store) (m : ℕ) → settle_answer s m ≡ Ok tt → Marked (settle_leaves s m) m
marked_own s m e = rw (own_entry s.mst s.xrf m e)

marked_kept : (s : Store) (m : ℕ) → 1 ≤ m → Marked s m → (k : ℕ) → Marked (settle_leaves s k) m
unfolding settle_leaves
marked_kept s m lo h k =
    ⊎_elim
    (λ d. done d.0 (ℕ_discrete m k))
    (λ r. rw r.1 h)
    (after_cases (settle_answer s k) (store (settled_mst s.mst (place_for s k)) (settled_xrf s.xrf k (place_for s k))) s)
  where
    done : settle_answer s k ≡ Ok tt → Dec (m ≡ k) → Marked (settle_leaves s k) m
    done d (yes z) = rw z (marked_own s k d)
    done d (no ne) = rw (other_entry s.mst s.xrf k d m lo ne) h

marked_through : (s : Store) (m : ℕ) → 1 ≤ m → Marked s m → (ms : List ℕ) → Marked (settle_each_leaves s ms) m
unfolding settle_each_leaves
marked_through s m lo h [] = h
marked_through s m lo h (k ∷ ms) = marked_through (settle_leaves s k) m lo (marked_kept s m lo h k) ms

again : (s : Store) (m : ℕ) (between : List ℕ) → Again s m between
unfolding settle_answer
again s m between d =
    let h = marked_through (settle_leaves s m) m (low s.mst s.xrf m d) (marked_own s m d) between in
    rw h

-- ---- lengths that are not permitted

unpermitted_one : (s : Store) (m : ℕ) → lengths_permitted s ≡ false → (settle_answer s m ≡ Err BadLength) × (settle_leaves s m ≡ s)
unfolding settle_answer settle_leaves after number_of
unpermitted_one s m h = (rw h, rw h)

-- what every MFN answers, with nothing changed
pub each_answers : (s : Store) (a : Answer) → ((m : ℕ) → (settle_answer s m ≡ a) × (settle_leaves s m ≡ s)) → (ms : List ℕ) → EachAnswers s ms a
unfolding settle_each_answers settle_each_leaves
each_answers s a all [] = record { answers = refl; nothing = refl }
each_answers s a all (m ∷ ms) =
    let one = all m in
    let rest = each_answers s a all ms in
    record { answers = rw (one.0, one.1, rest.answers); nothing = rw one.1 rest.nothing }

-- ---- which bytes change

-- the first of a list, and those behind it
pub among_first : (m : ℕ) (ms : List ℕ) → among m (m ∷ ms) ≡ true
among_first m ms = rw (eq-eqb m m refl)

pub among_behind : (k m : ℕ) (ms : List ℕ) → among k ms ≡ true → among k (m ∷ ms) ≡ true
among_behind k m ms h = rw (h, or-true)

-- what a settle changes, done or refused
record One (s s' : Store) (m : ℕ) : Type 0 where
  mst_length : length s'.mst ≡ length s.mst
  xrf_length : length s'.xrf ≡ length s.xrf
  mst_kept : (i : ℕ) → (1 ≤ m → BackByte (place_address (place_for s m)) i → ⊥) → get_or s'.mst i 0 ≡ get_or s.mst i 0
  xrf_kept : (i : ℕ) → (1 ≤ m → Within (slot_at m) 4 i → ⊥) → get_or s'.xrf i 0 ≡ get_or s.xrf i 0
  -- every place stays where it is
  address : (k : ℕ) → 1 ≤ k → place_address (place_for s' k) ≡ place_address (place_for s k)

done_one : (s : Store) (m : ℕ) → settle_answer s m ≡ Ok tt → One s (settle_leaves s m) m
unfolding settled_mst settled_xrf
done_one s m d =
    let o = (asked mst xrf m d).gate in
    let f = (asked mst xrf m d).found.place in
    let lo = low mst xrf m d in
    let in_mst : place_address (place_for s m) + 6 + 6 ≤ length mst = omega arith in
    record {
      mst_length = ap (λ (z : Store). length z.mst) is ∙ overwrite_length mst (place_address (place_for s m) + 6) (replicate 6 0) in_mst;
      xrf_length = ap (λ (z : Store). length z.xrf) is ∙ with_entry_length xrf m (own mst xrf m d) (slot_within mst xrf m d);
      mst_kept = λ i off.
          ap (λ (z : Store). get_or z.mst i 0) is
          ∙ overwrite_other mst (place_address (place_for s m) + 6) (replicate 6 0) i (omega arith) (out_of (place_address (place_for s m) + 6) 6 i (off lo));
      xrf_kept = λ i off.
          ap (λ (z : Store). get_or z.xrf i 0) is
          ∙ with_entry_byte xrf m (own mst xrf m d) (slot_within mst xrf m d) i (out_of (slot_at m) 4 i (off lo));
      address = λ k lo. go k lo (ℕ_discrete k m);
    }
  where
    mst : List ℕ
    mst = s.mst

    xrf : List ℕ
    xrf = s.xrf

    is : settle_leaves s m ≡ store (settled_mst mst (place_for s m)) (settled_xrf xrf m (place_for s m))
    is = leaves_is mst xrf m d

    go : (k : ℕ) → 1 ≤ k → Dec (k ≡ m) → place_address (place_for (settle_leaves s m) k) ≡ place_address (place_for s k)
    go k lo (yes z) = rw (z, own_entry mst xrf m d)
    go k lo (no ne) = rw (other_entry mst xrf m d k lo ne)

one_settle : (s : Store) (m : ℕ) → One s (settle_leaves s m) m
unfolding settle_leaves
one_settle s m =
    ⊎_elim
    (λ d. done_one s m d.0)
    (λ r. rw r.1 (record { mst_length = refl; xrf_length = refl; mst_kept = λ i off. refl; xrf_kept = λ i off. refl; address = λ k lo. refl }))
    (after_cases (settle_answer s m) (store (settled_mst s.mst (place_for s m)) (settled_xrf s.xrf m (place_for s m))) s)

-- nothing changes
pub unchanged : (s : Store) (ms : List ℕ) → ChangesOnly s s ms
unchanged s ms = record { mst_length = refl; xrf_length = refl; mst_kept = λ i off. refl; xrf_kept = λ i off. refl }

pub changes_only : (s : Store) (ms : List ℕ) → ChangesOnly s (settle_each_leaves s ms) ms
unfolding settle_each_leaves
changes_only s [] = unchanged s []
changes_only s (m ∷ ms) =
    let one = one_settle s m in
    let rest = changes_only (settle_leaves s m) ms in
    record {
      mst_length = rest.mst_length ∙ one.mst_length;
      xrf_length = rest.xrf_length ∙ one.xrf_length;
      mst_kept = λ i off.
          rest.mst_kept i (λ k lo a b. off k lo (among_behind k m ms a) (rw (one.address k lo) at b))
          ∙ one.mst_kept i (λ lo b. off m lo (among_first m ms) b);
      xrf_kept = λ i off.
          rest.xrf_kept i (λ k lo a b. off k lo (among_behind k m ms a) b)
          ∙ one.xrf_kept i (λ lo b. off m lo (among_first m ms) b);
    }

pub settles_in_order : (s : Store) (ms : List ℕ) → SettlesInOrder s ms
settles_in_order s ms =
    record { in_order = in_order s ms; again = λ m. again s m ms; unpermitted = λ h. each_answers s (Err BadLength) (λ m. unpermitted_one s m h) ms; changes = changes_only s ms }
