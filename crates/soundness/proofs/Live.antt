-- RECCNT and the number of live entries. A sum changes where one summand does by what that does (`Sums.sum_other`); so a call that sets one
-- entry, or adds one, changes the number of live entries by what it does to that entry, and each call writes RECCNT by as much. On a sound store
-- RECCNT is below 2,147,483,647, and above 0 where an entry is live, so that it bars no call there.
use Prim.Native.Nat.{ℕ, suc, ◌+◌, ◌-◌, ◌≤◌, ◌<◌}
use native.Mathlib.Omega.{arith}
use mathlib.Core.Path.{◌≡◌, refl, sym, ap, ◌∙◌}
use mathlib.Core.Logic.{inr}
use mathlib.Core.Bool.{Bool, true, false, not, cond}
use mathlib.Core.List.{List}
use lib.IntN.{pos}
use lib.ListN.{length, replicate, length-append, length-take}
use Rattle.word.specs.Overwrite.{overwrite}
use Rattle.layout.specs.Sizes.{end_moved}
use Rattle.layout.specs.Entry.{place_address}
use Rattle.files.specs.Control.{next_of, end_of, with_next, count_of, count_most, count_full, count_none, counted_more, counted_less}
use Rattle.files.proofs.Count.{not_full, not_none, count_other, count_of_next, count_of_end, count_of_more, count_of_less}
use Rattle.files.proofs.ControlRecord.{next_length, end_length}
use Rattle.layout.specs.declared.entry.Place.{Place}
use Rattle.layout.specs.declared.entry.Entry.{Entry}
use Rattle.layout.specs.declared.entry.Entry.TheVariants.{At}
use Rattle.layout.specs.declared.leader.Leader.{Leader}
use Rattle.record.specs.Fields.{Field}
use Rattle.drafts.specs.Bytes.{need_for, record_bytes, leader_for}
use Rattle.store.specs.Reading.{entry_for, is_settled, leader_at}
use Rattle.store.specs.Store.{store}
use Rattle.versions.specs.Written.{appended, created_mst, version_leader, version_appended, version_in_place, update_appends, updated_mst, deleted_mst, settled_mst, reverted_mst}
use Rattle.soundness.specs.Sound.{bit, sum_to, is_live, live_count}
use Rattle.soundness.proofs.Stepping.{member_facts}
use Rattle.soundness.proofs.Sums.{sum_same, sum_other, sum_least}
use Rattle.soundness.proofs.SoundEntries.{Sound, at_stands}
use Rattle.soundness.proofs.Leaving.{Leaves}
use Rattle.soundness.proofs.CheckAnswers.{live_most}

-- ---- the number of live entries

module _ {mst xrf mst' xrf' : List ℕ} {m end next mfrl : ℕ} {p : Place} {fs old : List Field} (l : Leaves mst xrf mst' xrf' m end next p mfrl fs old) (low : 1 ≤ m) where
  abbrev before : ℕ → ℕ
  before o = bit (is_live (entry_for (store mst xrf) o))

  abbrev after : ℕ → ℕ
  after o = bit (is_live (entry_for (store mst' xrf') o))

  kept : (o : ℕ) → 1 ≤ o → o < next_of mst → (o ≡ m → ⊥) → after o ≡ before o
  kept o a b ne = ap (λ (e : Entry). bit (is_live e)) (l.others o ne a b)

  own : after m ≡ bit (is_live (At p))
  own = ap (λ (e : Entry). bit (is_live e)) l.entry

  -- one entry is set
  pub live_set : next ≡ next_of mst → m < next_of mst → live_count (store mst' xrf') + before m ≡ live_count (store mst xrf) + bit (is_live (At p))
  unfolding live_count
  live_set stays high =
      let n : next_of mst' - 1 ≡ next_of mst - 1 = omega (arith, l.next_is) in
      rw (n, ← own) (sum_other (next_of mst - 1) after before m low (omega arith) (λ o a b ne. kept o a (omega arith) ne))

  -- one is added
  pub live_added : next ≡ next_of mst + 1 → m ≡ next_of mst → live_count (store mst' xrf') ≡ live_count (store mst xrf) + bit (is_live (At p))
  unfolding live_count sum_to
  live_added up is =
      let n : next_of mst' - 1 ≡ suc (next_of mst - 1) = omega (arith, l.next_is) in
      let here : suc (next_of mst - 1) ≡ m = omega arith in
      let same = sum_same (next_of mst - 1) after before (λ o a b. kept o a (omega arith) (λ e. omega arith)) in
      rw (n, same, here, own)

-- ---- RECCNT, where it is right

module _ {mst xrf : List ℕ} (s : Sound mst xrf) (c : count_of mst ≡ pos (live_count (store mst xrf))) where
  pub live_small : live_count (store mst xrf) + 1 < count_most
  live_small =
      let f = s.sizes in
      let g = s.numbers in
      omega (arith, live_most mst xrf)

  -- a create and a revert are not barred
  pub sound_not_full : count_full mst ≡ false
  sound_not_full = not_full mst (live_count (store mst xrf)) c (omega (arith, live_small))

  -- nor is a delete of a live MFN
  module _ (m : ℕ) (p : Place) (low : 1 ≤ m) (high : m < next_of mst) (e : entry_for (store mst xrf) m ≡ At p) (live : p.deleted ≡ false) where
    pub live_some : 1 ≤ live_count (store mst xrf)
    unfolding live_count bit
    live_some =
        let one : bit (is_live (entry_for (store mst xrf) m)) ≡ 1 = rw (e, live) in
        omega (arith, one, sum_least (next_of mst - 1) (λ (o : ℕ). bit (is_live (entry_for (store mst xrf) o))) m low (omega arith))

    pub sound_not_none : count_none mst ≡ false
    sound_not_none = not_none mst (live_count (store mst xrf)) c live_some

-- ---- what each write leaves of RECCNT

-- what is overwritten from an offset on keeps what stands before
reach : (d : List ℕ) (at : ℕ) (xs : List ℕ) → at ≤ length d → at ≤ length (overwrite d at xs)
unfolding overwrite
reach d at xs h = simp (length-append, length-take) (omega arith)

count_behind : (mst : List ℕ) (at : ℕ) (xs : List ℕ) → 64 ≤ at → at ≤ length mst → count_of (overwrite mst at xs) ≡ count_of mst
count_behind mst at xs low high = count_other mst at xs high (inr (omega arith))

count_appended : (mst : List ℕ) (l : Leader) (fs : List Field) → 64 ≤ end_of mst → end_of mst ≤ length mst
    → (count_of (appended mst l fs) ≡ count_of mst) × (64 ≤ length (appended mst l fs))
unfolding appended
count_appended mst l fs low high =
    let over : List ℕ = overwrite mst (end_of mst) (record_bytes l fs) in
    let long : 64 ≤ length over = omega (arith, reach mst (end_of mst) (record_bytes l fs) high) in (
      count_of_end over (end_moved (end_of mst + l.mfrl)) long ∙ count_behind mst (end_of mst) (record_bytes l fs) low high,
      rw (end_length over (end_moved (end_of mst + l.mfrl)) long) long,
    )

module _ {mst xrf : List ℕ} (s : Sound mst xrf) (c : count_of mst ≡ pos (live_count (store mst xrf))) where
  -- one more live entry, and RECCNT one more
  pub created_counts : (fs : List Field) {xrf' : List ℕ} {end mfrl : ℕ} {p : Place} {gs old : List Field}
      → Leaves mst xrf (created_mst mst fs) xrf' (next_of mst) end (next_of mst + 1) p mfrl gs old → p.deleted ≡ false
      → count_of (created_mst mst fs) ≡ pos (live_count (store (created_mst mst fs) xrf'))
  unfolding created_mst bit
  created_counts fs l live =
      let g = s.numbers in
      let first : Leader = leader_for (next_of mst) (need_for fs) 0 0 false (length fs) in
      let a = count_appended mst first fs g.end_low g.end_in in
      let at : List ℕ = with_next (appended mst first fs) (next_of mst + 1) in
      let long : 64 ≤ length at = rw (next_length (appended mst first fs) (next_of mst + 1) a.1) a.1 in
      let is : count_of at ≡ pos (live_count (store mst xrf)) = count_of_next (appended mst first fs) (next_of mst + 1) a.1 ∙ a.0 ∙ c in
      let more = live_added l g.next_low refl refl in
      count_of_more at (live_count (store mst xrf)) long is (omega (arith, live_small s c)) ∙ ap pos (omega (arith, rw live at more))

  -- the entry of MFN m is set
  module _ (m : ℕ) (p : Place) (low : 1 ≤ m) (high : m < next_of mst) (e : entry_for (store mst xrf) m ≡ At p) where
    place_low : 64 ≤ place_address p
    place_low = let f = member_facts mst (place_address p) 64 s.way (at_stands s m p low high e).step in omega arith

    place_inside : place_address p + 18 ≤ length mst
    place_inside =
        let f = member_facts mst (place_address p) 64 s.way (at_stands s m p low high e).step in
        let g = s.numbers in
        omega arith

    module _ {mst' xrf' : List ℕ} {end mfrl : ℕ} {q : Place} {fs old : List Field} (l : Leaves mst xrf mst' xrf' m end (next_of mst) q mfrl fs old) where
      moved : live_count (store mst' xrf') + bit (is_live (At p)) ≡ live_count (store mst xrf) + bit (is_live (At q))
      moved = rw e at (live_set l low refl high)

      -- as live as it was, and RECCNT as it was
      pub same_counts : q.deleted ≡ p.deleted → count_of mst' ≡ count_of mst → count_of mst' ≡ pos (live_count (store mst' xrf'))
      same_counts d k =
          let n : live_count (store mst' xrf') + bit (not p.deleted) ≡ live_count (store mst xrf) + bit (not p.deleted) = rw d at moved in
          k ∙ c ∙ ap pos (omega (arith, n))

      -- deleted, and RECCNT one less
      pub less_counts : p.deleted ≡ false → q.deleted ≡ true → (middle : List ℕ) → 64 ≤ length middle → count_of middle ≡ count_of mst → mst' ≡ counted_less middle
          → count_of mst' ≡ pos (live_count (store mst' xrf'))
      unfolding bit
      less_counts live gone middle long k w =
          let n : live_count (store mst' xrf') + 1 ≡ live_count (store mst xrf) + 0 = rw (live, gone) at moved in
          let is : live_count (store mst xrf) ≡ suc (live_count (store mst' xrf')) = omega arith in
          let small = live_small s c in
          ap count_of w ∙ count_of_less middle (live_count (store mst' xrf')) long (k ∙ c ∙ ap pos is) (omega arith)

      -- brought back, and RECCNT one more
      pub more_counts : p.deleted ≡ true → q.deleted ≡ false → mst' ≡ counted_more mst → count_of mst' ≡ pos (live_count (store mst' xrf'))
      unfolding bit
      more_counts gone live w =
          let n : live_count (store mst' xrf') + 0 ≡ live_count (store mst xrf) + 1 = rw (live, gone) at moved in
          let small = live_small s c in
          let long : 64 ≤ length mst = omega (arith, place_low, place_inside) in
          ap count_of w ∙ count_of_more mst (live_count (store mst xrf)) long c (omega arith) ∙ ap pos (omega arith)

    -- what the writes leave of RECCNT before it is written
    at_end_kept : (l : Leader) (deleted : Bool) (fs : List Field)
        → (count_of (version_appended mst m p l deleted fs) ≡ count_of mst) × (64 ≤ length (version_appended mst m p l deleted fs))
    unfolding version_appended
    at_end_kept l deleted fs = count_appended mst (version_leader m p l (need_for fs) deleted (length fs)) fs s.numbers.end_low s.numbers.end_in

    in_place_kept : (l : Leader) (deleted : Bool) (fs : List Field)
        → (count_of (version_in_place mst m p l deleted fs) ≡ count_of mst) × (64 ≤ length (version_in_place mst m p l deleted fs))
    unfolding version_in_place
    in_place_kept l deleted fs =
        let bytes : List ℕ = record_bytes (version_leader m p l l.mfrl deleted (length fs)) fs in
        let i : place_address p ≤ length mst = omega (arith, place_inside) in
        (count_behind mst (place_address p) bytes place_low i, omega (arith, place_low, reach mst (place_address p) bytes i))

    pub update_kept : (fs : List Field) → count_of (updated_mst mst m p fs) ≡ count_of mst
    unfolding updated_mst
    update_kept fs = go (update_appends p (leader_at mst p) (need_for fs))
      where
        go : (b : Bool) → count_of (cond b (version_appended mst m p (leader_at mst p) false fs) (version_in_place mst m p (leader_at mst p) false fs)) ≡ count_of mst
        go true = (at_end_kept (leader_at mst p) false fs).0
        go false = (in_place_kept (leader_at mst p) false fs).0

    pub settle_kept : count_of (settled_mst mst p) ≡ count_of mst
    unfolding settled_mst
    settle_kept = count_behind mst (place_address p + 6) (replicate 6 0) (omega (arith, place_low)) (omega (arith, place_inside))

    -- delete and revert
    pub deleted_counts : (fs : List Field) {xrf' : List ℕ} {end mfrl : ℕ} {q : Place} {gs old : List Field}
        → Leaves mst xrf (deleted_mst mst m p fs) xrf' m end (next_of mst) q mfrl gs old → p.deleted ≡ false → q.deleted ≡ true
        → count_of (deleted_mst mst m p fs) ≡ pos (live_count (store (deleted_mst mst m p fs) xrf'))
    unfolding deleted_mst
    deleted_counts fs l live gone =
        let a = at_end_kept (leader_at mst p) true fs in
        let b = in_place_kept (leader_at mst p) true fs in
        less_counts l live gone _ (either (λ (x : List ℕ). 64 ≤ length x) (is_settled p.mark) a.1 b.1)
        (either (λ (x : List ℕ). count_of x ≡ count_of mst) (is_settled p.mark) a.0 b.0) refl
      where
        either : (P : List ℕ → Type 0) (t : Bool) {x y : List ℕ} → P x → P y → P (cond t x y)
        either P true f g = f
        either P false f g = g

    pub reverted_counts : {xrf' : List ℕ} {end mfrl : ℕ} {q : Place} {gs old : List Field}
        → Leaves mst xrf (reverted_mst mst p) xrf' m end (next_of mst) q mfrl gs old → q.deleted ≡ false
        → count_of (reverted_mst mst p) ≡ pos (live_count (store (reverted_mst mst p) xrf'))
    unfolding reverted_mst
    reverted_counts {xrf' = xrf'} l live = go p.deleted refl
      where
        go : (b : Bool) → p.deleted ≡ b → count_of (reverted_mst mst p) ≡ pos (live_count (store (reverted_mst mst p) xrf'))
        go true h = more_counts l h live (rw h)
        go false h = same_counts l (live ∙ sym h) (rw h)
