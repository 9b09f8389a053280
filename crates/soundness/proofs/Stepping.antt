-- Stepping through the file. The specification's walks carry a count of the steps that are left; `walk_any` says that any count will do
-- that reaches the end, once for both walks, and from there on they are followed by `steps_more`, `steps_end` and `walk_ind` with no count
-- in sight. Then the facts of a step, and what a write does to the steps: one that keeps each MFRL keeps them, and a record at the end adds
-- one.
use Prim.Native.Nat.{ℕ, zero, suc, ◌≤◌, ◌<◌, ◌+◌, ◌-◌, ◌%◌}
use mathlib.Core.Path.{◌≡◌, refl, sym, ◌∙◌, ap}
use mathlib.Core.Logic.{◌⊎◌, inl, inr, ⊎_elim}
use mathlib.Core.Bool.{Bool, true, false, cond, ◌||◌, or-true}
use mathlib.Core.List.{List, [], ◌∷◌, ◌++◌}
use native.Mathlib.Omega.{arith}
use native.Mathlib.Decide.{dec_le}
use lib.Dec.{eqb, leb}
use lib.ListN.{get_or, drop}
use borrow.Author.Tests.{le-leb, lt-leb, eqb-true, eq-eqb, ne_eqb}
use Rattle.layout.specs.Sizes.{record_most, end_moved, record_length}
use Rattle.files.specs.Control.{end_of}
use Rattle.layout.specs.Leader.{leader_of}
use Rattle.layout.specs.declared.leader.Leader.{Leader}
use Rattle.word.proofs.Tests.{tests, false_true}
use Rattle.layout.proofs.Facts.{RecordLengthFacts, record_length_facts, EndMovedFacts, end_moved_facts}
use Rattle.layout.proofs.LeaderBytes.{leader_same, leader_front}
use Rattle.store.specs.Reading.{record_from}
use Rattle.soundness.specs.Sound.{elem, mfrl_at, step_right, next_step, steps_in, steps, arrives_in, arrives}

-- ---- one step

-- a step whose MFRL is right
pub record StepFacts (mst : List ℕ) (s : ℕ) : Type 0 where
  pub right : step_right mst s ≡ true
  pub mfrl : record_length (mfrl_at mst s) ≡ true
  pub even : mfrl_at mst s % 2 ≡ 0
  pub low : 18 ≤ mfrl_at mst s
  pub high : mfrl_at mst s ≤ record_most
  pub stops : s + mfrl_at mst s ≤ end_of mst
  pub next_is : next_step mst s ≡ end_moved (s + mfrl_at mst s)
  pub next_above : s + mfrl_at mst s ≤ next_step mst s
  pub next_near : next_step mst s ≤ s + mfrl_at mst s + 12

module _ (mst : List ℕ) (s : ℕ) where
  pub step_facts : step_right mst s ≡ true → StepFacts mst s
  unfolding step_right next_step
  step_facts e =
      let q = simp tests at e in
      let f : RecordLengthFacts (mfrl_at mst s) = record_length_facts (mfrl_at mst s) q.0 in
      let g : EndMovedFacts (s + mfrl_at mst s) (end_moved (s + mfrl_at mst s)) = end_moved_facts (s + mfrl_at mst s) in
      record {
        right = e;
        mfrl = q.0;
        even = f.even;
        low = f.low;
        high = f.high;
        stops = q.1;
        next_is = rw (q.0, le-leb (s + mfrl_at mst s) (end_of mst) q.1);
        next_above = rw (q.0, le-leb (s + mfrl_at mst s) (end_of mst) q.1) g.low;
        next_near = rw (q.0, le-leb (s + mfrl_at mst s) (end_of mst) q.1) g.near;
      }

  pub step_from : record_length (mfrl_at mst s) ≡ true → s + mfrl_at mst s ≤ end_of mst → step_right mst s ≡ true
  unfolding step_right
  step_from a b = simp tests (a, b)

  -- a wrong MFRL leads past the end
  pub next_wrong : step_right mst s ≡ false → next_step mst s ≡ end_of mst + 1
  unfolding next_step
  next_wrong e = rw e

  module _ (room : s + 18 ≤ end_of mst) where
    pub next_up : s + 18 ≤ next_step mst s
    next_up = go (step_right mst s) refl
      where
        go : (t : Bool) → step_right mst s ≡ t → s + 18 ≤ next_step mst s
        go true e = let f = step_facts e in omega arith
        go false e = omega (arith, next_wrong e)

    pub next_near : next_step mst s ≤ end_of mst + 12
    next_near = go (step_right mst s) refl
      where
        go : (t : Bool) → step_right mst s ≡ t → next_step mst s ≤ end_of mst + 12
        go true e = let f = step_facts e in omega arith
        go false e = omega (arith, next_wrong e)

-- ---- the walks, with no count

-- induction along the walk
pub walk_ind : (mst : List ℕ) (P : ℕ → Type 0) → ((at : ℕ) → end_of mst < at + 18 → P at)
    → ((at : ℕ) → at + 18 ≤ end_of mst → P (next_step mst at) → P at) → (at : ℕ) → P at
walk_ind mst P stop more at = go (end_of mst) at (omega arith)
  where
    go : (f at : ℕ) → end_of mst ≤ at + f → P at
    go zero at h = stop at (omega arith)
    go (suc f) at h = pick (dec_le (at + 18) (end_of mst)) (go f (next_step mst at))
      where
        pick : Dec (at + 18 ≤ end_of mst) → (end_of mst ≤ next_step mst at + f → P (next_step mst at)) → P at
        pick (yes room) ih = more at room (ih (omega (arith, next_up mst at room)))
        pick (no full) ih = stop at (omega arith)

-- both walks: `stop` where there is no room, `more` at a step and what comes of the rest
unfoldable walk_in : {A : Type 0} → (ℕ → A) → (ℕ → A → A) → ℕ → List ℕ → ℕ → A
walk_in stop more zero mst at = stop at
walk_in stop more (suc n) mst at = cond (leb (at + 18) (end_of mst)) (more at (walk_in stop more n mst (next_step mst at))) (stop at)

module _ {A : Type 0} (stop : ℕ → A) (more : ℕ → A → A) (mst : List ℕ) where
  walk_end : (f at : ℕ) → end_of mst < at + 18 → walk_in stop more f mst at ≡ stop at
  unfolding walk_in
  walk_end zero at full = refl
  walk_end (suc f) at full = rw (lt-leb (at + 18) (end_of mst) full)

  walk_next : (f at : ℕ) → at + 18 ≤ end_of mst → walk_in stop more (suc f) mst at ≡ more at (walk_in stop more f mst (next_step mst at))
  unfolding walk_in
  walk_next f at room = rw (le-leb (at + 18) (end_of mst) room)

  -- any count will do that reaches the end
  walk_any : (at f g : ℕ) → end_of mst ≤ at + f → end_of mst ≤ at + g → walk_in stop more f mst at ≡ walk_in stop more g mst at
  walk_any =
      walk_ind mst (λ (at : ℕ). (f g : ℕ) → end_of mst ≤ at + f → end_of mst ≤ at + g → walk_in stop more f mst at ≡ walk_in stop more g mst at)
      (λ at full f g hf hg. walk_end f at full ∙ sym (walk_end g at full))
      both
    where
      both : (at : ℕ) → at + 18 ≤ end_of mst
          → ((f g : ℕ) → end_of mst ≤ next_step mst at + f → end_of mst ≤ next_step mst at + g
          → walk_in stop more f mst (next_step mst at) ≡ walk_in stop more g mst (next_step mst at))
          → (f g : ℕ) → end_of mst ≤ at + f → end_of mst ≤ at + g → walk_in stop more f mst at ≡ walk_in stop more g mst at
      both at room ih zero g hf hg = absurd (omega arith)
      both at room ih (suc f) zero hf hg = absurd (omega arith)
      both at room ih (suc f) (suc g) hf hg =
          let up : at + 18 ≤ next_step mst at = next_up mst at room in
          walk_next f at room ∙ ap (more at) (ih f g (omega arith) (omega arith)) ∙ sym (walk_next g at room)

  walk_more : (at : ℕ) → at + 18 ≤ end_of mst
      → walk_in stop more (end_of mst - at) mst at ≡ more at (walk_in stop more (end_of mst - next_step mst at) mst (next_step mst at))
  walk_more at room =
      let up : at + 18 ≤ next_step mst at = next_up mst at room in
      walk_any at (end_of mst - at) (suc (end_of mst - at)) (omega arith) (omega arith)
      ∙ walk_next (end_of mst - at) at room
      ∙ ap (more at) (walk_any (next_step mst at) (end_of mst - at) (end_of mst - next_step mst at) (omega arith) (omega arith))

module _ (mst : List ℕ) where
  steps_walk : (f at : ℕ) → steps_in f mst at ≡ walk_in (λ (s : ℕ). []) (λ (s : ℕ) (l : List ℕ). s ∷ l) f mst at
  unfolding steps_in walk_in
  steps_walk zero at = refl
  steps_walk (suc f) at = rw (steps_walk f (next_step mst at))

  arrives_walk : (f at : ℕ) → arrives_in f mst at ≡ walk_in (λ (s : ℕ). eqb s (end_of mst)) (λ (s : ℕ) (t : Bool). t) f mst at
  unfolding arrives_in walk_in
  arrives_walk zero at = refl
  arrives_walk (suc f) at = rw (arrives_walk f (next_step mst at))

  pub steps_end : (at : ℕ) → end_of mst < at + 18 → steps mst at ≡ []
  unfolding steps
  steps_end at full = steps_walk (end_of mst - at) at ∙ walk_end (λ (s : ℕ). []) (λ (s : ℕ) (l : List ℕ). s ∷ l) mst (end_of mst - at) at full

  pub arrives_end : (at : ℕ) → end_of mst < at + 18 → arrives mst at ≡ eqb at (end_of mst)
  unfolding arrives
  arrives_end at full = arrives_walk (end_of mst - at) at ∙ walk_end (λ (s : ℕ). eqb s (end_of mst)) (λ (s : ℕ) (t : Bool). t) mst (end_of mst - at) at full

  pub steps_more : (at : ℕ) → at + 18 ≤ end_of mst → steps mst at ≡ at ∷ steps mst (next_step mst at)
  unfolding steps
  steps_more at room =
      let n : ℕ = next_step mst at in
      steps_walk (end_of mst - at) at
      ∙ walk_more (λ (s : ℕ). []) (λ (s : ℕ) (l : List ℕ). s ∷ l) mst at room
      ∙ ap (λ (l : List ℕ). at ∷ l) (sym (steps_walk (end_of mst - n) n))

  pub arrives_more : (at : ℕ) → at + 18 ≤ end_of mst → arrives mst at ≡ arrives mst (next_step mst at)
  unfolding arrives
  arrives_more at room =
      let n : ℕ = next_step mst at in
      arrives_walk (end_of mst - at) at
      ∙ walk_more (λ (s : ℕ). eqb s (end_of mst)) (λ (s : ℕ) (t : Bool). t) mst at room
      ∙ sym (arrives_walk (end_of mst - n) n)

-- ---- the steps ascend

-- from lo on, each greater than the one before
abbrev pub Ascends : ℕ → List ℕ → Type 0
Ascends lo [] = Unit {0}
Ascends lo (x ∷ xs) = (lo ≤ x) × Ascends (suc x) xs

ascend_from : (lo hi : ℕ) (l : List ℕ) → lo ≤ hi → Ascends hi l → Ascends lo l
ascend_from lo hi [] h a = a
ascend_from lo hi (x ∷ xs) h a = (omega (arith, a.0), a.1)

pub steps_ascend : (mst : List ℕ) (at : ℕ) → Ascends at (steps mst at)
steps_ascend mst =
    walk_ind mst (λ (at : ℕ). Ascends at (steps mst at))
    (λ at full. rw (steps_end mst at full) tt)
    (λ at room ih.
    rw (steps_more mst at room)
    (omega arith, ascend_from (suc at) (next_step mst at) (steps mst (next_step mst at)) (omega (arith, next_up mst at room)) ih))

-- ---- members of a list

pub elem_none : (a : ℕ) → elem a [] ≡ true → ⊥
unfolding elem
elem_none a h = false_true h

pub elem_here : (s : ℕ) (l : List ℕ) → elem s (s ∷ l) ≡ true
unfolding elem
elem_here s l = rw (eq-eqb s s refl)

pub elem_there : (a s : ℕ) (l : List ℕ) → elem a l ≡ true → elem a (s ∷ l) ≡ true
unfolding elem
elem_there a s l h = rw (h, or-true)

pub elem_cases : (a s : ℕ) (l : List ℕ) → elem a (s ∷ l) ≡ true → (a ≡ s) ⊎ (elem a l ≡ true)
unfolding elem
elem_cases a s l h = go (eqb a s) refl h
  where
    go : (t : Bool) → eqb a s ≡ t → (t || elem a l) ≡ true → (a ≡ s) ⊎ (elem a l ≡ true)
    go true e w = inl (eqb-true a s e)
    go false e w = inr w

pub elem_left : (a : ℕ) (l r : List ℕ) → elem a l ≡ true → elem a (l ++ r) ≡ true
elem_left a [] r h = absurd (elem_none a h)
elem_left a (s ∷ l) r h =
    ⊎_elim (λ e. rw e (elem_here s (l ++ r))) (λ i. elem_there a s (l ++ r) (elem_left a l r i)) (elem_cases a s l h)

pub elem_right : (a : ℕ) (l r : List ℕ) → elem a r ≡ true → elem a (l ++ r) ≡ true
elem_right a [] r h = h
elem_right a (s ∷ l) r h = elem_there a s (l ++ r) (elem_right a l r h)

-- ---- members of the steps

module _ (mst : List ℕ) where
  -- a walk that arrives has a right MFRL at each step
  pub len_right : (at : ℕ) → at + 18 ≤ end_of mst → arrives mst at ≡ true → step_right mst at ≡ true
  len_right at room way = go (step_right mst at) refl
    where
      go : (t : Bool) → step_right mst at ≡ t → t ≡ true
      go true e = refl
      go false e =
          let q : arrives mst (end_of mst + 1) ≡ true = rw (← next_wrong mst at e) (sym (arrives_more mst at room) ∙ way) in
          sym (ne_eqb (end_of mst + 1) (end_of mst) (λ z. omega arith)) ∙ sym (arrives_end mst (end_of mst + 1) (omega arith)) ∙ q

  -- and goes on from the next step, which is not past the end
  pub way_on : (at : ℕ) → at + 18 ≤ end_of mst → arrives mst at ≡ true → arrives mst (next_step mst at) ≡ true
  way_on at room way = sym (arrives_more mst at room) ∙ way

  -- a member that the first step is, or that is one of the rest
  pub steps_cases : (at s : ℕ) → at + 18 ≤ end_of mst → elem s (steps mst at) ≡ true → (s ≡ at) ⊎ (elem s (steps mst (next_step mst at)) ≡ true)
  steps_cases at s room i = elem_cases s at (steps mst (next_step mst at)) (rw (steps_more mst at room) at i)

  pub steps_none : (at s : ℕ) → end_of mst < at + 18 → elem s (steps mst at) ≡ true → ⊥
  steps_none at s full i = elem_none s (rw (steps_end mst at full) at i)

-- one of the steps from an address on
pub record MemberFacts (mst : List ℕ) (at s : ℕ) : Type 0 where
  pub from : at ≤ s
  pub room : s + 18 ≤ end_of mst
  pub step : StepFacts mst s

member_from : {mst : List ℕ} {at next s : ℕ} → at ≤ next → MemberFacts mst next s → MemberFacts mst at s
member_from h f = record { from = omega (arith, f.from); room = f.room; step = f.step }

pub member_facts : (mst : List ℕ) (s at : ℕ) → arrives mst at ≡ true → elem s (steps mst at) ≡ true → MemberFacts mst at s
member_facts mst s =
    walk_ind mst (λ (at : ℕ). arrives mst at ≡ true → elem s (steps mst at) ≡ true → MemberFacts mst at s)
    (λ at full way i. absurd (steps_none mst at s full i))
    (λ at room ih way i. ⊎_elim (here at room way) (there at room way ih) (steps_cases mst at s room i))
  where
    here : (at : ℕ) → at + 18 ≤ end_of mst → arrives mst at ≡ true → s ≡ at → MemberFacts mst at s
    here at room way e = rw e (record { from = omega arith; room = room; step = step_facts mst at (len_right mst at room way) })

    there : (at : ℕ) → at + 18 ≤ end_of mst → arrives mst at ≡ true
        → (arrives mst (next_step mst at) ≡ true → elem s (steps mst (next_step mst at)) ≡ true → MemberFacts mst (next_step mst at) s)
        → elem s (steps mst (next_step mst at)) ≡ true → MemberFacts mst at s
    there at room way ih i = member_from (omega (arith, next_up mst at room)) (ih (way_on mst at room way) i)

-- two steps are the same, or one stops before the other begins
pub steps_apart : (mst : List ℕ) (x y at : ℕ) → arrives mst at ≡ true → elem x (steps mst at) ≡ true → elem y (steps mst at) ≡ true
    → (x ≡ y → ⊥) → (x + mfrl_at mst x ≤ y) ⊎ (y + mfrl_at mst y ≤ x)
steps_apart mst x y =
    walk_ind mst
    (λ (at : ℕ). arrives mst at ≡ true → elem x (steps mst at) ≡ true → elem y (steps mst at) ≡ true
    → (x ≡ y → ⊥) → (x + mfrl_at mst x ≤ y) ⊎ (y + mfrl_at mst y ≤ x))
    (λ at full way i j ne. absurd (steps_none mst at x full i))
    (λ at room ih way i j ne.
    let on : arrives mst (next_step mst at) ≡ true = way_on mst at room way in
    ⊎_elim
    (λ e. ⊎_elim (λ f. absurd (ne (e ∙ sym f))) (λ k. inl (after at x y room way e k)) (steps_cases mst at y room j))
    (λ k. ⊎_elim (λ f. inr (after at y x room way f k)) (λ l. ih on k l ne) (steps_cases mst at y room j))
    (steps_cases mst at x room i))
  where
    after : (at a b : ℕ) → at + 18 ≤ end_of mst → arrives mst at ≡ true → a ≡ at → elem b (steps mst (next_step mst at)) ≡ true → a + mfrl_at mst a ≤ b
    after at a b room way e k =
        let f = step_facts mst at (len_right mst at room way) in
        let g = member_facts mst b (next_step mst at) (way_on mst at room way) k in
        rw e (omega arith)

-- ---- what a write does to the steps

-- a leader is read from its own bytes
leader_kept : (mst mst' : List ℕ) (s : ℕ) → s + 18 ≤ end_of mst → s + 18 ≤ end_of mst' → ((i : ℕ) → s ≤ i → i < s + 18 → get_or mst' i 0 ≡ get_or mst i 0)
    → leader_of (record_from mst' s) ≡ leader_of (record_from mst s)
leader_kept mst mst' s a b same =
    leader_front (drop s mst') (end_of mst' - s) (omega arith)
    ∙ leader_same mst' mst s s (λ k h. same (s + k) (omega arith) (omega arith))
    ∙ sym (leader_front (drop s mst) (end_of mst - s) (omega arith))

pub mfrl_kept : (mst mst' : List ℕ) (s : ℕ) → s + 18 ≤ end_of mst → s + 18 ≤ end_of mst' → ((i : ℕ) → s ≤ i → i < s + 18 → get_or mst' i 0 ≡ get_or mst i 0)
    → mfrl_at mst' s ≡ mfrl_at mst s
mfrl_kept mst mst' s a b same = ap (λ (l : Leader). l.mfrl) (leader_kept mst mst' s a b same)

-- MFRL is kept at each of the list
abbrev pub MfrlKept : List ℕ → List ℕ → List ℕ → Type 0
MfrlKept mst mst' l = (s : ℕ) → elem s l ≡ true → mfrl_at mst' s ≡ mfrl_at mst s

kept_here : (mst mst' : List ℕ) (at : ℕ) → at + 18 ≤ end_of mst → MfrlKept mst mst' (steps mst at) → mfrl_at mst' at ≡ mfrl_at mst at
kept_here mst mst' at room k = k at (rw (steps_more mst at room) (elem_here at (steps mst (next_step mst at))))

kept_rest : (mst mst' : List ℕ) (at : ℕ) → at + 18 ≤ end_of mst → MfrlKept mst mst' (steps mst at) → MfrlKept mst mst' (steps mst (next_step mst at))
kept_rest mst mst' at room k s i = k s (rw (steps_more mst at room) (elem_there s at (steps mst (next_step mst at)) i))

-- MFRL and the end decide the next step
next_same : (mst mst' : List ℕ) (s : ℕ) → end_of mst' ≡ end_of mst → mfrl_at mst' s ≡ mfrl_at mst s → next_step mst' s ≡ next_step mst s
unfolding next_step step_right
next_same mst mst' s end e = rw (e, end)

-- and where MFRL is right any later end
next_longer : (mst mst' : List ℕ) (s : ℕ) → step_right mst s ≡ true → end_of mst ≤ end_of mst' → mfrl_at mst' s ≡ mfrl_at mst s
    → next_step mst' s ≡ next_step mst s
next_longer mst mst' s right le e =
    let f = step_facts mst s right in
    let stop : s + mfrl_at mst s ≤ end_of mst' = omega arith in
    let right' : step_right mst' s ≡ true = step_from mst' s (rw e f.mfrl) (rw e stop) in
    (step_facts mst' s right').next_is ∙ rw e (sym f.next_is)

module _ (mst mst' : List ℕ) (end : end_of mst' ≡ end_of mst) where
  pub steps_same : (at : ℕ) → MfrlKept mst mst' (steps mst at) → steps mst' at ≡ steps mst at
  steps_same =
      walk_ind mst (λ (at : ℕ). MfrlKept mst mst' (steps mst at) → steps mst' at ≡ steps mst at)
      (λ at full k. steps_end mst' at (omega arith) ∙ sym (steps_end mst at full))
      (λ at room ih k.
      steps_more mst' at (omega arith)
      ∙ ap (λ (n : ℕ). at ∷ steps mst' n) (next_same mst mst' at end (kept_here mst mst' at room k))
      ∙ ap (λ (l : List ℕ). at ∷ l) (ih (kept_rest mst mst' at room k))
      ∙ sym (steps_more mst at room))

  pub arrives_same : (at : ℕ) → MfrlKept mst mst' (steps mst at) → arrives mst' at ≡ arrives mst at
  arrives_same =
      walk_ind mst (λ (at : ℕ). MfrlKept mst mst' (steps mst at) → arrives mst' at ≡ arrives mst at)
      (λ at full k. arrives_end mst' at (omega arith) ∙ ap (eqb at) end ∙ sym (arrives_end mst at full))
      (λ at room ih k.
      arrives_more mst' at (omega arith)
      ∙ ap (arrives mst') (next_same mst mst' at end (kept_here mst mst' at room k))
      ∙ ih (kept_rest mst mst' at room k)
      ∙ sym (arrives_more mst at room))

-- A RECORD AT THE END: one step more. The new end is where the step at the old end leads
module _ (mst mst' : List ℕ) (room : end_of mst + 18 ≤ end_of mst') (lands : next_step mst' (end_of mst) ≡ end_of mst') where
  steps_longer : (at : ℕ) → arrives mst at ≡ true → MfrlKept mst mst' (steps mst at) → steps mst' at ≡ steps mst at ++ (end_of mst ∷ [])
  steps_longer =
      walk_ind mst
      (λ (at : ℕ). arrives mst at ≡ true → MfrlKept mst mst' (steps mst at) → steps mst' at ≡ steps mst at ++ (end_of mst ∷ []))
      (λ at full way k.
      let q : at ≡ end_of mst = eqb-true at (end_of mst) (sym (arrives_end mst at full) ∙ way) in
      rw (steps_end mst at full, q, steps_more mst' (end_of mst) room, lands, steps_end mst' (end_of mst') (omega arith)))
      (λ at fits ih way k.
      let n : next_step mst' at ≡ next_step mst at =
      next_longer mst mst' at (len_right mst at fits way) (omega arith) (kept_here mst mst' at fits k) in
      rw (steps_more mst at fits, steps_more mst' at (omega arith), n)
      (ap (λ (l : List ℕ). at ∷ l) (ih (way_on mst at fits way) (kept_rest mst mst' at fits k))))

  arrives_longer : (at : ℕ) → arrives mst at ≡ true → MfrlKept mst mst' (steps mst at) → arrives mst' at ≡ true
  arrives_longer =
      walk_ind mst (λ (at : ℕ). arrives mst at ≡ true → MfrlKept mst mst' (steps mst at) → arrives mst' at ≡ true)
      (λ at full way k.
      let q : at ≡ end_of mst = eqb-true at (end_of mst) (sym (arrives_end mst at full) ∙ way) in
      rw (q, arrives_more mst' (end_of mst) room, lands, arrives_end mst' (end_of mst') (omega arith), eq-eqb (end_of mst') (end_of mst') refl))
      (λ at fits ih way k.
      let n : next_step mst' at ≡ next_step mst at =
      next_longer mst mst' at (len_right mst at fits way) (omega arith) (kept_here mst mst' at fits k) in
      rw (arrives_more mst' at (omega arith), n) (ih (way_on mst at fits way) (kept_rest mst mst' at fits k)))

-- the same for a record of n bytes, after which the end moves
module _ (mst mst' : List ℕ) (n : ℕ) (long : record_length n ≡ true) (own : mfrl_at mst' (end_of mst) ≡ n)
    (end : end_of mst' ≡ end_moved (end_of mst + n)) where
  moved : EndMovedFacts (end_of mst + n) (end_moved (end_of mst + n))
  moved = end_moved_facts (end_of mst + n)

  append_room : end_of mst + 18 ≤ end_of mst'
  append_room = let f = record_length_facts n long in let g = moved in omega arith

  append_lands : next_step mst' (end_of mst) ≡ end_of mst'
  append_lands =
      let g = moved in
      let right : step_right mst' (end_of mst) ≡ true = step_from mst' (end_of mst) (rw own long) (omega arith) in
      (step_facts mst' (end_of mst) right).next_is ∙ ap (λ (k : ℕ). end_moved (end_of mst + k)) own ∙ sym end

  module _ (at : ℕ) (way : arrives mst at ≡ true) (kept : MfrlKept mst mst' (steps mst at)) where
    steps_append : steps mst' at ≡ steps mst at ++ (end_of mst ∷ [])
    steps_append = steps_longer mst mst' append_room append_lands at way kept

    pub arrives_append : arrives mst' at ≡ true
    arrives_append = arrives_longer mst mst' append_room append_lands at way kept

    pub elem_kept : (s : ℕ) → elem s (steps mst at) ≡ true → elem s (steps mst' at) ≡ true
    elem_kept s i = rw steps_append (elem_left s (steps mst at) (end_of mst ∷ []) i)

    pub elem_new : elem (end_of mst) (steps mst' at) ≡ true
    elem_new = rw steps_append (elem_right (end_of mst) (steps mst at) (end_of mst ∷ []) (elem_here (end_of mst) []))
