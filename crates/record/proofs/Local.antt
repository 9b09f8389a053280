-- A record is read from its own MFRL bytes only: its leader, and behind the leader the directory and the data. Two lists with the same bytes
-- behind the leader have directories that are right together, and the same fields (`same_directory`, `same_fields`). So a list whose first
-- MFRL bytes are those of a right record is read as that record is, whatever follows; and so is a record whose leader alone was written
-- anew. What is read stands in one record, `ReadsAs`, and each law takes one and gives one.
use Prim.Native.Nat.{ℕ, zero, suc, ◌+◌, ◌*◌, ◌-◌, ◌≤◌, ◌<◌}
use native.Mathlib.Omega.{arith}
use mathlib.Core.Path.{◌≡◌, refl, sym, ap, ◌∙◌}
use mathlib.Core.Logic.{inl, inr}
use mathlib.Core.Bool.{Bool, true, false}
use mathlib.Core.List.{List, [], ◌++◌}
use lib.ListN.{length, get_or, take, drop, replicate, length-take, length-drop}
use lib.Seq.{take-take}
use Rattle.word.specs.Integer.{u16_at, le}
use Rattle.word.specs.Overwrite.{overwrite, part}
use Rattle.word.proofs.Overwrite.{part_take, overwrite_length, overwrite_part_after, drop_overwritten}
use Rattle.word.proofs.Integers.{u16_other, u32_other, u16_inside, u32_inside, u16_le_at, u32_le}
use Rattle.word.proofs.Window.{window, window_u16, window_part}
use Rattle.layout.specs.Leader.{leader_of}
use Rattle.layout.specs.declared.leader.Leader.{Leader}
use Rattle.layout.proofs.LeaderBytes.{leader_is, leader_front}
use Rattle.record.specs.Directory.{tag_at, pos_at, len_at, entry_right, entries_right, directory_right}
use Rattle.record.specs.Fields.{Field, fields_from, fields_of}
use Rattle.record.specs.Record.{leader_right, status_for, record_right}
use Rattle.record.proofs.Facts.{EntryFacts, entry_facts, LeaderFacts, leader_from, right_facts, right_from}

-- what is read of a record that is right for MFN m and deleted or not: its leader and its fields
pub record ReadsAs (rec : List ℕ) (m : ℕ) (deleted : Bool) (l : Leader) (fs : List Field) : Type 0 where
  pub right : record_right rec m deleted ≡ true
  pub leader : leader_of rec ≡ l
  pub fields : fields_of rec ≡ fs

pub right_reads : (rec : List ℕ) (m : ℕ) (deleted : Bool) → record_right rec m deleted ≡ true → ReadsAs rec m deleted (leader_of rec) (fields_of rec)
right_reads rec m deleted e = record { right = e; leader = refl; fields = refl }

-- ---- the n bytes behind the leader

module _ (rec rec' : List ℕ) (n : ℕ) (e : part rec' 18 n ≡ part rec 18 n) where
  same_u16 : (j : ℕ) → 18 ≤ j → j + 2 ≤ 18 + n → u16_at rec' j ≡ u16_at rec j
  same_u16 j h k =
      let s : 18 + (j - 18) ≡ j = omega arith in
      rw s at (window_u16 rec' rec 18 18 n e (j - 18) (omega arith))

  same_part : (a k : ℕ) → 18 ≤ a → a + k ≤ 18 + n → part rec' a k ≡ part rec a k
  same_part a k h l =
      let s : 18 + (a - 18) ≡ a = omega arith in
      rw s at (window_part rec' rec 18 18 n e (a - 18) k (omega arith))

  module _ (i : ℕ) (h : 6 * i + 6 ≤ n) where
    same_tag : tag_at rec' i ≡ tag_at rec i
    same_tag = same_u16 (18 + 6 * i) (omega arith) (omega arith)

    same_pos : pos_at rec' i ≡ pos_at rec i
    same_pos = same_u16 (20 + 6 * i) (omega arith) (omega arith)

    same_len : len_at rec' i ≡ len_at rec i
    same_len = same_u16 (22 + 6 * i) (omega arith) (omega arith)

  same_directory : (room k i pos : ℕ) → 6 * (i + k) ≤ n → directory_right rec' room k i pos ≡ directory_right rec room k i pos
  unfolding directory_right entries_right entry_right
  same_directory room zero i pos h = refl
  same_directory room (suc k) i pos h =
      let g : 6 * i + 6 ≤ n = omega arith in
      rw (same_tag i g, same_pos i g, same_len i g, same_directory room k (i + 1) (pos + len_at rec i) (omega arith))

  same_fields : (room base k i pos : ℕ) → directory_right rec room k i pos ≡ true → 18 ≤ base → base + room ≤ 18 + n → 6 * (i + k) ≤ n
      → fields_from rec' base k i ≡ fields_from rec base k i
  unfolding fields_from
  same_fields room base zero i pos d b r h = refl
  same_fields room base (suc k) i pos d b r h =
      let g : 6 * i + 6 ≤ n = omega arith in
      let f : EntryFacts rec room k i pos = entry_facts rec room k i pos d in
      rw (
        same_tag i g,
        same_pos i g,
        same_len i g,
        same_part (base + pos_at rec i) (len_at rec i) (omega arith) (omega arith),
        same_fields room base k (i + 1) (pos + len_at rec i) f.rest b r (omega arith),
      )

-- ---- what is read, in terms of the leader

module _ {rec : List ℕ} {m : ℕ} {deleted : Bool} {l : Leader} {fs : List Field} where
  module _ (r : ReadsAs rec m deleted l fs) where
    pub reads_leader : LeaderFacts m deleted (length rec) l
    reads_leader = rw r.leader at (right_facts rec m deleted r.right).leader

    pub reads_directory : directory_right rec (l.mfrl - l.base) l.nvf 0 0 ≡ true
    reads_directory = rw r.leader at (right_facts rec m deleted r.right).directory

    pub reads_fields : fields_from rec l.base l.nvf 0 ≡ fs
    unfolding fields_of
    reads_fields = rw r.leader at r.fields

  pub reads_from : leader_of rec ≡ l → leader_right m deleted (length rec) l ≡ true → directory_right rec (l.mfrl - l.base) l.nvf 0 0 ≡ true
      → fields_from rec l.base l.nvf 0 ≡ fs → ReadsAs rec m deleted l fs
  unfolding fields_of
  reads_from e a b c = record { right = right_from rec m deleted (rw e a) (rw e b); leader = e; fields = rw e c }

-- a record holds its own MFN
pub reads_mfn : {rec : List ℕ} {m m' : ℕ} {deleted deleted' : Bool} {l l' : Leader} {fs fs' : List Field}
    → ReadsAs rec m deleted l fs → ReadsAs rec m' deleted' l' fs' → m ≡ m'
reads_mfn r r' = sym (reads_leader r).mfn ∙ ap (λ (x : Leader). x.mfn.0) (sym r.leader ∙ r'.leader) ∙ (reads_leader r').mfn

-- ---- another leader with the same lengths, and the same bytes behind it

module _ {rec : List ℕ} {m : ℕ} {deleted : Bool} {l : Leader} {fs : List Field} (r : ReadsAs rec m deleted l fs) (rec' : List ℕ) where
  reads_body : (m' : ℕ) (deleted' : Bool) (l' : Leader) → leader_of rec' ≡ l' → l'.mfn.0 ≡ m' → l'.mfrl ≡ l.mfrl → l'.base ≡ l.base → l'.nvf ≡ l.nvf
      → l'.status ≡ status_for deleted' → l.mfrl ≤ length rec' → part rec' 18 (l.mfrl - 18) ≡ part rec 18 (l.mfrl - 18)
      → ReadsAs rec' m' deleted' l' fs
  reads_body m' deleted' l' e a b c d s long body =
      let f : LeaderFacts m deleted (length rec) l = reads_leader r in
      reads_from e
      (leader_from m' deleted' (length rec') l' a (rw b f.mfrl) (omega arith) (omega arith) (omega arith) s)
      (rw (b, c, d) (same_directory rec rec' (l.mfrl - 18) body (l.mfrl - l.base) l.nvf 0 0 (omega arith) ∙ reads_directory r))
      (rw (c, d)
      (same_fields rec rec' (l.mfrl - 18) body (l.mfrl - l.base) l.base l.nvf 0 0 (reads_directory r) (omega arith) (omega arith) (omega arith)
      ∙ reads_fields r))

  -- the same leader: the first MFRL bytes are the same
  pub reads_take : l.mfrl ≤ length rec' → take l.mfrl rec' ≡ take l.mfrl rec → ReadsAs rec' m deleted l fs
  reads_take long e =
      let f : LeaderFacts m deleted (length rec) l = reads_leader r in
      let n : ℕ = l.mfrl in
      let k : 18 + (n - 18) ≤ n = omega arith in
      reads_body m deleted l
      (sym (leader_front rec' n f.low) ∙ ap leader_of e ∙ leader_front rec n f.low ∙ r.leader)
      f.mfn refl refl refl f.status long
      (sym (part_take rec' n 18 (n - 18) k) ∙ ap (λ (x : List ℕ). part x 18 (n - 18)) e ∙ part_take rec n 18 (n - 18) k)

-- ---- records in a buffer: the part from its first byte to the end

module _ (d : List ℕ) (at n : ℕ) {m : ℕ} {deleted : Bool} {l : Leader} {fs : List Field} (r : ReadsAs (part d at n) m deleted l fs) where
  part_in : (18 ≤ l.mfrl) × (l.mfrl ≤ n) × (at + l.mfrl ≤ length d)
  part_in =
      let f : LeaderFacts m deleted (length (part d at n)) l = reads_leader r in
      omega (arith, length-take n (drop at d), length-drop at d)

  -- the same bytes in another buffer
  pub reads_part : (d' : List ℕ) (n' : ℕ) → l.mfrl ≤ n' → at + l.mfrl ≤ length d' → part d' at l.mfrl ≡ part d at l.mfrl
      → ReadsAs (part d' at n') m deleted l fs
  reads_part d' n' h k e =
      let b = part_in in
      reads_take r (part d' at n') (omega (arith, length-take n' (drop at d'), length-drop at d'))
      (take-take l.mfrl n' (drop at d') h ∙ e ∙ sym (take-take l.mfrl n (drop at d) b.1))

  -- another bound
  pub reads_bound : (n' : ℕ) → l.mfrl ≤ n' → ReadsAs (part d at n') m deleted l fs
  reads_bound n' h = reads_part d n' h part_in.2 refl

  -- up to the end of the buffer
  pub reads_tail : ReadsAs (drop at d) m deleted l fs
  reads_tail =
      let b = part_in in
      reads_take r (drop at d) (omega (arith, length-drop at d)) (sym (take-take l.mfrl n (drop at d) b.1))

pub tail_reads : (d : List ℕ) (at n : ℕ) {m : ℕ} {deleted : Bool} {l : Leader} {fs : List Field} → ReadsAs (drop at d) m deleted l fs → l.mfrl ≤ n
    → ReadsAs (part d at n) m deleted l fs
tail_reads d at n {m} {deleted} {l} r h =
    let f : LeaderFacts m deleted (length (drop at d)) l = reads_leader r in
    reads_take r (part d at n) (omega (arith, length-take n (drop at d))) (take-take l.mfrl n (drop at d) h)

module _ (d : List ℕ) (at end : ℕ) {m : ℕ} {deleted : Bool} {l : Leader} {fs : List Field} (r : ReadsAs (part d at (end - at)) m deleted l fs) where
  pub reads_window : (d' : List ℕ) (end' : ℕ) → at + l.mfrl ≤ end' → end' ≤ length d'
      → ((i : ℕ) → at ≤ i → i < at + l.mfrl → get_or d' i 0 ≡ get_or d i 0) → ReadsAs (part d' at (end' - at)) m deleted l fs
  reads_window d' end' h k same =
      let b = part_in d at (end - at) r in
      reads_part d at (end - at) r d' (end' - at) (omega arith) (omega arith)
      (window d' d at l.mfrl (omega arith) b.2 same)

-- ---- another back pointer is written

abbrev pub with_back : Leader → ℕ → ℕ → Leader
with_back l b p =
    record {
      mfn = l.mfn;
      mfrl = l.mfrl;
      mfbwb = record { 0 = b };
      mfbwp = p;
      base = l.base;
      nvf = l.nvf;
      status = l.status;
    }

pub status_small : (deleted : Bool) → status_for deleted ≤ 1
status_small true = omega arith
status_small false = omega arith

module _ {rec : List ℕ} {m : ℕ} {deleted : Bool} {l : Leader} {fs : List Field} (r : ReadsAs rec m deleted l fs) where
  -- what is placed within the leader leaves the rest
  reads_patched : (b p at : ℕ) (xs : List ℕ) → at + length xs ≤ 18 → leader_of (overwrite rec at xs) ≡ with_back l b p → ReadsAs (overwrite rec at xs) m deleted (with_back l b p) fs
  reads_patched b p at xs h e =
      let f : LeaderFacts m deleted (length rec) l = reads_leader r in
      reads_body r (overwrite rec at xs) m deleted (with_back l b p) e f.mfn refl refl refl f.status
      (rw (overwrite_length rec at xs (omega arith)) f.record_in)
      (overwrite_part_after rec at xs 18 (l.mfrl - 18) h)

module _ (b p : ℕ) (low : b < 4294967296) (high : p < 65536) where
  -- the six bytes of the back pointer alone
  pub reads_pointer : {rec : List ℕ} {m : ℕ} {deleted : Bool} {l : Leader} {fs : List Field} → ReadsAs rec m deleted l fs
      → ReadsAs (overwrite rec 6 (le 4 b ++ le 2 p)) m deleted (with_back l b p) fs
  unfolding leader_of
  reads_pointer {rec} {m} {deleted} {l} r =
      let f : LeaderFacts m deleted (length rec) l = reads_leader r in
      let xs : List ℕ = le 4 b ++ le 2 p in
      let h : 6 ≤ length rec = omega arith in
      reads_patched r b p 6 xs (omega arith)
      (leader_is (overwrite rec 6 xs) (with_back l b p)
      (u32_other rec 6 xs 0 h (inl (omega arith)) ∙ ap (λ (x : Leader). x.mfn.0) r.leader)
      (u16_other rec 6 xs 4 h (inl (omega arith)) ∙ ap (λ (x : Leader). x.mfrl) r.leader)
      (u32_inside rec 6 xs 0 h (omega arith) ∙ u32_le b (le 2 p) low)
      (u16_inside rec 6 xs 4 h (omega arith) ∙ u16_le_at (le 4 b) p [] 4 refl high)
      (u16_other rec 6 xs 12 h (inr (omega arith)) ∙ ap (λ (x : Leader). x.base) r.leader)
      (u16_other rec 6 xs 14 h (inr (omega arith)) ∙ ap (λ (x : Leader). x.nvf) r.leader)
      (u16_other rec 6 xs 16 h (inr (omega arith)) ∙ ap (λ (x : Leader). x.status) r.leader))

  -- in a buffer
  module _ (d : List ℕ) (at n : ℕ) {m : ℕ} {deleted : Bool} {l : Leader} {fs : List Field} (r : ReadsAs (part d at n) m deleted l fs) where
    pub reads_pointer_placed : ReadsAs (part (overwrite d (at + 6) (le 4 b ++ le 2 p)) at n) m deleted (with_back l b p) fs
    reads_pointer_placed =
        let c = part_in d at n r in
        tail_reads (overwrite d (at + 6) (le 4 b ++ le 2 p)) at n
        (rw (drop_overwritten d at 6 (le 4 b ++ le 2 p) (omega arith)) (reads_pointer (reads_tail d at n r)))
        c.1

-- the back pointer 0/0
pub reads_settled : (d : List ℕ) (at n : ℕ) {m : ℕ} {deleted : Bool} {l : Leader} {fs : List Field} → ReadsAs (part d at n) m deleted l fs
    → ReadsAs (part (overwrite d (at + 6) (replicate 6 0)) at n) m deleted (with_back l 0 0) fs
reads_settled d at n r = reads_pointer_placed 0 0 (omega arith) (omega arith) d at n r
