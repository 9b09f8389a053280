-- The tests of `specs/` as facts on numbers: a test that came out true gives a record of facts, and the facts give the test back. Callers
-- read the records and never the tests.
use Prim.Native.Nat.{ℕ, zero, suc, ◌+◌, ◌*◌, ◌-◌, ◌%◌, ◌≤◌}
use mathlib.Core.Path.{◌≡◌, refl, ap, ◌∙◌}
use mathlib.Core.Bool.{Bool, true, false, ◌&&◌, cond, and-true, and-false}
use mathlib.Core.List.{List}
use lib.ListN.{length}
use Rattle.layout.specs.Sizes.{record_most, record_length, tag_permitted}
use Rattle.layout.specs.Leader.{leader_of}
use Rattle.layout.specs.declared.entry.Place.{Place}
use Rattle.layout.specs.declared.leader.Leader.{Leader}
use Rattle.word.proofs.Tests.{tests}
use Rattle.layout.proofs.Facts.{record_length_facts}
use Rattle.record.specs.Directory.{tag_at, pos_at, len_at, entry_right, entries_right, directory_right}
use Rattle.record.specs.Record.{leader_right, extent_right, base_right, fields_right, status_for, status_right, back_fine, well_formed, record_right, broken_entry, number_told, no_back, Readable}
use Rattle.record.specs.Inner.{broken_of, test_of}
use Rattle.std.proofs.Common.{Ok, Err}
use Rattle.record.specs.declared.test.Broken.{Broken}

-- ---- the directory

-- entry i of a right directory, after lengths that sum to pos, and the k entries behind it
pub record EntryFacts (rec : List ℕ) (room k i pos : ℕ) : Type 0 where
  pub tag : tag_permitted (tag_at rec i) ≡ true
  pub pos_is : pos_at rec i ≡ pos
  pub len : pos + len_at rec i ≤ room
  pub rest : directory_right rec room k (i + 1) (pos + len_at rec i) ≡ true

module _ (rec : List ℕ) (room k i pos : ℕ) where
  pub entry_facts : directory_right rec room (suc k) i pos ≡ true → EntryFacts rec room k i pos
  unfolding directory_right entries_right entry_right
  entry_facts e = let q = simp tests at e in record { tag = q.0.0.0; pos_is = q.0.0.1; len = q.0.1; rest = q.1 }

  pub entry_from : EntryFacts rec room k i pos → directory_right rec room (suc k) i pos ≡ true
  unfolding directory_right entries_right entry_right
  entry_from f = simp tests (((f.tag, f.pos_is), f.len), f.rest)

-- ---- the leader

-- a leader that is right for MFN m, where so many bytes are left
pub record LeaderFacts (m : ℕ) (deleted : Bool) (left : ℕ) (l : Leader) : Type 0 where
  pub mfn : l.mfn.0 ≡ m
  pub mfrl : record_length l.mfrl ≡ true
  pub even : l.mfrl % 2 ≡ 0
  pub low : 18 ≤ l.mfrl
  pub high : l.mfrl ≤ record_most
  pub record_in : l.mfrl ≤ left
  pub base_is : l.base ≡ 18 + 6 * l.nvf
  pub base_in : l.base ≤ l.mfrl
  pub status : l.status ≡ status_for deleted

module _ (m : ℕ) (deleted : Bool) (left : ℕ) (l : Leader) where
  pub leader_facts : leader_right m deleted left l ≡ true → LeaderFacts m deleted left l
  unfolding leader_right extent_right base_right status_right
  leader_facts e =
      let q = simp tests at e in
      let r = record_length_facts l.mfrl q.0.0.0.1 in
      record {
        mfn = q.0.0.0.0;
        mfrl = q.0.0.0.1;
        even = r.even;
        low = r.low;
        high = r.high;
        record_in = q.0.0.1;
        base_is = q.0.1.0;
        base_in = q.0.1.1;
        status = q.1;
      }

  pub leader_from : l.mfn.0 ≡ m → record_length l.mfrl ≡ true → l.mfrl ≤ left → l.base ≡ 18 + 6 * l.nvf → l.base ≤ l.mfrl
      → l.status ≡ status_for deleted → leader_right m deleted left l ≡ true
  unfolding leader_right extent_right base_right status_right
  leader_from a b c d e f = simp tests ((((a, b), c), (d, e)), f)

-- ---- the record

-- a right record, by its two parts
pub record RightFacts (rec : List ℕ) (m : ℕ) (deleted : Bool) : Type 0 where
  pub leader : LeaderFacts m deleted (length rec) (leader_of rec)
  pub directory : directory_right rec ((leader_of rec).mfrl - (leader_of rec).base) (leader_of rec).nvf 0 0 ≡ true

-- the third of four tests may be the last
and_last : (a b c d : Bool) → (a && b && c && d) ≡ (a && b && d && c)
and_last false b c d = refl
and_last true false c d = refl
and_last true true false d = rw (and-false d)
and_last true true true d = rw (and-true d)

-- a record is well formed if it is right and its back pointer is
pub well_formed_both : (rec : List ℕ) (end m : ℕ) (p : Place) → well_formed rec end m p ≡ (record_right rec m p.deleted && back_fine end p (leader_of rec))
unfolding well_formed record_right leader_right
well_formed_both rec end m p =
    ap (λ (x : Bool). x && back_fine end p (leader_of rec))
    (and_last (extent_right m (length rec) (leader_of rec)) (base_right (leader_of rec)) (fields_right rec (leader_of rec)) (status_right p.deleted (leader_of rec)))

-- a record is as long as it says whatever MFN it is asked for
own_extent : (m left : ℕ) (l : Leader) → extent_right m left l ≡ true → extent_right l.mfn.0 left l ≡ true
unfolding extent_right
own_extent m left l e = let q = simp tests at e in simp tests ((refl, q.0.1), q.1)

module _ (rec : List ℕ) (m : ℕ) (deleted : Bool) where
  pub right_facts : record_right rec m deleted ≡ true → RightFacts rec m deleted
  unfolding record_right
  right_facts e =
      let q = simp tests at e in
      record { leader = leader_facts m deleted (length rec) (leader_of rec) q.0; directory = q.1 }

  pub right_from : leader_right m deleted (length rec) (leader_of rec) ≡ true
      → directory_right rec ((leader_of rec).mfrl - (leader_of rec).base) (leader_of rec).nvf 0 0 ≡ true → record_right rec m deleted ≡ true
  unfolding record_right
  right_from a b = simp tests (a, b)

  pub right_readable : record_right rec m deleted ≡ true → Readable rec
  unfolding record_right leader_right
  right_readable e =
      let q = simp tests at e in
      record { extent = own_extent m (length rec) (leader_of rec) q.0.0.0; base = q.0.0.1; fields = q.1 }

-- what the sentences of a record that can be read say in numbers
pub record ReadableFacts (rec : List ℕ) : Type 0 where
  pub base_is : (leader_of rec).base ≡ 18 + 6 * (leader_of rec).nvf
  pub base_in : (leader_of rec).base ≤ (leader_of rec).mfrl
  pub record_in : (leader_of rec).mfrl ≤ length rec
  pub short : (leader_of rec).mfrl ≤ record_most
  pub directory : directory_right rec ((leader_of rec).mfrl - (leader_of rec).base) (leader_of rec).nvf 0 0 ≡ true

pub readable_facts : {rec : List ℕ} → Readable rec → ReadableFacts rec
unfolding extent_right base_right
readable_facts {rec} r =
    let a = simp tests at r.extent in
    let b = simp tests at r.base in
    record {
      base_is = b.0;
      base_in = b.1;
      record_in = a.1;
      short = (record_length_facts (leader_of rec).mfrl a.0.1).high;
      directory = r.fields;
    }

-- ---- the test and the back pointer

tested_right : (b : Bool) (l k : Leader) (x : Broken) → cond b (Ok l) (Err x) ≡ Ok k → (b ≡ true) × (l ≡ k)
tested_right true l k x p = (refl, (cc))
tested_right false l k x p = absurd (cc)

tested_broken : (b : Bool) (l : Leader) (x y : Broken) → cond b (Ok l) (Err x) ≡ Err y → (b ≡ false) × (x ≡ y)
tested_broken true l x y p = absurd (cc)
tested_broken false l x y p = (refl, (cc))

told_back : (n : ℕ) → n ≡ number_told (broken_of n)
told_back zero = refl
told_back (suc n) = refl

module _ (rec : List ℕ) (m : ℕ) (deleted : Bool) where
  -- a record that was tested well formed, with its leader
  pub test_right : (l : Leader) → test_of rec m deleted ≡ Ok l → (record_right rec m deleted ≡ true) × (leader_of rec ≡ l)
  unfolding test_of
  test_right l e = tested_right (record_right rec m deleted) (leader_of rec) l _ e

  -- and one that was not, with what is told of it
  pub test_broken : (x : Broken) → test_of rec m deleted ≡ Err x → (record_right rec m deleted ≡ false) × (broken_entry rec m deleted ≡ number_told x)
  unfolding test_of
  test_broken x e =
      let q = tested_broken (record_right rec m deleted) (leader_of rec) _ x e in
      (q.0, told_back (broken_entry rec m deleted) ∙ ap number_told q.1)

-- the back pointer is 0/0
pub record NoBackFacts (l : Leader) : Type 0 where
  pub block : l.mfbwb.0 ≡ 0
  pub offset : l.mfbwp ≡ 0

module _ (l : Leader) where
  pub no_back_facts : no_back l ≡ true → NoBackFacts l
  unfolding no_back
  no_back_facts e = let q = simp tests at e in record { block = q.0; offset = q.1 }

  pub no_back_from : l.mfbwb.0 ≡ 0 → l.mfbwp ≡ 0 → no_back l ≡ true
  unfolding no_back
  no_back_from a b = simp tests (a, b)
