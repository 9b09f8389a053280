-- Drafts: the sum of the lengths and the test of the tags, turn by turn; the need; what `draft_right` answers; and the directory of a draft's
-- fields, which grows by one entry with each field.
use Prim.Native.Nat.{ℕ, zero, suc, ◌+◌, ◌*◌, ◌%◌, ◌<◌, ◌≤◌, zero-le}
use native.Mathlib.Nat.{add-zero, zero-add, add_assoc, add-le-add, le_refl, le_of_suc-le-suc, not-suc-le-zero}
use native.Mathlib.Numerals.{add-one}
use native.Mathlib.Omega.{arith}
use mathlib.Core.Path.{◌≡◌, refl, ap}
use mathlib.Core.Bool.{false, and-false}
use mathlib.Core.List.{List, [], ◌∷◌, ◌++◌}
use lib.ListN.{length, get_or, take, drop, length-drop}
use lib.Seq.{length-take-le, take_all}
use borrow.Author.Tests.{lt-leb}
use Rattle.layout.specs.Sizes.{record_most, fields_most, tag_permitted}
use Rattle.drafts.specs.Draft.{sum, tags_permitted, need_of, draft_right, draft_fields}
use Rattle.std.specs.List.{list_all}
use Rattle.drafts.specs.Bytes.{entry_bytes, directory_bytes}

-- ---- sums

sum_suc : (i : ℕ) (ns : List ℕ) → i < length ns → sum (take (suc i) ns) ≡ sum (take i ns) + get_or ns i 0
unfolding sum
sum_suc i [] h = absurd (not-suc-le-zero h)
sum_suc zero (n ∷ ns) h = omega arith
sum_suc (suc i) (n ∷ ns) h = rw (sum_suc i ns (le_of_suc-le-suc h), add_assoc)

pub sum_more : (i : ℕ) (ns : List ℕ) → i < length ns → sum (take (i + 1) ns) ≡ sum (take i ns) + get_or ns i 0
sum_more i ns h = rw add-one (sum_suc i ns h)

pub sum_take_le : (i : ℕ) (ns : List ℕ) → sum (take i ns) ≤ sum ns
unfolding sum
sum_take_le zero ns = zero-le
sum_take_le (suc i) [] = zero-le
sum_take_le (suc i) (n ∷ ns) = add-le-add (le_refl n) (sum_take_le i ns)

pub total_more : (ns : List ℕ) (s i : ℕ) → s ≡ sum (take i ns) → i < length ns → s + get_or ns i 0 ≡ sum (take (i + 1) ns)
total_more ns s i inv h = omega (arith, sum_more i ns h)

pub sum_none : 0 ≡ sum []
unfolding sum
sum_none = refl

pub sum_whole : (ns : List ℕ) → sum (take (length ns) ns) ≡ sum ns
sum_whole ns = ap sum (take_all (length ns) ns (le_refl (length ns)))

-- ---- tags

pub tags_are : (ts : List ℕ) → tags_permitted ts ≡ list_all tag_permitted ts
unfolding tags_permitted
tags_are [] = refl
tags_are (t ∷ ts) = rw (tags_are ts)

-- ---- the need

-- it is even, holds a leader, and what it has to hold, with at most one byte of padding
pub record NeedFacts (fields size need : ℕ) : Type 0 where
  pub even : need % 2 ≡ 0
  pub low : 18 ≤ need
  pub room : 18 + 6 * fields + size ≤ need
  pub tight : need ≤ 18 + 6 * fields + size + 1

pub need_facts : (fields size : ℕ) → NeedFacts fields size (need_of fields size)
unfolding need_of
need_facts fields size = omega arith

-- ---- the answers of `draft_right`
module _ (tags lens bytes : List ℕ) where
  answer_need : record_most < need_of (length tags) (length bytes) → false ≡ draft_right tags lens bytes
  unfolding draft_right
  answer_need h = rw (lt-leb (need_of (length tags) (length bytes)) record_most h, and-false)

  pub answer_many : fields_most < length tags → false ≡ draft_right tags lens bytes
  answer_many h = let n = need_facts (length tags) (length bytes) in answer_need (omega arith)

  pub answer_long : record_most < length bytes → false ≡ draft_right tags lens bytes
  answer_long h = let n = need_facts (length tags) (length bytes) in answer_need (omega arith)

pub ruleset draft_answers = (answer_many, answer_long, tags_are)

-- ---- the directory of a draft, field by field

-- the entry of field i, behind those of the fields before it
entry_suc : (i p : ℕ) (ts ns bs : List ℕ) → i < length ts → i < length ns → sum ns ≤ length bs
    → directory_bytes p (take (suc i) (draft_fields ts ns bs))
    ≡ directory_bytes p (take i (draft_fields ts ns bs)) ++ entry_bytes (get_or ts i 0) (p + sum (take i ns)) (get_or ns i 0)
unfolding draft_fields directory_bytes sum
entry_suc i p [] ns bs h k l = absurd (not-suc-le-zero h)
entry_suc i p (t ∷ ts) [] bs h k l = absurd (not-suc-le-zero k)
entry_suc zero p (t ∷ ts) (n ∷ ns) bs h k l =
    let e : length (take n bs) ≡ n = length-take-le n bs (omega arith) in
    rw (e, add-zero)
entry_suc (suc i) p (t ∷ ts) (n ∷ ns) bs h k l =
    let e : length (take n bs) ≡ n = length-take-le n bs (omega arith) in
    let r : sum ns ≤ length (drop n bs) = rw (length-drop n bs) (omega arith) in
    rw (e, entry_suc i (p + n) ts ns (drop n bs) (le_of_suc-le-suc h) (le_of_suc-le-suc k) r, add_assoc)

pub entry_more : (i : ℕ) (ts ns bs : List ℕ) → i < length ts → i < length ns → sum ns ≤ length bs
    → directory_bytes 0 (take (i + 1) (draft_fields ts ns bs))
    ≡ directory_bytes 0 (take i (draft_fields ts ns bs)) ++ entry_bytes (get_or ts i 0) (sum (take i ns)) (get_or ns i 0)
entry_more i ts ns bs h k l = rw add-one (simp zero-add at (entry_suc i 0 ts ns bs h k l))
