-- RECCNT: its bits as a signed number, what each write leaves of it, and that a write of it leaves all else. Where the control record stands
-- is known in this crate alone: callers have `count_of`, `with_count` and these laws.
use Prim.Native.Nat.{ℕ, zero, suc, ◌+◌, ◌%◌, ◌≤◌, ◌<◌}
use native.Mathlib.Omega.{arith}
use mathlib.Core.Path.{◌≡◌, refl, sym, ap, ◌∙◌}
use mathlib.Core.Logic.{◌⊎◌, inl, inr, ⊎_elim}
use mathlib.Core.Bool.{Bool, true, false, cond}
use mathlib.Core.List.{List}
use lib.Dec.{eqb}
use lib.IntN.{ℤ, pos, negsuc, suc_ℤ, pred_ℤ}
use lib.ListN.{length, get_or, length-replicate}
use lib.Signed.{mag}
use mir.Syntax.{w32}
use mir.Val.{to_z, of_z}
use borrow.Author.Tests.{lt-ltb, le-ltb, lt-leb, le-leb, eq-eqb, ne_eqb, eqb-true}
use Rattle.word.specs.Integer.{u16_at, le}
use Rattle.word.specs.Overwrite.{overwrite, part}
use Rattle.word.specs.Signed.{signed_of, bits_of}
use Rattle.word.proofs.Overwrite.{lt_or_ge, overwrite_length, overwrite_other, overwrite_part_after}
use Rattle.word.proofs.Integers.{u32_same, u32_other, u32_placed}
use Rattle.word.proofs.Tests.{false_true}
use Rattle.word.proofs.TwosComplement.{signed_low}
use Rattle.layout.specs.Sizes.{mst_blocks, mst_permitted}
use Rattle.layout.proofs.Facts.{blocks_facts}
use Rattle.files.specs.Control.{end_bytes, next_of, end_of, control_right, with_next, with_end, formatted_mst, migrated_mst, count_of, is_number, count_is, count_most, count_full, count_none, with_count, counted_more, counted_less}
use Rattle.files.specs.NamedBytes.{CountByte, ControlByte, the_count}
use Rattle.files.proofs.Zero.{zeros, zero_u32}
use Rattle.files.proofs.ControlRecord.{next_length, next_placed, end_placed, control_right_placed}
use Rattle.files.proofs.ControlMoves.{out_of, ControlMoved}

-- ---- what the functions tell

-- the greatest number of 4 bytes, and a number up to it
pub full_told : (mst : List ℕ) (z : ℤ) → mag z < 2147483648 → z ≡ count_of mst → eqb (of_z w32 z) count_most ≡ count_full mst
unfolding count_full
full_told mst (pos n) h e =
    rw (← e) (⊎_elim (λ l. ne_eqb n count_most (λ q. omega arith) ∙ sym (lt-leb count_most n l)) (λ g. eq-eqb n count_most (omega arith) ∙ sym (le-leb count_most n g)) (lt_or_ge n count_most))
full_told mst (negsuc n) h e = rw (← e) (ne_eqb (of_z w32 (negsuc n)) count_most (λ q. omega arith))

pub number_told : (mst : List ℕ) (z : ℤ) (n : ℕ) → mag z < 2147483648 → z ≡ count_of mst → n ≤ count_most → eqb (of_z w32 z) n ≡ count_is mst n
unfolding count_is
number_told mst (pos k) n h e l = rw (← e)
number_told mst (negsuc k) n h e l = rw (← e) (ne_eqb (of_z w32 (negsuc k)) n (λ q. omega arith))

-- the bits of a number that is computed with bits
bits_kept : (n : ℕ) → n < 4294967296 → bits_of (to_z w32 n) ≡ n
unfolding bits_of
bits_kept n h = ⊎_elim (λ l. rw (lt-ltb n 2147483648 l)) (λ g. rw (le-ltb n 2147483648 g) (omega arith)) (lt_or_ge n 2147483648)

more_bits : (z : ℤ) → mag z < 2147483648 → (of_z w32 z + 1) % 4294967296 ≡ bits_of (suc_ℤ z)
unfolding bits_of
more_bits (pos n) h = omega arith
more_bits (negsuc zero) h = refl
more_bits (negsuc (suc n)) h = omega arith

less_bits : (z : ℤ) → mag z < 2147483648 → (of_z w32 z + 4294967295) % 4294967296 ≡ bits_of (pred_ℤ z)
unfolding bits_of
less_bits (pos zero) h = refl
less_bits (pos (suc n)) h = omega arith
less_bits (negsuc n) h = omega arith

module _ (mst out : List ℕ) (z : ℤ) (h : mag z < 2147483648) (e : z ≡ count_of mst) where
  pub more_put : (b : Bool) → b ≡ true → out ≡ overwrite mst 16 (le 4 (bits_of (to_z w32 ((of_z w32 z + 1) % 4294967296)))) → out ≡ cond b (counted_more mst) mst
  unfolding counted_more with_count
  more_put b t w = rw (t, w, bits_kept ((of_z w32 z + 1) % 4294967296) (omega arith), more_bits z h, e)

  pub less_put : out ≡ overwrite mst 16 (le 4 (bits_of (to_z w32 ((of_z w32 z + 4294967295) % 4294967296)))) → out ≡ counted_less mst
  unfolding counted_less with_count
  less_put w = rw (w, bits_kept ((of_z w32 z + 4294967295) % 4294967296) (omega arith), less_bits z h, e)

pub number_put : (mst out : List ℕ) (n : ℕ) → out ≡ overwrite mst 16 (le 4 n) → out ≡ with_count mst (pos n)
unfolding with_count bits_of
number_put mst out n w = w

-- ---- RECCNT as a natural number

pub is_number_lem : (mst : List ℕ) (n : ℕ) → count_of mst ≡ pos n → count_is mst n ≡ true
unfolding count_is
is_number_lem mst n e = rw e (eq-eqb n n refl)

number_is : (z : ℤ) (n : ℕ) → is_number z n ≡ true → z ≡ pos n
number_is (pos k) n h = ap pos (eqb-true k n h)
number_is (negsuc k) n h = absurd (false_true h)

pub count_is_lem : (mst : List ℕ) (n : ℕ) → count_is mst n ≡ true → count_of mst ≡ pos n
unfolding count_is
count_is_lem mst n h = number_is (count_of mst) n h

-- where it is below the greatest, and where it is at least 1
pub not_full : (mst : List ℕ) (n : ℕ) → count_of mst ≡ pos n → n < count_most → count_full mst ≡ false
unfolding count_full
not_full mst n e h = rw e (lt-leb count_most n h)

pub not_none : (mst : List ℕ) (n : ℕ) → count_of mst ≡ pos n → 1 ≤ n → count_none mst ≡ false
unfolding count_none
not_none mst n e h = rw e (lt-leb n 0 h)

-- ---- what keeps it

pub count_same : (x y : List ℕ) → ((i : ℕ) → CountByte i → get_or x i 0 ≡ get_or y i 0) → count_of x ≡ count_of y
unfolding count_of CountByte
count_same x y same = ap signed_of (u32_same x y 16 16 (λ m h. same (16 + m) (omega arith, omega arith)))

pub count_other : (mst : List ℕ) (at : ℕ) (xs : List ℕ) → at ≤ length mst → (at + length xs ≤ 16) ⊎ (20 ≤ at) → count_of (overwrite mst at xs) ≡ count_of mst
unfolding count_of
count_other mst at xs h side =
    ap signed_of (u32_other mst at xs 16 h (⊎_elim (λ b. inr b) (λ a. inl (omega arith)) side))

pub count_of_next : (mst : List ℕ) (n : ℕ) → 64 ≤ length mst → count_of (with_next mst n) ≡ count_of mst
unfolding with_next
count_of_next mst n long = count_other mst 4 (le 4 n) (omega arith) (inl (omega arith))

pub count_of_end : (mst : List ℕ) (e : ℕ) → 64 ≤ length mst → count_of (with_end mst e) ≡ count_of mst
unfolding with_end
count_of_end mst e long = count_other mst 8 (end_bytes e) (omega arith) (inl (omega arith))

pub migrated_count : (mst : List ℕ) → 64 ≤ length mst → count_of (migrated_mst mst) ≡ count_of mst
unfolding migrated_mst
migrated_count mst long = count_other mst 12 (le 2 (u16_at mst 12 + 1)) (omega arith) (inl (omega arith))

-- ---- RECCNT is written

-- what stands behind the control record is as it was
pub count_part : (mst : List ℕ) (z : ℤ) (a n : ℕ) → 64 ≤ a → part (with_count mst z) a n ≡ part mst a n
unfolding with_count
count_part mst z a n h = overwrite_part_after mst 16 (le 4 (bits_of z)) a n (omega arith)

module _ (mst : List ℕ) (z : ℤ) (long : 64 ≤ length mst) where
  pub count_length : length (with_count mst z) ≡ length mst
  unfolding with_count
  count_length = overwrite_length mst 16 (le 4 (bits_of z)) (omega arith)

  pub count_kept : (i : ℕ) → (CountByte i → ⊥) → get_or (with_count mst z) i 0 ≡ get_or mst i 0
  unfolding with_count CountByte
  count_kept i off = overwrite_other mst 16 (le 4 (bits_of z)) i (omega arith) (out_of 16 4 i off)

  pub next_of_count : next_of (with_count mst z) ≡ next_of mst
  unfolding with_count
  next_of_count = next_placed mst 16 (le 4 (bits_of z)) (omega arith) (omega arith)

  pub end_of_count : end_of (with_count mst z) ≡ end_of mst
  unfolding with_count
  end_of_count = end_placed mst 16 (le 4 (bits_of z)) (omega arith) (omega arith)

  pub control_right_count : (capacity : ℕ) → control_right (with_count mst z) capacity ≡ control_right mst capacity
  unfolding with_count
  control_right_count capacity = control_right_placed mst 16 (le 4 (bits_of z)) (omega arith) (omega arith) capacity

-- it is read back
pub count_of_count : (mst : List ℕ) (n : ℕ) → 64 ≤ length mst → n ≤ count_most → count_of (with_count mst (pos n)) ≡ pos n
unfolding count_of with_count bits_of
count_of_count mst n long h = rw (u32_placed mst 16 n (omega arith) (omega arith)) (signed_low n (omega arith))

-- plus one below the greatest and minus one above 0 do not wrap
pub count_of_more : (mst : List ℕ) (n : ℕ) → 64 ≤ length mst → count_of mst ≡ pos n → n < count_most → count_of (counted_more mst) ≡ pos (suc n)
unfolding counted_more
count_of_more mst n long e h = rw e (count_of_count mst (suc n) long (omega arith))

pub count_of_less : (mst : List ℕ) (n : ℕ) → 64 ≤ length mst → count_of mst ≡ pos (suc n) → n < count_most → count_of (counted_less mst) ≡ pos n
unfolding counted_less
count_of_less mst n long e h = rw e (count_of_count mst n long (omega arith))

-- ---- with the other control integers

-- RECCNT is written behind a move of control integers
pub count_moved : {May : ℕ → Type 0} {capacity next end : ℕ} (mst mst' : List ℕ) (z : ℤ) → 64 ≤ length mst → ControlMoved mst mst' May capacity next end
    → ControlMoved mst (with_count mst' z) ControlByte capacity next end
count_moved mst mst' z long m =
    let l : 64 ≤ length mst' = rw m.long long in
    record {
      long = count_length mst' z l ∙ m.long;
      right = control_right_count mst' z l _ ∙ m.right;
      next_is = next_of_count mst' z l ∙ m.next_is;
      end_is = end_of_count mst' z l ∙ m.end_is;
      named = λ i b. b;
      kept = λ i off. count_kept mst' z l i (λ b. off (the_count b)) ∙ m.kept i (λ b. off (m.named i b));
    }

-- ---- format

zero_count : (n : ℕ) → count_of (zeros n) ≡ pos 0
unfolding count_of
zero_count n = rw (zero_u32 n 16) (signed_low 0 (omega arith))

pub formatted_none : (n : ℕ) → mst_permitted n ≡ true → count_of (formatted_mst n) ≡ pos 0
unfolding formatted_mst
formatted_none n h =
    let f = blocks_facts mst_blocks n h in
    let a : 64 ≤ length (zeros n) = rw length-replicate (omega arith) in
    let b : 64 ≤ length (with_next (zeros n) 1) = rw (next_length (zeros n) 1 a) a in
    count_of_end (with_next (zeros n) 1) 64 b ∙ count_of_next (zeros n) 1 a ∙ zero_count n
