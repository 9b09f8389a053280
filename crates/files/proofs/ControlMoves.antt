-- What a write of control integers does: NXTMFN and the end are what was written, the control record is right again, and every byte is kept but
-- for those of the integers written. A call writes the end, or the end and NXTMFN; each is a `ControlMoved`, and nothing above this crate knows
-- where these integers stand or how the end is stored.
use Prim.Native.Nat.{ℕ, ◌+◌, ◌%◌, ◌≤◌, ◌<◌}
use native.Mathlib.Omega.{arith}
use mathlib.Core.Path.{◌≡◌, ◌∙◌}
use mathlib.Core.Logic.{◌⊎◌, inl, inr, ⊎_elim}
use mathlib.Core.Bool.{true}
use mathlib.Core.List.{List}
use lib.ListN.{length, get_or}
use Rattle.word.specs.Integer.{u16_at, le}
use Rattle.word.proofs.Overwrite.{lt_or_ge, overwrite_other}
use Rattle.layout.specs.Sizes.{mst_most, address_limit}
use Rattle.files.specs.Control.{end_bytes, next_of, end_of, control_right, with_next, with_end, migrated_mst}
use Rattle.files.specs.NamedBytes.{Within, NextByte, EndByte, OffsetByte, CountByte, ControlByte, next_mfn, the_end, the_count}
use Rattle.files.proofs.ControlRecord.{next_length, next_of_next, end_of_next, control_right_next, end_length, next_of_end, end_of_end, control_right_end}

-- ---- bytes in and out of a range

pub out_of : (a n i : ℕ) → (Within a n i → ⊥) → (i < a) ⊎ (a + n ≤ i)
out_of a n i off = ⊎_elim (λ b. inl b) (λ b. ⊎_elim (λ c. absurd (off (b, c))) (λ c. inr c) (lt_or_ge i (a + n))) (lt_or_ge i a)

-- the control record is before byte 64
pub control_front : (i : ℕ) → ControlByte i → i < 64
unfolding NextByte EndByte CountByte
control_front i (next_mfn h) = omega (arith, h.1)
control_front i (the_end h) = omega (arith, h.1)
control_front i (the_count h) = omega (arith, h.1)

-- ---- the two writes

pub next_kept : (mst : List ℕ) (n : ℕ) → 64 ≤ length mst → (i : ℕ) → (NextByte i → ⊥) → get_or (with_next mst n) i 0 ≡ get_or mst i 0
unfolding with_next NextByte
next_kept mst n long i off = overwrite_other mst 4 (le 4 n) i (omega arith) (out_of 4 4 i off)

pub end_kept : (mst : List ℕ) (e : ℕ) → 64 ≤ length mst → (i : ℕ) → (EndByte i → ⊥) → get_or (with_end mst e) i 0 ≡ get_or mst i 0
unfolding with_end EndByte
end_kept mst e long i off = overwrite_other mst 8 (end_bytes e) i (omega arith) (out_of 8 6 i off)

-- a migration writes NXTMFP alone
pub migrated_kept : (mst : List ℕ) → 64 ≤ length mst → (i : ℕ) → (OffsetByte i → ⊥) → get_or (migrated_mst mst) i 0 ≡ get_or mst i 0
unfolding migrated_mst OffsetByte
migrated_kept mst long i off = overwrite_other mst 12 (le 2 (u16_at mst 12 + 1)) i (omega arith) (out_of 12 2 i off)

-- ---- what a call writes

-- where an end can be, in an MST of n bytes
pub record EndPlace (n e : ℕ) : Type 0 where
  pub low : 64 ≤ e
  pub high : e ≤ n
  pub even : e % 2 ≡ 0
  pub offset : e % 512 ≤ 498
  pub small : n ≤ mst_most

-- NXTMFN and the end are others, and of the bytes at most those that `May` names
pub record ControlMoved (mst mst' : List ℕ) (May : ℕ → Type 0) (capacity next end : ℕ) : Type 0 where
  pub long : length mst' ≡ length mst
  pub right : control_right mst' capacity ≡ true
  pub next_is : next_of mst' ≡ next
  pub end_is : end_of mst' ≡ end
  pub named : (i : ℕ) → May i → ControlByte i
  pub kept : (i : ℕ) → (May i → ⊥) → get_or mst' i 0 ≡ get_or mst i 0

module _ (mst : List ℕ) (capacity e : ℕ) (right : control_right mst capacity ≡ true) (p : EndPlace (length mst) e) where
  long : 64 ≤ length mst
  long = omega (arith, p.low, p.high)

  small : e < address_limit
  small = omega (arith, p.high, p.small)

  -- the end
  pub end_moved_lem : ControlMoved mst (with_end mst e) EndByte capacity (next_of mst) e
  end_moved_lem =
      record {
        long = end_length mst e long;
        right = control_right_end mst e long small capacity right p.low p.high p.even p.offset;
        next_is = next_of_end mst e long;
        end_is = end_of_end mst e long small;
        named = λ i b. the_end b;
        kept = end_kept mst e long;
      }

  -- the end and NXTMFN
  pub both_moved : (n : ℕ) → 1 ≤ n → n ≤ capacity + 1 → n < 4294967296 → ControlMoved mst (with_next (with_end mst e) n) ControlByte capacity n e
  both_moved n low high fits =
      let a = end_moved_lem in
      let l : 64 ≤ length (with_end mst e) = rw a.long long in
      record {
        long = next_length (with_end mst e) n l ∙ a.long;
        right = control_right_next (with_end mst e) n l capacity capacity a.right fits low high;
        next_is = next_of_next (with_end mst e) n l fits;
        end_is = end_of_next (with_end mst e) n l ∙ a.end_is;
        named = λ i b. b;
        kept = λ i off. next_kept (with_end mst e) n l i (λ b. off (next_mfn b)) ∙ a.kept i (λ b. off (the_end b));
      }
