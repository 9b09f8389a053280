-- The control record, from MST byte 0. Document 01, "Control record"; request C-12 for NXTMFP, C-17 for RECCNT.
--
--   byte   field     rule
--   0      CTLMFN*   0
--   4      NXTMFN*   1 to capacity + 1
--   8      NXTMFB*   the end's block
--   12     NXTMFP    the end's offset plus 1, odd, at most 499; by the old rule the offset itself, even, at most 498
--   14     MFTYPE    0
--   16     RECCNT*   how many records have an entry that is neither deleted nor gone; no part of what makes the control record right
--   20-63  ignored and kept
use Rattle.std.specs.Prelude.{ℕ, ◌+◌, ◌-◌, ◌%◌, Bool, false, ◌&&◌, List, ◌++◌, eqb, leb, ℤ, pos, negsuc, length, replicate}
use Rattle.std.proofs.Math.IntN.{suc_ℤ, pred_ℤ}
use Rattle.std.specs.Int.Signed.{le_z}
use Rattle.word.specs.Integer.{u16_at, u32_at, le}
use Rattle.word.specs.Overwrite.{overwrite}
use Rattle.word.specs.Signed.{signed_of, bits_of}
use Rattle.layout.specs.Sizes.{offset_most, address_of, block_at, offset_at}

-- all that makes it right stands in its first bytes, and so do NXTMFN and the end
abbrev pub control_read : ℕ
control_read = 16

-- ---- how the end is stored: its block as it is, its offset counted from a number

-- NXTMFP counts the end's offset from 1, and counted it from 0 by the old rule
abbrev pub offsets_from : ℕ
offsets_from = 1

abbrev pub old_offsets_from : ℕ
old_offsets_from = 0

-- what is stored of an offset, and the offset that is read of it
abbrev pub stored_offset : ℕ → ℕ → ℕ
stored_offset from p = p + from

abbrev pub read_offset : ℕ → ℕ → ℕ
read_offset from n = n - from

-- ---- what the control record says, where offsets are counted from a number

-- NXTMFN
unfoldable pub next_of : List ℕ → ℕ
next_of mst = u32_at mst 4

-- the end: the offset, counted from 0, where the next record goes
unfoldable pub end_from : ℕ → List ℕ → ℕ
end_from from mst = address_of (u32_at mst 8) (read_offset from (u16_at mst 12))

-- CTLMFN and MFTYPE are 0, and NXTMFN lies in 1 to capacity + 1
unfoldable pub numbers_right : List ℕ → ℕ → Bool
numbers_right mst capacity =
    eqb (u32_at mst 0) 0 && eqb (u16_at mst 14) 0 && leb 1 (next_of mst) && leb (next_of mst) (capacity + 1)

-- the end is at least 64 and at most the MST length, and its offset is even and at most 498: what is stored is even or odd as the number that it is
-- counted from. Blocks count from 1
unfoldable pub end_right_from : ℕ → List ℕ → Bool
end_right_from from mst =
    leb 1 (u32_at mst 8)
    && eqb (u16_at mst 12 % 2) (from % 2)
    && leb (u16_at mst 12) (stored_offset from offset_most)
    && leb 64 (end_from from mst)
    && leb (end_from from mst) (length mst)

-- the control record is right, for a capacity
unfoldable pub control_right_from : ℕ → List ℕ → ℕ → Bool
control_right_from from mst capacity = numbers_right mst capacity && end_right_from from mst

-- ---- by the rule of today, which every call reads and writes by

abbrev pub end_of : List ℕ → ℕ
end_of mst = end_from offsets_from mst

abbrev pub control_right : List ℕ → ℕ → Bool
control_right mst capacity = control_right_from offsets_from mst capacity

-- ---- by the old rule, which a migration alone reads by

abbrev pub old_end_of : List ℕ → ℕ
old_end_of mst = end_from old_offsets_from mst

abbrev pub old_control_right : List ℕ → ℕ → Bool
old_control_right mst capacity = control_right_from old_offsets_from mst capacity

-- ---- what is written of it

-- the MST with another NXTMFN
unfoldable pub with_next : List ℕ → ℕ → List ℕ
with_next mst n = overwrite mst 4 (le 4 n)

-- NXTMFB and NXTMFP of an end
abbrev pub end_bytes : ℕ → List ℕ
end_bytes e = le 4 (block_at e) ++ le 2 (stored_offset offsets_from (offset_at e))

-- the MST with another end
unfoldable pub with_end : List ℕ → ℕ → List ℕ
with_end mst e = overwrite mst 8 (end_bytes e)

-- what format leaves in an MST of n bytes: zero, RECCNT too, but for NXTMFN 1 and the end 64
unfoldable pub formatted_mst : ℕ → List ℕ
formatted_mst n = with_end (with_next (replicate n 0) 1) 64

-- what a migration leaves of an MST: NXTMFP plus 1, and no other byte changed
unfoldable pub migrated_mst : List ℕ → List ℕ
migrated_mst mst = overwrite mst 12 (le 2 (u16_at mst 12 + 1))

-- ---- RECCNT, in two's complement

-- RECCNT
unfoldable pub count_of : List ℕ → ℤ
count_of mst = signed_of (u32_at mst 16)

-- a signed number is n
abbrev pub is_number : ℤ → ℕ → Bool
is_number (pos k) n = eqb k n
is_number (negsuc k) n = false

-- RECCNT is n
unfoldable pub count_is : List ℕ → ℕ → Bool
count_is mst n = is_number (count_of mst) n

-- the greatest number of 4 bytes
abbrev pub count_most : ℕ
count_most = 2147483647

-- RECCNT is 2,147,483,647: no 4 bytes hold more
unfoldable pub count_full : List ℕ → Bool
count_full mst = le_z (pos count_most) (count_of mst)

-- RECCNT is 0 or below
unfoldable pub count_none : List ℕ → Bool
count_none mst = le_z (count_of mst) (pos 0)

-- the MST with another RECCNT
unfoldable pub with_count : List ℕ → ℤ → List ℕ
with_count mst z = overwrite mst 16 (le 4 (bits_of z))

-- plus one, and minus one
unfoldable pub counted_more : List ℕ → List ℕ
counted_more mst = with_count mst (suc_ℤ (count_of mst))

unfoldable pub counted_less : List ℕ → List ℕ
counted_less mst = with_count mst (pred_ℤ (count_of mst))
