-- The cross-reference file: blocks of a first integer and 127 slots. Document 01, "Control record" (format) and "Cross-reference entries".
use Rattle.std.specs.Prelude.{ℕ, zero, suc, ◌+◌, ◌*◌, ◌-◌, ◌/◌, ◌%◌, Bool, cond, List, eqb, length, replicate}
use Rattle.word.specs.Integer.{u32_at, le}
use Rattle.word.specs.Overwrite.{overwrite}
use Rattle.word.specs.Signed.{signed_of, bits_of}
use Rattle.layout.specs.Entry.{entry_of, encode_of}
use Rattle.layout.specs.declared.entry.Place.{Place}
use Rattle.layout.specs.declared.entry.Entry.{Entry}
use Rattle.layout.specs.declared.entry.Entry.TheVariants.{Malformed}

-- MFN m stands in block (m - 1) / 127 + 1
abbrev pub xrf_block : ℕ → ℕ
xrf_block m = (m - 1) / 127 + 1

-- slot (m - 1) mod 127, after that block's first integer
abbrev pub slot_at : ℕ → ℕ
slot_at m = (m - 1) / 127 * 512 + 4 + (m - 1) % 127 * 4

-- the first integer of block k of n, as 32 bits: k, or -k in the last block
unfoldable pub head_bits : ℕ → ℕ → ℕ
head_bits n k = cond (eqb k n) (4294967296 - k) k

-- the first integer of block k is right
unfoldable pub head_right : List ℕ → ℕ → Bool
head_right xrf k = eqb (u32_at xrf ((k - 1) * 512)) (head_bits (length xrf / 512) k)

-- the entry of MFN m, with the end known; malformed too where its block's first integer is wrong
unfoldable pub entry_at : List ℕ → ℕ → ℕ → Entry
entry_at xrf end m = cond (head_right xrf (xrf_block m)) (entry_of end (signed_of (u32_at xrf (slot_at m)))) Malformed

-- MFN m's slot holds 0
unfoldable pub slot_free : List ℕ → ℕ → Bool
slot_free xrf m = eqb (u32_at xrf (slot_at m)) 0

-- the XRF with the place p as the entry of MFN m
unfoldable pub with_entry : List ℕ → ℕ → Place → List ℕ
with_entry xrf m p = overwrite xrf (slot_at m) (le 4 (bits_of (encode_of p)))

-- the first integers of the first k blocks, of n, written
unfoldable pub with_heads : ℕ → ℕ → List ℕ → List ℕ
with_heads n zero xrf = xrf
with_heads n (suc k) xrf = overwrite (with_heads n k xrf) (k * 512) (le 4 (head_bits n (suc k)))

-- what format leaves in an XRF of n bytes: zero, but for each block's first integer
unfoldable pub formatted_xrf : ℕ → List ℕ
formatted_xrf n = with_heads (n / 512) (n / 512) (replicate n 0)
