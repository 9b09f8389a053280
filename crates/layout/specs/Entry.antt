-- A cross-reference entry: block × 2048 + low part. Document 01, "Cross-reference entries".
use Rattle.std.specs.Prelude.{ℕ, ◌+◌, ◌-◌, ◌/◌, ◌%◌, Bool, true, false, ◌&&◌, cond, eqb, leb, ℤ, pos, negsuc, neg_ℤ, nat_abs, ◌+ℤ◌, ◌*ℤ◌}
use Rattle.layout.specs.Sizes.{offset_most, address_of}
use Rattle.layout.specs.declared.entry.Mark.{Mark}
use Rattle.layout.specs.declared.entry.Mark.TheVariants.{Settled, Changed, New}
use Rattle.layout.specs.declared.entry.Place.{Place}
use Rattle.layout.specs.declared.entry.Entry.{Entry}
use Rattle.layout.specs.declared.entry.Entry.TheVariants.{Gone, Malformed, At}

-- a well-formed place: an even offset up to 498, an address of 64 or more, and 18 bytes before the end. Blocks count from 1
unfoldable pub well_placed : ℕ → ℕ → ℕ → Bool
well_placed end b p = leb 1 b && eqb (p % 2) 0 && leb p offset_most && leb 64 (address_of b p) && leb (address_of b p + 18) end

-- block is the quotient by 2048 rounded toward minus infinity: -(n + 1) goes to -(n / 2048 + 1)
abbrev pub block_of : ℤ → ℤ
block_of (pos n) = pos (n / 2048)
block_of (negsuc n) = negsuc (n / 2048)

-- the low part is 0 to 2047: what the entry is above block × 2048
abbrev pub low_of : ℤ → ℕ
low_of (pos n) = n % 2048
low_of (negsuc n) = 2047 - n % 2048

-- a negative block means deleted
abbrev pub deleted_of : ℤ → Bool
deleted_of (pos n) = false
deleted_of (negsuc n) = true

-- entry -2048 means physically deleted
abbrev pub means_gone : ℤ → Bool
means_gone (pos n) = false
means_gone (negsuc n) = eqb n 2047

-- block, offset, deleted or not, mark
abbrev pub placed : ℕ → ℕ → Bool → Mark → Place
placed b p d m = record { block = record { 0 = b }; offset = p; deleted = d; mark = m }

abbrev pub is_settled : Mark → Bool
is_settled Settled = true
is_settled Changed = false
is_settled New = false

abbrev pub is_changed : Mark → Bool
is_changed Settled = false
is_changed Changed = true
is_changed New = false

abbrev pub is_new : Mark → Bool
is_new Settled = false
is_new Changed = false
is_new New = true

-- the mark by the 512s above the offset: + 512 if changed, + 1024 if new; both together is malformed
unfoldable pub marked_place : ℕ → ℕ → Bool → ℕ → Entry
marked_place b p d k =
    cond (eqb k 0) (At (placed b p d Settled))
    (cond (eqb k 1) (At (placed b p d Changed))
    (cond (eqb k 2) (At (placed b p d New))
    Malformed))

-- the entry of a block, its deleted flag and a low part, with the end known: offset is the low part's remainder by 512
unfoldable pub place_of : ℕ → ℕ → Bool → ℕ → Entry
place_of end b d low = cond (well_placed end b (low % 512)) (marked_place b (low % 512) d (low / 512)) Malformed

-- which kind of entry a number is, with the end known: gone, malformed, or a place; the place is the block's absolute value
unfoldable pub entry_of : ℕ → ℤ → Entry
entry_of end e = cond (means_gone e) Gone (place_of end (nat_abs (block_of e)) (deleted_of e) (low_of e))

-- what a mark adds to the offset
unfoldable pub mark_bits : Mark → ℕ
mark_bits Settled = 0
mark_bits Changed = 512
mark_bits New = 1024

abbrev pub signed_block : Bool → ℕ → ℤ
signed_block true b = neg_ℤ (pos b)
signed_block false b = pos b

-- the entry that names a place
unfoldable pub encode_of : Place → ℤ
encode_of p = signed_block p.deleted p.block.0 *ℤ pos 2048 +ℤ pos (p.offset + mark_bits p.mark)

-- where a place's record begins
abbrev pub place_address : Place → ℕ
place_address p = address_of p.block.0 p.offset
