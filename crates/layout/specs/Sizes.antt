-- Sizes, limits and addresses: document 01, "Sizes" and "Control record".
use Rattle.std.specs.Prelude.{ℕ, ◌+◌, ◌*◌, ◌-◌, ◌/◌, ◌%◌, Bool, ◌&&◌, cond, eqb, leb}

-- ---- limits

-- the most blocks of an MST and of an XRF
abbrev pub mst_blocks : ℕ
mst_blocks = 1048575

abbrev pub xrf_blocks : ℕ
xrf_blocks = 4096

-- the most bytes of an MST and of an XRF: so many blocks of 512
abbrev pub mst_most : ℕ
mst_most = 536870400

abbrev pub xrf_most : ℕ
xrf_most = 2097152

-- the most MFNs: 127 for each block of the longest XRF
abbrev pub mfn_most : ℕ
mfn_most = 520192

-- the most bytes of a record, and the most fields: 18 + 6 × 5,458 is 32,766
abbrev pub record_most : ℕ
record_most = 32766

abbrev pub fields_most : ℕ
fields_most = 5458

-- the highest tag
abbrev pub tag_most : ℕ
tag_most = 32767

-- the highest offset in its block at which a record begins
abbrev pub offset_most : ℕ
offset_most = 498

-- the first address whose block number does not fit in 32 bits: 512 × (2 ^ 32 - 1)
abbrev pub address_limit : ℕ
address_limit = 2199023255040

-- ---- sizes

-- n bytes are 1 to `most` blocks of 512
unfoldable pub blocks_within : ℕ → ℕ → Bool
blocks_within most n = eqb (n % 512) 0 && leb 512 n && leb n (512 * most)

-- MST: 1 to 1,048,575 blocks of 512 bytes
abbrev pub mst_permitted : ℕ → Bool
mst_permitted n = blocks_within mst_blocks n

-- XRF: 1 to 4,096 blocks of 512
abbrev pub xrf_permitted : ℕ → Bool
xrf_permitted n = blocks_within xrf_blocks n

-- capacity: 127 MFNs per XRF block, for an XRF of n bytes
abbrev pub capacity_of : ℕ → ℕ
capacity_of n = 127 * (n / 512)

-- the address of block b, offset p; block numbers count from 1
abbrev pub address_of : ℕ → ℕ → ℕ
address_of b p = (b - 1) * 512 + p

-- the block and the offset of an address
abbrev pub block_at : ℕ → ℕ
block_at a = a / 512 + 1

abbrev pub offset_at : ℕ → ℕ
offset_at a = a % 512

-- an end that would fall on offset 500 to 510 moves to offset 0 of the next block when it is stored
unfoldable pub end_moved : ℕ → ℕ
end_moved a = cond (leb 500 (a % 512)) ((a / 512 + 1) * 512) a

-- a record is even, 18 to 32,766 bytes long
unfoldable pub record_length : ℕ → Bool
record_length n = eqb (n % 2) 0 && leb 18 n && leb n record_most

-- a tag is 1 to 32,767
unfoldable pub tag_permitted : ℕ → Bool
tag_permitted t = leb 1 t && leb t tag_most
