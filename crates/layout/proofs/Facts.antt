-- The tests of `specs/` as facts on numbers: a test that came out true gives a record of facts, and the facts give the test back. Callers
-- read the records and never the tests. Besides, addresses as blocks and offsets, and where the end moves.
use Prim.Native.Nat.{ℕ, ◌+◌, ◌*◌, ◌-◌, ◌/◌, ◌%◌, ◌^◌, ◌≤◌, ◌<◌}
use native.Mathlib.Omega.{arith}
use mathlib.Core.Path.{◌≡◌, refl}
use mathlib.Core.Logic.{⊎_elim}
use mathlib.Core.Bool.{true}
use borrow.Author.Tests.{le-leb, lt-leb}
use Rattle.word.proofs.Overwrite.{lt_or_ge}
use Rattle.layout.specs.Sizes.{mst_blocks, xrf_blocks, mst_most, xrf_most, mfn_most, record_most, fields_most, tag_most, offset_most, address_limit, blocks_within, address_of, block_at, offset_at, end_moved, record_length, tag_permitted}
use Rattle.layout.specs.Entry.{well_placed}
use Rattle.word.proofs.Tests.{tests}

-- ---- limits

-- each limit as document 01 gives it: by blocks of 512 bytes, 127 MFNs a block, a leader of 18 bytes and entries of 6, and 32 bits for a block
pub limits_are : (mst_most ≡ 512 * mst_blocks) × (xrf_most ≡ 512 * xrf_blocks) × (mfn_most ≡ 127 * xrf_blocks) × (18 + 6 * fields_most ≡ record_most)
    × (address_limit ≡ 512 * (2 ^ 32 - 1))
limits_are = (refl, refl, refl, refl, refl)

-- ---- lengths of the two files

-- of n bytes: mst_permitted n is blocks_within mst_blocks n, xrf_permitted n is blocks_within xrf_blocks n
pub record BlocksFacts (most n : ℕ) : Type 0 where
  pub whole : n % 512 ≡ 0
  pub low : 512 ≤ n
  pub high : n ≤ 512 * most

module _ (most n : ℕ) where
  pub blocks_facts : blocks_within most n ≡ true → BlocksFacts most n
  unfolding blocks_within
  blocks_facts e = let q = simp tests at e in record { whole = q.0.0; low = q.0.1; high = q.1 }

-- ---- records and tags

-- an MFRL that is permitted
pub record RecordLengthFacts (n : ℕ) : Type 0 where
  pub even : n % 2 ≡ 0
  pub low : 18 ≤ n
  pub high : n ≤ record_most

module _ (n : ℕ) where
  pub record_length_facts : record_length n ≡ true → RecordLengthFacts n
  unfolding record_length
  record_length_facts e = let q = simp tests at e in record { even = q.0.0; low = q.0.1; high = q.1 }

  pub record_length_from : n % 2 ≡ 0 → 18 ≤ n → n ≤ record_most → record_length n ≡ true
  unfolding record_length
  record_length_from a b c = simp tests ((a, b), c)

-- a tag that is permitted
pub record TagFacts (t : ℕ) : Type 0 where
  pub low : 1 ≤ t
  pub high : t ≤ tag_most

module _ (t : ℕ) where
  pub tag_facts : tag_permitted t ≡ true → TagFacts t
  unfolding tag_permitted
  tag_facts e = let q = simp tests at e in record { low = q.0; high = q.1 }

-- ---- addresses

pub address_of_at : (a : ℕ) → address_of (block_at a) (offset_at a) ≡ a
address_of_at a = omega arith

-- ---- places

-- block b and offset p are a place with room for a leader before the end
pub record WellPlacedFacts (end b p : ℕ) : Type 0 where
  pub block : 1 ≤ b
  pub even : p % 2 ≡ 0
  pub offset : p ≤ offset_most
  pub above : 64 ≤ address_of b p
  pub room : address_of b p + 18 ≤ end

pub well_placed_facts : (end b p : ℕ) → well_placed end b p ≡ true → WellPlacedFacts end b p
unfolding well_placed
well_placed_facts end b p e =
    let q = simp tests at e in
    record { block = q.0.0.0.0; even = q.0.0.0.1; offset = q.0.0.1; above = q.0.1; room = q.1 }

pub well_placed_from : (end b p : ℕ) → 1 ≤ b → p % 2 ≡ 0 → p ≤ offset_most → 64 ≤ address_of b p → address_of b p + 18 ≤ end → well_placed end b p ≡ true
unfolding well_placed
well_placed_from end b p h i j k l = simp tests ((((h, i), j), k), l)

module _ (end b p : ℕ) (e : well_placed end b p ≡ true) where
  -- a later end leaves a place well-formed
  pub well_placed_later : (later : ℕ) → end ≤ later → well_placed later b p ≡ true
  well_placed_later later h =
      let f = well_placed_facts end b p e in
      well_placed_from later b p f.block f.even f.offset f.above (omega arith)

  -- what an entry can hold, where the end lies in an MST
  pub encodable : end ≤ mst_most → (1 ≤ b) × (b ≤ mst_blocks) × (p ≤ offset_most)
  encodable h = let f = well_placed_facts end b p e in (f.block, omega arith, f.offset)

-- of an address
pub well_placed_at : (end a : ℕ) → a % 2 ≡ 0 → a % 512 ≤ offset_most → 64 ≤ a → a + 18 ≤ end → well_placed end (block_at a) (offset_at a) ≡ true
well_placed_at end a h i j k = well_placed_from end (block_at a) (offset_at a) (omega arith) (omega arith) i (omega arith) (omega arith)

-- ---- the end

module _ (a : ℕ) where
  pub end_stays : a % 512 < 500 → end_moved a ≡ a
  unfolding end_moved
  end_stays h = rw (lt-leb 500 (a % 512) h)

  pub end_moves : 500 ≤ a % 512 → end_moved a ≡ (a / 512 + 1) * 512
  unfolding end_moved
  end_moves h = rw (le-leb 500 (a % 512) h)

-- the end after a record that stops at a: there, or up to twelve bytes further, at the next block
pub record EndMovedFacts (a end : ℕ) : Type 0 where
  pub low : a ≤ end
  pub near : end ≤ a + 12
  pub even : a % 2 ≡ 0 → end % 2 ≡ 0
  pub offset : a % 2 ≡ 0 → end % 512 ≤ offset_most

module _ (a : ℕ) where
  pub end_moved_facts : EndMovedFacts a (end_moved a)
  end_moved_facts = ⊎_elim stays moves (lt_or_ge (a % 512) 500)
    where
      stays : a % 512 < 500 → EndMovedFacts a (end_moved a)
      stays h =
          rw (end_stays a h) (record { low = omega arith; near = omega arith; even = λ e. e; offset = λ e. omega arith })

      moves : 500 ≤ a % 512 → EndMovedFacts a (end_moved a)
      moves h =
          rw (end_moves a h) (record { low = omega arith; near = omega arith; even = λ e. omega arith; offset = λ e. omega arith })

  -- in a file of whole blocks
  pub end_moved_in : (n : ℕ) → n % 512 ≡ 0 → a ≤ n → end_moved a ≤ n
  end_moved_in n w h = ⊎_elim (λ s. rw (end_stays a s) h) (λ m. rw (end_moves a m) (omega arith)) (lt_or_ge (a % 512) 500)
