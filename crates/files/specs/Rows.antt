-- Rows P1 to P12 of document 01, "Numbers to test on", as one table. A row holds its number, what is given and what is to come of it;
-- `calculated` puts in the place of the latter what the definitions give, so the table is right exactly if `calculated` leaves it as it is.
use Rattle.std.specs.Prelude.{ℕ, ◌+◌, true, false, List, [], ◌∷◌, ℤ, pos, neg_ℤ}
use Rattle.word.specs.Integer.{u32_at, le}
use Rattle.word.specs.Signed.{signed_of, bits_of}
use Rattle.layout.specs.Sizes.{end_moved, block_at, offset_at}
use Rattle.layout.specs.Entry.{entry_of, placed}
use Rattle.files.specs.CrossReference.{slot_at}
use Rattle.layout.specs.declared.entry.Mark.TheVariants.{Settled, Changed, New}
use Rattle.layout.specs.declared.entry.Entry.{Entry}
use Rattle.layout.specs.declared.entry.Entry.TheVariants.{Gone, Malformed, At}

pub data Row : Type 0 where
  -- an entry, its four bytes, and which kind they are read as in a store whose end leaves room for it
  entry : ℕ → ℤ → List ℕ → Entry → Row
  -- the length of a record at 64, and the block and the offset of the end after it
  ending : ℕ → ℕ → ℕ → ℕ → Row
  -- an MFN, and where its entry begins
  slot : ℕ → ℕ → ℕ → Row

-- an entry is written as its bytes, and read from the row's
unfoldable pub calculated : Row → Row
calculated (entry r e bs k) = entry r e (le 4 (bits_of e)) (entry_of 1024 (signed_of (u32_at bs 0)))
calculated (ending r n b p) = ending r n (block_at (end_moved (64 + n))) (offset_at (end_moved (64 + n)))
calculated (slot r m a) = slot r m (slot_at m)

-- -n, of a positive number
abbrev minus : ℕ → ℤ
minus n = neg_ℤ (pos n)

abbrev four : ℕ → ℕ → ℕ → ℕ → List ℕ
four a b c d = a ∷ b ∷ c ∷ d ∷ []

unfoldable pub rows : List Row
rows =
    entry 1 (pos 3136) (four 0x40 0x0C 0x00 0x00) (At (placed 1 64 false New))
    ∷ entry 2 (pos 2112) (four 0x40 0x08 0x00 0x00) (At (placed 1 64 false Settled))
    ∷ entry 3 (minus 1472) (four 0x40 0xFA 0xFF 0xFF) (At (placed 1 64 true Changed))
    ∷ entry 4 (minus 960) (four 0x40 0xFC 0xFF 0xFF) (At (placed 1 64 true New))
    ∷ entry 5 (minus 1984) (four 0x40 0xF8 0xFF 0xFF) (At (placed 1 64 true Settled))
    ∷ entry 6 (minus 2048) (four 0x00 0xF8 0xFF 0xFF) Gone
    ∷ entry 7 (pos 2560) (four 0x00 0x0A 0x00 0x00) Malformed
    ∷ entry 8 (pos 4608) (four 0x00 0x12 0x00 0x00) (At (placed 2 0 false Changed))
    ∷ ending 9 434 1 498
    ∷ ending 10 436 2 0
    ∷ slot 11 127 508
    ∷ slot 12 128 516
    ∷ []
