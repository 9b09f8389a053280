-- Which bytes the integers take that a call may change: NXTMFN, the end and RECCNT in the control record, the back pointer in a record.
-- Document 01, "Control record", "Records" and "A sound store"; request C-17.
use Rattle.std.specs.Prelude.{ℕ, ◌+◌, ◌≤◌, ◌<◌}

-- byte i is one of the n from byte a on
abbrev pub Within : ℕ → ℕ → ℕ → Type 0
Within a n i = (a ≤ i) × (i < a + n)

-- no byte
abbrev pub NoByte : ℕ → Type 0
NoByte i = ⊥

-- NXTMFN
unfoldable pub NextByte : ℕ → Type 0
NextByte i = Within 4 4 i

-- the end: NXTMFB and NXTMFP
unfoldable pub EndByte : ℕ → Type 0
EndByte i = Within 8 6 i

-- NXTMFP
unfoldable pub OffsetByte : ℕ → Type 0
OffsetByte i = Within 12 2 i

-- RECCNT
unfoldable pub CountByte : ℕ → Type 0
CountByte i = Within 16 4 i

-- the control integers that a call may change
pub data ControlByte (i : ℕ) : Type 0 where
  next_mfn : NextByte i → ControlByte i
  the_end : EndByte i → ControlByte i
  the_count : CountByte i → ControlByte i

-- the back pointer, MFBWB and MFBWP, of the record at an address
abbrev pub BackByte : ℕ → ℕ → Type 0
BackByte at i = Within (at + 6) 6 i
