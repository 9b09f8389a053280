-- The leader of a record, eighteen bytes. Document 01, "Records".
--
--   byte   field    meaning
--   0      MFN*     the record's MFN
--   4      MFRL     the record's length
--   6      MFBWB*   block of the back pointer
--   10     MFBWP    offset of the back pointer
--   12     BASE     where the data begins
--   14     NVF      number of fields
--   16     STATUS   1 if deleted, otherwise 0
use Rattle.std.specs.Prelude.{ℕ, List, ◌++◌}
use Rattle.word.specs.Integer.{u16_at, u32_at, le}
use Rattle.layout.specs.declared.leader.Leader.{Leader}

-- the eighteen bytes of a leader
unfoldable pub leader_bytes : Leader → List ℕ
leader_bytes l =
    le 4 l.mfn.0 ++ le 2 l.mfrl ++ le 4 l.mfbwb.0 ++ le 2 l.mfbwp ++ le 2 l.base ++ le 2 l.nvf ++ le 2 l.status

-- the leader that the first eighteen bytes hold
unfoldable pub leader_of : List ℕ → Leader
leader_of s =
    record {
      mfn = record { 0 = u32_at s 0 };
      mfrl = u16_at s 4;
      mfbwb = record { 0 = u32_at s 6 };
      mfbwp = u16_at s 10;
      base = u16_at s 12;
      nvf = u16_at s 14;
      status = u16_at s 16;
    }
