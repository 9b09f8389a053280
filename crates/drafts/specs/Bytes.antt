-- The bytes of a record of given fields. Document 01, "Records" and "What the calls do".
use Rattle.std.specs.Prelude.{ℕ, ◌+◌, ◌-◌, ◌*◌, Bool, List, [], ◌∷◌, ◌++◌, length, replicate}
use Rattle.word.specs.Integer.{le}
use Rattle.layout.specs.Leader.{leader_bytes}
use Rattle.layout.specs.declared.leader.Leader.{Leader}
use Rattle.record.specs.Fields.{Field, data_of}
use Rattle.drafts.specs.Draft.{need_of}
use Rattle.record.specs.Record.{status_for}

-- a directory entry: TAG, POS, LEN
abbrev pub entry_bytes : ℕ → ℕ → ℕ → List ℕ
entry_bytes tag pos len = le 2 tag ++ le 2 pos ++ le 2 len

-- the directory of fields whose data begins at pos
unfoldable pub directory_bytes : ℕ → List Field → List ℕ
directory_bytes pos [] = []
directory_bytes pos (f ∷ fs) = entry_bytes f.tag pos (length f.bytes) ++ directory_bytes (pos + length f.bytes) fs

-- the bytes up to the end of the data
abbrev pub used_by : List Field → ℕ
used_by fs = 18 + 6 * length fs + length (data_of fs)

-- the need of fields
abbrev pub need_for : List Field → ℕ
need_for fs = need_of (length fs) (length (data_of fs))

-- leader, directory, data, and zero up to MFRL
unfoldable pub record_bytes : Leader → List Field → List ℕ
record_bytes l fs = leader_bytes l ++ directory_bytes 0 fs ++ data_of fs ++ replicate (l.mfrl - used_by fs) 0

-- the leader of a record of n fields: MFN, MFRL, back pointer, deleted or not
abbrev pub leader_for : ℕ → ℕ → ℕ → ℕ → Bool → ℕ → Leader
leader_for m mfrl b p deleted n =
    record {
      mfn = record { 0 = m };
      mfrl = mfrl;
      mfbwb = record { 0 = b };
      mfbwp = p;
      base = 18 + 6 * n;
      nvf = n;
      status = status_for deleted;
    }
