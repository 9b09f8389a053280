-- The theorems on a posting.
use Rattle.posting.specs.Theorems.{ReadWritten, WrittenRead, ComparesBytes}
use Rattle.posting.proofs.RoundTrip.{read_written, written_read, compare_bytes_lem}

pub read_after_write : ReadWritten
unfolding ReadWritten
read_after_write = read_written

pub write_after_read : WrittenRead
unfolding WrittenRead
write_after_read = written_read

pub compares_bytes : ComparesBytes
unfolding ComparesBytes
compares_bytes = compare_bytes_lem
