-- An index that was lent, as its bytes.
use Rattle.index.specs.Files.{Index, index}
use Rattle.index.specs.declared.files.Index.{Index as LentIndex}

abbrev pub bytes_of : LentIndex → Index
bytes_of x = index x.cnt.now x.n01.now x.l01.now x.n02.now x.l02.now
