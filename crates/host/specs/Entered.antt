-- Inner: what two calls share: a book, written.
use Rattle.file_write.specs.Write.{WrittenBytes}
use Rattle.host.specs.Calls.{WrittenFile, written_file, packed_size}

-- a book, written: the answer, and file memory after it
abbrev pub written_book : WrittenBytes → WrittenFile
written_book w = written_file (packed_size w.answer) w.memory
