-- What of a record's bytes a block has as they stand in the tables: all but counts and the mark of delete on close, which are
-- last and zero in an image.
use Rattle.std.specs.Prelude.{◌++◌}
use Rattle.base.specs.Base.{ℕ, List}
use Rattle.image.specs.{Blocks.{block, record_of, place_of, preface}, declared.BlockRecord.{BlockRecord, TheVariants.{Header, FileSlot, LinkSlot, StreamSlot, Past}}}
use Rattle.layout.specs.Layout.{files_at, link_size, file_mark_in, counts_in}
use Rattle.little_endian.specs.LittleEndian.{part}

unfoldable pub kept_size : BlockRecord → ℕ
kept_size Header = files_at
kept_size (FileSlot k) = file_mark_in
kept_size (LinkSlot k) = link_size
kept_size (StreamSlot k) = counts_in
kept_size Past = 0

-- a block's content: the preface, and what is kept of its record
unfoldable pub kept_content : List ℕ → BlockRecord → List ℕ
kept_content bs r = preface r ++ part bs (place_of r) (kept_size r)

-- block n written from the tables' bytes
abbrev pub kept_block : List ℕ → ℕ → List ℕ
kept_block bs n = block n (kept_content bs (record_of n))
