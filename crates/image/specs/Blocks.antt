-- The image (request L4): a row of blocks of 512 bytes from number 0, a header and then every slot of files, links and
-- streams. Each block begins with its number and ends in a check. Between stands its record, in the bytes that it has in the
-- tables (layout), and zeros.
use Rattle.std.specs.Prelude.{◌+◌, ◌*◌, ◌-◌, ◌∷◌, ◌++◌}
use Rattle.base.specs.Base.{ℕ, zero, suc, false, cond, List, [], map, eqb, leb, ltb, length, padded, file_slots, link_slots, stream_slots, zero_counts, bare, with_counts, BareStream, File, Stream, Tables}
use Rattle.format.specs.Format.{fresh_opens}
use Rattle.little_endian.specs.LittleEndian.{to_bytes, part}
use Rattle.layout.specs.Layout.{file_size, link_size, stream_size, files_at, links_at, streams_at, tables_size, encode}
use Rattle.image.specs.declared.{BlockRecord.{BlockRecord, TheVariants.{Header, FileSlot, LinkSlot, StreamSlot, Past}}}

abbrev pub block_size : ℕ
block_size = 512

abbrev pub number_size : ℕ
number_size = 4

-- where the check stands: it is over all bytes before it
abbrev pub check_at : ℕ
check_at = 510

abbrev pub edition : ℕ
edition = 1

abbrev pub image_blocks : ℕ
image_blocks = suc (file_slots + link_slots + stream_slots)

unfoldable pub byte_sum : List ℕ → ℕ
byte_sum [] = 0
byte_sum (b ∷ bs) = b + byte_sum bs

-- the check: the sum of the first 510 bytes modulo 65,536
abbrev pub check : List ℕ → List ℕ
check front = to_bytes 2 (byte_sum front)

-- block n with this content, the bytes after its number: all other bytes are zero
unfoldable pub block : ℕ → List ℕ → List ℕ
block n content = let front = padded check_at (to_bytes number_size n ++ content) in front ++ check front

-- the record that block n holds
unfoldable pub record_of : ℕ → BlockRecord
record_of n =
    cond (eqb n 0) Header
    (cond (leb n file_slots) (FileSlot (n - 1))
    (cond (leb n (file_slots + link_slots)) (LinkSlot (n - 1 - file_slots))
    (cond (ltb n image_blocks) (StreamSlot (n - 1 - file_slots - link_slots)) Past)))

-- its place and size in the tables' bytes: the header has the read-only mark and the next handle, which stand before the
-- files
unfoldable pub place_of : BlockRecord → ℕ
place_of Header = 0
place_of (FileSlot k) = files_at + file_size * k
place_of (LinkSlot k) = links_at + link_size * k
place_of (StreamSlot k) = streams_at + stream_size * k
place_of Past = tables_size

unfoldable pub size_of : BlockRecord → ℕ
size_of Header = files_at
size_of (FileSlot k) = file_size
size_of (LinkSlot k) = link_size
size_of (StreamSlot k) = stream_size
size_of Past = 0

-- what stands before the record: in the header the edition and the slot counts
unfoldable pub preface : BlockRecord → List ℕ
preface Header = to_bytes 2 edition ++ to_bytes 2 file_slots ++ to_bytes 2 link_slots ++ to_bytes 2 stream_slots
preface (FileSlot k) = []
preface (LinkSlot k) = []
preface (StreamSlot k) = []
preface Past = []

-- where the record stands in its block
unfoldable pub record_at : BlockRecord → ℕ
record_at r = number_size + length (preface r)

-- block n of the tables' bytes
unfoldable pub block_of : List ℕ → ℕ → List ℕ
block_of bs n = let r = record_of n in block n (preface r ++ part bs (place_of r) (size_of r))

-- k blocks from block n on
unfoldable pub blocks_of : List ℕ → ℕ → ℕ → List ℕ
blocks_of bs n zero = []
blocks_of bs n (suc k) = block_of bs n ++ blocks_of bs (suc n) k

-- opens and the marks of delete on close are not saved, and counts are written as zero
unfoldable pub unmarked_file : File → File
unmarked_file f =
    record { file_type = f.file_type; attributes = f.attributes; masks = f.masks; delete_pending = false }

unfoldable pub unmarked_bare : BareStream → BareStream
unmarked_bare s = record { file = s.file; stream_type = s.stream_type; name = s.name; delete_pending = false }

unfoldable pub unopened_stream : Stream → Stream
unopened_stream s = with_counts (unmarked_bare (bare s)) zero_counts

-- the tables as an image keeps them
unfoldable pub without_opens : Tables → Tables
without_opens t =
    record {
      volume =
          record {
            read_only = t.volume.read_only;
            next_handle = t.volume.next_handle;
            files = map unmarked_file t.volume.files;
            links = t.volume.links;
            streams = map unopened_stream t.volume.streams;
          };
      opens = fresh_opens;
    }

-- so many blocks of the image of tables, from block n on; and all of it
unfoldable pub image_part : Tables → ℕ → ℕ → List ℕ
image_part t n k = blocks_of (encode (without_opens t)) n k

abbrev pub image : Tables → List ℕ
image t = image_part t 0 image_blocks
