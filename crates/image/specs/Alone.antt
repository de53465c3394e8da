-- What a block shows by itself: whether some image of consistent tables has it at its place. What needs two blocks to be
-- seen waits for the closing call.
use Rattle.std.specs.Prelude.{◌&&◌, ◌||◌, ◌++◌}
use Rattle.base.specs.Base.{ℕ, Bool, false, not, cond, List, eqb, ltb, take, drop, same, is_empty, file_slots, zero_counts, is_directory, file_used, link_used, BareStream, bare_used, bare, Data, Directory, File, Link, Stream}
use Rattle.consistency.specs.{Slots.slot_test, Good.{good_file, is_zero_file, good_link, is_zero_link, good_stream, is_zero_stream}, Test.same_counts}
use Rattle.layout.specs.Records.{mark_codec, handle_codec, file_codec, link_codec, stream_codec}
use Rattle.little_endian.specs.LittleEndian.{part}
use Rattle.stored_names.specs.StoredNames.{units}
use Rattle.image.specs.Blocks.{block, record_of, size_of, preface, record_at}
use Rattle.image.specs.declared.{BlockRecord.{BlockRecord, TheVariants.{Header, FileSlot, LinkSlot, StreamSlot, Past}}}

-- the bytes of the record in a block
unfoldable pub record_in : BlockRecord → List ℕ → List ℕ
record_in r b = part b (record_at r) (size_of r)

-- number, check, edition, slot counts and zeros are right: the block is the one that its record has at that number
unfoldable pub well_formed : ℕ → List ℕ → Bool
well_formed n b = let r = record_of n in same b (block n (preface r ++ record_in r b))

-- a mark that there is, and a next handle of at least 1
unfoldable pub header_alone : List ℕ → Bool
header_alone bs = mark_codec.stands (take mark_codec.size bs) && not (eqb (handle_codec.decode (drop mark_codec.size bs)).0 0)

-- a slot by itself, without a mark; file 0 is a directory
unfoldable pub file_alone : ℕ → File → Bool
file_alone k f =
    slot_test file_used good_file is_zero_file f
    && not f.delete_pending
    && (not (eqb k 0) || is_directory f.file_type)

-- a used link, given that its file is used and its parent a directory: both are files that there are, and neither is the
-- file the root nor is it its own parent
unfoldable pub link_placed : Link → Bool
link_placed l =
    ltb l.file.0 file_slots
    && ltb l.parent.0 file_slots
    && not (eqb l.file.0 0)
    && not (eqb l.file.0 l.parent.0)

unfoldable pub link_alone : Link → Bool
link_alone l = slot_test link_used (good_link Data Directory) is_zero_link l && (not (link_used l) || link_placed l)

-- a used stream, given that its file has its type: a file that there is; a directory's has no name, and the root's is a
-- directory's
unfoldable pub stream_placed : BareStream → Bool
stream_placed s =
    ltb s.file.0 file_slots && cond (is_directory s.stream_type) (is_empty (units s.name)) (not (eqb s.file.0 0))

-- without counts and without a mark
unfoldable pub stream_alone : Stream → Bool
stream_alone s =
    slot_test bare_used (good_stream s.stream_type) is_zero_stream (bare s)
    && (not (bare_used (bare s)) || stream_placed (bare s))
    && same_counts s.counts zero_counts
    && not s.delete_pending

-- the bytes of a record by itself
unfoldable pub record_alone : BlockRecord → List ℕ → Bool
record_alone Header bs = header_alone bs
record_alone (FileSlot k) bs = file_codec.stands bs && file_alone k (file_codec.decode bs)
record_alone (LinkSlot k) bs = link_alone (link_codec.decode bs)
record_alone (StreamSlot k) bs = stream_codec.stands bs && stream_alone (stream_codec.decode bs)
record_alone Past bs = false

-- a block that an image of consistent tables can have at number n
unfoldable pub block_alone : ℕ → List ℕ → Bool
block_alone n b = well_formed n b && record_alone (record_of n) (record_in (record_of n) b)
