-- Free and used slots.
use Rattle.std.specs.Prelude.{ℕ}
use lib.{Dec.eqb, ListN.{get_or, replicate}}
use Rattle.std.specs.Prelude.{Bool, true, false, not}
use Rattle.records.specs.{Sizes.{accounts, file_name_limit, stream_name_limit}, declared.{FileNo.FileNo, FileType.{FileType, TheVariants.{Unused, Data, Directory}}, File.File, Link.Link, ShareCounts.ShareCounts, Stream.Stream, Open.Open}}

-- the root
abbrev pub root : FileNo
root = record { 0 = 0 }

-- free slots, "all zero"
abbrev pub zero_file : File
zero_file =
    record { file_type = Unused; attributes = 0; masks = replicate accounts 0; delete_pending = false }

abbrev pub zero_link : Link
zero_link = record { parent = root; name = replicate file_name_limit 0; file = root }

abbrev pub zero_counts : ShareCounts
zero_counts =
    record {
      opens = 0;
      readers = 0;
      writers = 0;
      deleters = 0;
      shared_read = 0;
      shared_write = 0;
      shared_delete = 0;
    }

abbrev pub zero_stream : Stream
zero_stream =
    record {
      file = root;
      stream_type = Unused;
      name = replicate stream_name_limit 0;
      counts = zero_counts;
      delete_pending = false;
    }

abbrev pub zero_open : Open
zero_open =
    record {
      handle = record { 0 = 0 };
      file = root;
      stream = record { 0 = 0 };
      granted = 0;
      share = 0;
      delete_on_close = false;
    }

-- used slots: those with a kind, a link name or a handle
unfoldable pub is_used : FileType → Bool
is_used Unused = false
is_used Data = true
is_used Directory = true

unfoldable pub is_directory : FileType → Bool
is_directory Unused = false
is_directory Data = false
is_directory Directory = true

unfoldable pub is_data : FileType → Bool
is_data Unused = false
is_data Data = true
is_data Directory = false

unfoldable pub file_used : File → Bool
file_used f = is_used f.file_type

unfoldable pub link_used : Link → Bool
link_used l = not (eqb (get_or l.name 0 0) 0)

unfoldable pub stream_used : Stream → Bool
stream_used s = is_used s.stream_type

unfoldable pub open_used : Open → Bool
open_used o = not (eqb o.handle.0 0)

-- the account's access mask on a file
unfoldable pub mask_of : File → ℕ → ℕ
mask_of f account = get_or f.masks account 0
