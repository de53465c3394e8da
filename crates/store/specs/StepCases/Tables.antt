-- The object store on its tables: consistency first, format, and calls in a row, with every table afterwards.
use Rattle.std.specs.Prelude.{◌-◌, ◌≡◌, ◌∷◌, ◌++◌}
use Rattle.base.specs.Base.{ℕ, Bool, true, false, cond, List, [], map, replicate, file_used, link_used, stream_used, open_used, zero_counts, BareStream, bare_used, bare, Unused, Data, Directory, File, Link, Stream, Open, Tables, Step}
use Rattle.format.specs.Format.{format}
use Rattle.store.specs.{Store.store_view, Calls.{Call, sets_read_only, store_step}, Evaluate.{computes, store_run}, Cases.seven_counts, StepCases.{Form.{text, ask, asks, attributed, folding, close, rows, file_row, link_row, stream_row, entry_row, reply_row, refused_row, accepted_row, done_row, observed, failing, Made, made, pending, files_made, links_made, stream, stream_as, pending_stream, of_directory, entry, deleting, makes_directory, deletes, makes_directory_deleting}, Statuses.{FILE_CORRUPT_ERROR, INVALID_PARAMETER, OBJECT_NAME_INVALID, MEDIA_WRITE_PROTECTED, SHARING_VIOLATION, INVALID_HANDLE, CANNOT_DELETE, DELETE_PENDING, FILE_SUPERSEDED, FILE_OPENED, FILE_CREATED}}}

-- the tables as rows of numbers: every slot, or the used ones with their numbers
unfoldable pub counted_row : Stream → List ℕ
counted_row s = stream_row (bare s) ++ seven_counts s

unfoldable pub every_row : Tables → List (List ℕ)
every_row t =
    (cond t.volume.read_only 1 0 ∷ t.volume.next_handle.0 ∷ [])
    ∷ map file_row t.volume.files
    ++ map link_row t.volume.links
    ++ map counted_row t.volume.streams
    ++ map entry_row t.opens.rows

unfoldable pub used_rows : Tables → List (List ℕ)
used_rows t =
    (cond t.volume.read_only 1 0 ∷ t.volume.next_handle.0 ∷ [])
    ∷ rows file_used file_row 0 t.volume.files
    ++ rows link_used link_row 0 t.volume.links
    ++ rows stream_used counted_row 0 t.volume.streams
    ++ rows open_used entry_row 0 t.opens.rows

-- free slots: how many files with how many masks, links and streams with names of how many units, opens; the last record
-- of each table but the opens has a length of its own
pub record Lengths : Type 0 where
  pub files : ℕ
  pub masks : ℕ
  pub links : ℕ
  pub link_name : ℕ
  pub streams : ℕ
  pub stream_name : ℕ
  pub opens : ℕ

abbrev pub lengths : ℕ → ℕ → ℕ → ℕ → ℕ → ℕ → ℕ → Lengths
lengths files masks links link_name streams stream_name opens =
    record {
      files = files;
      masks = masks;
      links = links;
      link_name = link_name;
      streams = streams;
      stream_name = stream_name;
      opens = opens;
    }

abbrev pub zero_file_of : ℕ → File
zero_file_of masks = record { file_type = Unused; attributes = 0; masks = replicate masks 0; delete_pending = false }

abbrev pub zero_link_of : ℕ → Link
zero_link_of name = record { parent = record { 0 = 0 }; name = replicate name 0; file = record { 0 = 0 } }

abbrev pub zero_stream_of : ℕ → Stream
zero_stream_of name =
    record {
      file = record { 0 = 0 };
      stream_type = Unused;
      name = replicate name 0;
      counts = zero_counts;
      delete_pending = false;
    }

unfoldable pub unused : Lengths → Tables
unused n =
    record {
      volume =
          record {
            read_only = false;
            next_handle = record { 0 = 5 };
            files = replicate n.files (zero_file_of 8) ++ zero_file_of n.masks ∷ [];
            links = replicate n.links (zero_link_of 32) ++ zero_link_of n.link_name ∷ [];
            streams = replicate n.streams (zero_stream_of 32) ++ zero_stream_of n.stream_name ∷ [];
          };
      opens = record { rows = replicate n.opens (entry 0 0 0 0 0) };
    }

-- what format leaves
unfoldable pub formatted : List ℕ → Bool → Tables
formatted masks read_only =
    record {
      volume =
          record {
            read_only = read_only;
            next_handle = record { 0 = 1 };
            files =
                record { file_type = Directory; attributes = 0x10; masks = masks; delete_pending = false }
                ∷ replicate 127 (zero_file_of 8);
            links = replicate 192 (zero_link_of 32);
            streams =
                record {
                  file = record { 0 = 0 };
                  stream_type = Directory;
                  name = replicate 32 0;
                  counts = zero_counts;
                  delete_pending = false;
                }
                ∷ replicate 255 (zero_stream_of 32);
          };
      opens = record { rows = replicate 256 (entry 0 0 0 0 0) };
    }

pub data TableCase : Type 0 where
  -- a call on these free slots is refused with FILE_CORRUPT_ERROR, and they stay
  corrupt : Lengths → Call → TableCase
  -- format of them with masks and a mark is refused with the status, and they stay; or it is done
  format_refused : Lengths → List ℕ → Bool → ℕ → TableCase
  format_done : Lengths → List ℕ → Bool → TableCase
  -- calls on a fresh volume with the replies, and then: the mark, the next handle, the files made, the streams from the
  -- root's on, each with its seven share counts, and the used slots of the opens, each with its number
  runs : List Call → List (List ℕ) → Bool → ℕ → List Made → List (BareStream × List ℕ) → List (ℕ × Open) → TableCase
  -- whether the opens have room, with so many of 256 slots used
  room : ℕ → Bool → TableCase

unfoldable pub tables_after : Step Tables → List (List ℕ)
tables_after now = reply_row now.reply ∷ every_row now.state

unfoldable pub observed_tables : TableCase → List (List ℕ)
unfolding computes store_run observed counted_row every_row used_rows unused formatted tables_after seven_counts
observed_tables (corrupt n c) = tables_after (store_step (unused n) c)
observed_tables (format_refused n masks mark status) =
    tables_after (format (unused n) masks mark)
observed_tables (format_done n masks mark) =
    tables_after (format (unused n) masks mark)
observed_tables (runs calls replies mark next ms streams os) =
    let end = store_run (replicate 8 0x1F01FF) false calls in
    map reply_row end.replies ++ used_rows end.state
observed_tables (room n free) =
    let t : Tables = formatted (replicate 8 0) false in
    (cond
    (store_view
    (record {
      volume = t.volume;
      opens = record { rows = replicate n (entry 1 0 0 1 0) ++ replicate (256 - n) (entry 0 0 0 0 0) };
    })
    ).room
    1
    0
    ∷ [])
    ∷ []

unfoldable pub expected_tables : TableCase → List (List ℕ)
unfolding observed_tables
expected_tables (corrupt n c) = refused_row FILE_CORRUPT_ERROR ∷ every_row (unused n)
expected_tables (format_refused n masks mark status) = refused_row status ∷ every_row (unused n)
expected_tables (format_done n masks mark) = done_row ∷ every_row (formatted masks mark)
expected_tables (runs calls replies mark next ms streams os) =
    let root : File = record { file_type = Directory; attributes = 0x10; masks = replicate 8 0x1F01FF; delete_pending = false } in
    replies
    ++ (cond mark 1 0 ∷ next ∷ [])
    ∷ rows file_used file_row 0 (root ∷ files_made (replicate 8 0x1F01FF) ms)
    ++ rows link_used link_row 0 (links_made 1 ms)
    ++ rows (λ s. bare_used s.0) (λ s. stream_row s.0 ++ s.1) 0 streams
    ++ map (λ o. o.0 ∷ entry_row o.1) os
expected_tables (room n free) = (cond free 1 0 ∷ []) ∷ []

abbrev pub TablesHold : List TableCase → Type 0
TablesHold cases = failing observed_tables expected_tables 0 cases ≡ []

-- tables that are not consistent: open, close and set_read_only refuse, whatever else they would say
abbrev pub corrupt_cases : List TableCase
corrupt_cases =
    corrupt nothing (ask 1 7 1 0 "")
    ∷ corrupt nothing (ask 0 8 9 0 ":")
    ∷ corrupt nothing (close 1)
    ∷ corrupt nothing (sets_read_only true)
    ∷ []
  where
    nothing : Lengths
    nothing = lengths 0 8 0 32 0 32 0

-- format: lengths, of tables and of the arrays in their records, before the masks; nothing else of the tables matters
abbrev pub format_cases : List TableCase
format_cases =
    format_done (lengths 127 8 191 32 255 32 256) masks false
    ∷ format_done (lengths 127 8 191 32 255 32 256) masks true
    ∷ format_refused (lengths 127 8 191 32 255 32 256) bad false INVALID_PARAMETER
    ∷ format_refused (lengths 127 8 191 32 255 32 256) (replicate 7 0) false INVALID_PARAMETER
    ∷ format_refused (lengths 127 8 191 32 255 32 256) (replicate 9 0) false INVALID_PARAMETER
    ∷ format_refused (lengths 126 8 191 32 255 32 256) bad false FILE_CORRUPT_ERROR
    ∷ format_refused (lengths 126 8 191 32 255 32 256) masks false FILE_CORRUPT_ERROR
    ∷ format_refused (lengths 128 8 191 32 255 32 256) masks false FILE_CORRUPT_ERROR
    ∷ format_refused (lengths 127 7 191 32 255 32 256) masks false FILE_CORRUPT_ERROR
    ∷ format_refused (lengths 127 9 191 32 255 32 256) masks false FILE_CORRUPT_ERROR
    ∷ format_refused (lengths 127 8 190 32 255 32 256) masks false FILE_CORRUPT_ERROR
    ∷ format_refused (lengths 127 8 192 32 255 32 256) masks false FILE_CORRUPT_ERROR
    ∷ format_refused (lengths 127 8 191 31 255 32 256) masks false FILE_CORRUPT_ERROR
    ∷ format_refused (lengths 127 8 191 33 255 32 256) masks false FILE_CORRUPT_ERROR
    ∷ format_refused (lengths 127 8 191 32 254 32 256) masks false FILE_CORRUPT_ERROR
    ∷ format_refused (lengths 127 8 191 32 256 32 256) masks false FILE_CORRUPT_ERROR
    ∷ format_refused (lengths 127 8 191 32 255 31 256) masks false FILE_CORRUPT_ERROR
    ∷ format_refused (lengths 127 8 191 32 255 33 256) masks false FILE_CORRUPT_ERROR
    ∷ format_refused (lengths 127 8 191 32 255 32 255) masks false FILE_CORRUPT_ERROR
    ∷ format_refused (lengths 127 8 191 32 255 32 257) masks false FILE_CORRUPT_ERROR
    ∷ []
  where
    masks : List ℕ
    masks = 0x1F01FF ∷ 0 ∷ 0x2 ∷ 0x4 ∷ 0x8 ∷ 0x10 ∷ 0x20 ∷ 0x40 ∷ []

    bad : List ℕ
    bad = replicate 7 0 ++ 0x200 ∷ []

abbrev pub run_cases : List TableCase
run_cases =
    -- each kind held and shared, an uncounted open, a close between, the freed slot taken again
    runs
    (ask 1 7 2 0 "a"
    ∷ ask 2 5 1 0 "a"
    ∷ ask 0x10000 7 1 0 "a"
    ∷ ask 0x80 0 1 0 "a"
    ∷ ask 0x20 3 1 0 "a"
    ∷ ask 4 7 1 0 "a"
    ∷ close 2
    ∷ ask 4 7 1 0 "a"
    ∷ ask 0x02000000 0 1 0 ""
    ∷ close 9
    ∷ close 0
    ∷ [])
    (accepted_row FILE_CREATED 1 1
    ∷ accepted_row FILE_OPENED 2 2
    ∷ accepted_row FILE_OPENED 3 0x10000
    ∷ accepted_row FILE_OPENED 4 0x80
    ∷ refused_row SHARING_VIOLATION
    ∷ refused_row SHARING_VIOLATION
    ∷ done_row
    ∷ accepted_row FILE_OPENED 5 4
    ∷ accepted_row FILE_OPENED 6 0x1F01FF
    ∷ refused_row INVALID_HANDLE
    ∷ refused_row INVALID_HANDLE
    ∷ [])
    false
    7
    (made 0 "a" 0x20 ∷ [])
    ((of_directory 0, 1 ∷ 1 ∷ 1 ∷ 1 ∷ 0 ∷ 0 ∷ 0 ∷ []) ∷ (stream 1 "", 3 ∷ 1 ∷ 1 ∷ 1 ∷ 3 ∷ 3 ∷ 3 ∷ []) ∷ [])
    ((0, entry 1 1 1 1 7)
    ∷ (1, entry 5 1 1 4 7)
    ∷ (2, entry 3 1 1 0x10000 7)
    ∷ (3, entry 4 1 1 0x80 0)
    ∷ (4, entry 6 0 0 0x1F01FF 0)
    ∷ [])
    -- streams and attributes, the mark set and cleared, closes of counted and uncounted opens, a file in a directory
    ∷ runs
    (attributed 2 (ask 0x80 7 2 0 "a:s")
    ∷ attributed 2 (ask 1 7 0 0 "a")
    ∷ ask 1 7 3 0 "a:t"
    ∷ sets_read_only true
    ∷ ask 1 7 2 0 "b"
    ∷ folding (ask 0x80 0 1 0 "a:S")
    ∷ close 1
    ∷ close 3
    ∷ close 3
    ∷ sets_read_only false
    ∷ makes_directory "d"
    ∷ ask 1 1 2 0 "d\\b"
    ∷ [])
    (accepted_row FILE_CREATED 1 0x80
    ∷ accepted_row FILE_SUPERSEDED 2 0x10111
    ∷ accepted_row FILE_CREATED 3 3
    ∷ done_row
    ∷ refused_row MEDIA_WRITE_PROTECTED
    ∷ accepted_row FILE_OPENED 4 0x80
    ∷ done_row
    ∷ done_row
    ∷ refused_row INVALID_HANDLE
    ∷ done_row
    ∷ accepted_row FILE_CREATED 5 0x80
    ∷ accepted_row FILE_CREATED 6 1
    ∷ [])
    false
    7
    (made 0 "a" 0x22 ∷ made 0 "d" 0x10 ∷ made 2 "b" 0x20 ∷ [])
    ((of_directory 0, replicate 7 0)
    ∷ (stream 1 "", 1 ∷ 1 ∷ 0 ∷ 1 ∷ 1 ∷ 1 ∷ 1 ∷ [])
    ∷ (stream 1 "s", replicate 7 0)
    ∷ (stream 1 "t", replicate 7 0)
    ∷ (of_directory 2, replicate 7 0)
    ∷ (stream 3 "", 1 ∷ 1 ∷ 0 ∷ 0 ∷ 1 ∷ 0 ∷ 0 ∷ [])
    ∷ [])
    ((0, entry 5 2 4 0x80 7) ∷ (1, entry 2 1 1 0x10111 7) ∷ (2, entry 6 3 5 1 1) ∷ (3, entry 4 1 2 0x80 0) ∷ [])
    -- a marked file and a directory that is not marked for its child; removal on a read-only volume; the slots taken again
    ∷ runs
    (ask 0x80 7 2 0 "a:s"
    ∷ deletes "a"
    ∷ ask 1 7 1 0 "a:s"
    ∷ close 2
    ∷ ask 1 7 1 0 "a"
    ∷ ask 1 7 2 0 "a\\b"
    ∷ makes_directory_deleting "d"
    ∷ ask 1 7 2 0 "d\\b"
    ∷ sets_read_only true
    ∷ close 4
    ∷ close 3
    ∷ close 1
    ∷ close 1
    ∷ sets_read_only false
    ∷ ask 2 7 2 0x1000 "e"
    ∷ ask 0x10002 5 2 0x1000 "e:t"
    ∷ deletes ""
    ∷ [])
    (accepted_row FILE_CREATED 1 0x80
    ∷ accepted_row FILE_OPENED 2 0x10000
    ∷ accepted_row FILE_OPENED 3 1
    ∷ done_row
    ∷ refused_row DELETE_PENDING
    ∷ refused_row DELETE_PENDING
    ∷ accepted_row FILE_CREATED 4 0x10000
    ∷ accepted_row FILE_CREATED 5 1
    ∷ done_row
    ∷ done_row
    ∷ done_row
    ∷ done_row
    ∷ refused_row INVALID_HANDLE
    ∷ done_row
    ∷ refused_row INVALID_PARAMETER
    ∷ accepted_row FILE_CREATED 6 0x10002
    ∷ refused_row CANNOT_DELETE
    ∷ [])
    false
    7
    (made 0 "e" 0x20 ∷ made 0 "d" 0x10 ∷ made 2 "b" 0x20 ∷ [])
    ((of_directory 0, replicate 7 0)
    ∷ (stream 1 "", replicate 7 0)
    ∷ (stream 1 "t", 1 ∷ 0 ∷ 1 ∷ 1 ∷ 1 ∷ 0 ∷ 1 ∷ [])
    ∷ (of_directory 2, replicate 7 0)
    ∷ (stream 3 "", 1 ∷ 1 ∷ 0 ∷ 0 ∷ 1 ∷ 1 ∷ 1 ∷ [])
    ∷ [])
    ((0, deleting (entry 6 1 2 0x10002 5)) ∷ (3, entry 5 3 4 1 7) ∷ [])
    -- a marked stream with an uncounted open, then its file marked too; a stream removed of a file that stays, its slot
    -- taken again
    ∷ runs
    (ask 0x10000 7 2 0x1000 "a:s"
    ∷ ask 0x80 0 1 0 "a:s"
    ∷ ask 0x80 7 3 0 "a:t"
    ∷ close 1
    ∷ folding (ask 1 7 1 0 "A:S")
    ∷ deletes "a"
    ∷ deletes "a:t"
    ∷ close 4
    ∷ close 3
    ∷ close 5
    ∷ ask 4 7 2 0 "b"
    ∷ [])
    (accepted_row FILE_CREATED 1 0x10000
    ∷ accepted_row FILE_OPENED 2 0x80
    ∷ accepted_row FILE_CREATED 3 0x82
    ∷ done_row
    ∷ refused_row DELETE_PENDING
    ∷ accepted_row FILE_OPENED 4 0x10000
    ∷ accepted_row FILE_OPENED 5 0x10000
    ∷ done_row
    ∷ done_row
    ∷ done_row
    ∷ accepted_row FILE_CREATED 6 4
    ∷ [])
    false
    7
    (pending (made 0 "a" 0x20) ∷ made 0 "b" 0x20 ∷ [])
    ((of_directory 0, replicate 7 0)
    ∷ (stream 1 "", replicate 7 0)
    ∷ (pending_stream (stream 1 "s"), replicate 7 0)
    ∷ (stream 2 "", 1 ∷ 0 ∷ 1 ∷ 0 ∷ 1 ∷ 1 ∷ 1 ∷ [])
    ∷ [])
    ((0, entry 6 2 3 4 7) ∷ (1, entry 2 1 2 0x80 0) ∷ [])
    -- streams named by control units: the tables that hold them stay consistent, and later calls take them
    ∷ runs
    (asks 0x80 7 2 0 (text "a:" ++ 0x1 ∷ [])
    ∷ asks 1 7 3 0 (text "a:" ++ 0x1F ∷ [])
    ∷ asks 1 7 1 0 (text "a:" ++ 0x1 ∷ [])
    ∷ asks 1 7 2 0 (text "b" ++ 0x1 ∷ [])
    ∷ close 2
    ∷ ask 1 7 1 0 "a"
    ∷ [])
    (accepted_row FILE_CREATED 1 0x80
    ∷ accepted_row FILE_CREATED 2 3
    ∷ accepted_row FILE_OPENED 3 1
    ∷ refused_row OBJECT_NAME_INVALID
    ∷ done_row
    ∷ accepted_row FILE_OPENED 4 1
    ∷ [])
    false
    5
    (made 0 "a" 0x20 ∷ [])
    ((of_directory 0, replicate 7 0)
    ∷ (stream 1 "", 1 ∷ 1 ∷ 0 ∷ 0 ∷ 1 ∷ 1 ∷ 1 ∷ [])
    ∷ (stream_as Data 1 (0x1 ∷ []), 1 ∷ 1 ∷ 0 ∷ 0 ∷ 1 ∷ 1 ∷ 1 ∷ [])
    ∷ (stream_as Data 1 (0x1F ∷ []), replicate 7 0)
    ∷ [])
    ((0, entry 1 1 2 0x80 7) ∷ (1, entry 4 1 1 1 7) ∷ (2, entry 3 1 2 1 7) ∷ [])
    -- the opens' room
    ∷ room 255 true
    ∷ room 256 false
    ∷ []
