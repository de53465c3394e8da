-- What a close marks, and what it removes.
use Rattle.std.specs.Prelude.{◌∷◌, ◌++◌}
use Rattle.base.specs.Base.{ℕ, true, false, List, []}
use Prim.Native.String.{String}
use Rattle.store.specs.{Calls.Call, StepCases.{Form.{Case, Made, refuses, accepts, does, ask, attributed, close, after, makes, makes_directory, deletes, makes_deleting, makes_directory_deleting, marks, made, pending, gone, stream, pending_stream, gone_stream, of_directory, entry, deleting}, Statuses.{OBJECT_PATH_NOT_FOUND, OBJECT_NAME_NOT_FOUND, INVALID_HANDLE, DELETE_PENDING, FILE_OPENED, FILE_CREATED}}}

-- nothing is left but the root
abbrev pub empties : List Call → ℕ → Case
empties calls h = does (after calls) (close h) false [] [] []

abbrev pub mark_cases : List Case
mark_cases =
    -- a file and a directory, while another open is there, counted or not
    does (after (makes "a" ∷ deletes "a" ∷ [])) (close 2) false (pending (made 0 "a" 0x20) ∷ []) (stream 1 "" ∷ []) (entry 1 1 1 0x80 7 ∷ [])
    ∷ does (after (ask 1 7 2 0 "a" ∷ deletes "a" ∷ [])) (close 2) false (pending (made 0 "a" 0x20) ∷ []) (stream 1 "" ∷ [])
    (entry 1 1 1 1 7 ∷ [])
    ∷ does (after (makes_directory "d" ∷ deletes "d" ∷ [])) (close 2) false (pending (made 0 "d" 0x10) ∷ []) (of_directory 1 ∷ [])
    (entry 1 1 1 0x80 7 ∷ [])
    -- another open on another stream of the file; the file is marked, and none of its streams
    ∷ does (after (makes "a:s" ∷ deletes "a" ∷ [])) (close 2) false (pending (made 0 "a" 0x20) ∷ []) (stream 1 "" ∷ stream 1 "s" ∷ [])
    (entry 1 1 2 0x80 7 ∷ [])
    -- another that deletes on close
    ∷ does (after (makes_deleting "a" ∷ deletes "a" ∷ [])) (close 1) false (pending (made 0 "a" 0x20) ∷ []) (stream 1 "" ∷ [])
    (deleting (entry 2 1 1 0x10000 7) ∷ [])
    -- superseded, and made read-only by that
    ∷ does (after (makes "a" ∷ attributed 0x1 (ask 0x10000 7 0 0x1000 "a") ∷ [])) (close 2) false (pending (made 0 "a" 0x21) ∷ [])
    (stream 1 "" ∷ [])
    (entry 1 1 1 0x80 7 ∷ [])
    -- a named stream marks itself alone
    ∷ does (after (makes "a:s" ∷ deletes "a:s" ∷ [])) (close 2) false (made 0 "a" 0x20 ∷ []) (stream 1 "" ∷ pending_stream (stream 1 "s") ∷ [])
    (entry 1 1 2 0x80 7 ∷ [])
    -- a marked file keeps its mark, and a stream of it is marked too
    ∷ does (after (makes "a:s" ∷ deletes "a" ∷ deletes "a:s" ∷ close 2 ∷ [])) (close 3) false (pending (made 0 "a" 0x20) ∷ [])
    (stream 1 "" ∷ pending_stream (stream 1 "s") ∷ [])
    (entry 1 1 2 0x80 7 ∷ [])
    -- the close of another open marks nothing, with access 0x10000 or not
    ∷ does (after (makes "a" ∷ deletes "a" ∷ [])) (close 1) false (made 0 "a" 0x20 ∷ []) (stream 1 "" ∷ [])
    (deleting (entry 2 1 1 0x10000 7) ∷ [])
    ∷ does (after (makes "a" ∷ ask 0x10000 7 1 0 "a" ∷ [])) (close 2) false (made 0 "a" 0x20 ∷ []) (stream 1 "" ∷ [])
    (entry 1 1 1 0x80 7 ∷ [])
    ∷ does (after (ask 0x10000 7 2 0 "a:s" ∷ [])) (close 1) false (made 0 "a" 0x20 ∷ []) (stream 1 "" ∷ stream 1 "s" ∷ []) []
    -- on a read-only volume too
    ∷ does (after (makes "a" ∷ deletes "a" ∷ marks ∷ [])) (close 2) true (pending (made 0 "a" 0x20) ∷ []) (stream 1 "" ∷ [])
    (entry 1 1 1 0x80 7 ∷ [])
    ∷ []

-- directories with children
abbrev pub child_cases : List Case
child_cases =
    -- a child that came after the open, with an open or without: the directory is neither marked nor removed
    does (after (makes_directory_deleting "d" ∷ makes "d\\a" ∷ [])) (close 1) false kept (of_directory 1 ∷ stream 2 "" ∷ [])
    (entry 2 2 2 0x80 7 ∷ [])
    ∷ does (after (makes_directory_deleting "d" ∷ makes "d\\a" ∷ close 2 ∷ [])) (close 1) false kept (of_directory 1 ∷ stream 2 "" ∷ []) []
    ∷ does (after (makes_directory "d" ∷ makes_directory "d\\a" ∷ deletes "d" ∷ [])) (close 3) false (made 0 "d" 0x10 ∷ made 1 "a" 0x10 ∷ [])
    (of_directory 1 ∷ of_directory 2 ∷ [])
    (entry 2 2 2 0x80 7 ∷ entry 1 1 1 0x80 7 ∷ [])
    -- a child that is marked counts
    ∷ does (after (makes_directory_deleting "d" ∷ makes "d\\a" ∷ deletes "d\\a" ∷ close 3 ∷ [])) (close 1) false
    (made 0 "d" 0x10 ∷ pending (made 1 "a" 0x20) ∷ [])
    (of_directory 1 ∷ stream 2 "" ∷ [])
    (entry 2 2 2 0x80 7 ∷ [])
    ∷ accepts (after (makes_directory_deleting "d" ∷ makes "d\\a" ∷ deletes "d\\a" ∷ close 3 ∷ close 1 ∷ [])) (ask 1 7 1 0 "d") FILE_OPENED
    (made 0 "d" 0x10 ∷ pending (made 1 "a" 0x20) ∷ [])
    (of_directory 1 ∷ stream 2 "" ∷ [])
    (entry 4 1 1 1 7 ∷ entry 2 2 2 0x80 7 ∷ [])
    -- a child that is gone counts no more
    ∷ empties (makes_directory_deleting "d" ∷ makes_deleting "d\\a" ∷ close 2 ∷ []) 1
    -- at that close alone: once the child is gone, the last open that was not to delete removes nothing
    ∷ does (after (makes_directory "d" ∷ deletes "d" ∷ makes_deleting "d\\a" ∷ close 2 ∷ close 3 ∷ [])) (close 1) false (made 0 "d" 0x10 ∷ [])
    (of_directory 1 ∷ [])
    []
    ∷ accepts (after (makes_directory "d" ∷ deletes "d" ∷ makes_deleting "d\\a" ∷ close 2 ∷ close 3 ∷ close 1 ∷ [])) (ask 1 7 1 0 "d") FILE_OPENED
    (made 0 "d" 0x10 ∷ [])
    (of_directory 1 ∷ [])
    (entry 4 1 1 1 7 ∷ [])
    -- a directory that was not marked is still walked
    ∷ accepts (after (makes_directory_deleting "d" ∷ makes "d\\a" ∷ close 1 ∷ [])) (ask 1 7 2 0 "d\\b") FILE_CREATED
    (made 0 "d" 0x10 ∷ made 1 "a" 0x20 ∷ made 1 "b" 0x20 ∷ [])
    (of_directory 1 ∷ stream 2 "" ∷ stream 3 "" ∷ [])
    (entry 3 3 3 1 7 ∷ entry 2 2 2 0x80 7 ∷ [])
    -- links of another directory are none of its children
    ∷ does (after (makes_directory "d" ∷ makes_directory "e" ∷ makes "e\\a" ∷ deletes "d" ∷ close 1 ∷ [])) (close 4) false
    (gone ∷ made 0 "e" 0x10 ∷ made 2 "a" 0x20 ∷ [])
    (gone_stream ∷ of_directory 2 ∷ stream 3 "" ∷ [])
    (entry 3 3 3 0x80 7 ∷ entry 2 2 2 0x80 7 ∷ [])
    ∷ []
  where
    kept : List Made
    kept = made 0 "d" 0x10 ∷ made 1 "a" 0x20 ∷ []

-- files: record, link and streams go
abbrev pub removed_file_cases : List Case
removed_file_cases =
    -- marked and removed by the same close: made or found, a file, a directory, superseded, on a read-only volume
    empties (makes_deleting "a" ∷ []) 1
    ∷ empties (makes_deleting "a::$DATA" ∷ []) 1
    ∷ empties (makes "a" ∷ close 1 ∷ deletes "a" ∷ []) 2
    ∷ empties (makes_directory_deleting "d" ∷ []) 1
    ∷ empties (makes "a" ∷ close 1 ∷ attributed 0x1 (ask 0x10000 7 0 0x1000 "a") ∷ []) 2
    ∷ does (after (makes_deleting "a" ∷ marks ∷ [])) (close 1) true [] [] []
    -- with its last open, which was not to delete: an uncounted one, a counted one, one of a directory
    ∷ empties (makes "a" ∷ deletes "a" ∷ close 2 ∷ []) 1
    ∷ empties (ask 1 7 2 0 "a" ∷ deletes "a" ∷ close 2 ∷ []) 1
    ∷ empties (makes_directory "d" ∷ deletes "d" ∷ close 2 ∷ []) 1
    ∷ does (after (makes "a" ∷ deletes "a" ∷ close 2 ∷ marks ∷ [])) (close 1) true [] [] []
    -- not before: two others, the one and then the other; two that delete
    ∷ does (after (makes "a" ∷ makes_too "a" ∷ deletes "a" ∷ close 3 ∷ [])) (close 1) false (pending (made 0 "a" 0x20) ∷ []) (stream 1 "" ∷ [])
    (entry 2 1 1 0x80 7 ∷ [])
    ∷ empties (makes "a" ∷ makes_too "a" ∷ deletes "a" ∷ close 3 ∷ close 1 ∷ []) 2
    ∷ empties (makes_deleting "a" ∷ deletes "a" ∷ close 1 ∷ []) 2
    -- the last open on any of its streams: on a named one; the unnamed one's first, and last
    ∷ empties (makes "a:s" ∷ deletes "a" ∷ close 2 ∷ []) 1
    ∷ refuses (after (makes "a:s" ∷ deletes "a" ∷ close 2 ∷ close 1 ∷ [])) (ask 1 7 1 0 "a") OBJECT_NAME_NOT_FOUND
    ∷ does (after (makes "a:s" ∷ makes_too "a" ∷ deletes "a" ∷ close 3 ∷ [])) (close 2) false (pending (made 0 "a" 0x20) ∷ [])
    (stream 1 "" ∷ stream 1 "s" ∷ [])
    (entry 1 1 2 0x80 7 ∷ [])
    ∷ does (after (makes "a:s" ∷ makes_too "a" ∷ deletes "a" ∷ close 3 ∷ [])) (close 1) false (pending (made 0 "a" 0x20) ∷ [])
    (stream 1 "" ∷ stream 1 "s" ∷ [])
    (entry 2 1 1 0x80 7 ∷ [])
    -- a stream that is marked, or would be, goes with its file
    ∷ empties (makes "a" ∷ makes_deleting "a:s" ∷ deletes "a" ∷ close 3 ∷ close 1 ∷ []) 2
    ∷ empties (makes "a:s" ∷ deletes "a:s" ∷ close 2 ∷ deletes "a" ∷ close 3 ∷ []) 1
    ∷ accepts (after (makes "a:s" ∷ deletes "a:s" ∷ close 2 ∷ deletes "a" ∷ close 3 ∷ close 1 ∷ [])) (ask 1 7 2 0 "a:s") FILE_CREATED
    (made 0 "a" 0x20 ∷ [])
    (stream 1 "" ∷ stream 1 "s" ∷ [])
    (entry 4 1 2 1 7 ∷ [])
    -- the records of that file alone, between others
    ∷ does (after three) (close 4) false (made 0 "b" 0x20 ∷ gone ∷ made 0 "c" 0x20 ∷ [])
    (stream 1 "" ∷ stream 1 "t" ∷ gone_stream ∷ gone_stream ∷ stream 3 "" ∷ stream 3 "u" ∷ [])
    (entry 3 3 6 0x80 7 ∷ entry 1 1 2 0x80 7 ∷ [])
    -- read-only since the open: by its own supersede, by another's
    ∷ refuses (after (makes "a" ∷ close 1 ∷ attributed 0x1 (ask 0x10000 7 0 0x1000 "a") ∷ close 2 ∷ [])) (ask 1 7 1 0 "a") OBJECT_NAME_NOT_FOUND
    ∷ refuses (after (makes_deleting "a" ∷ attributed 0x1 (ask 0x80 7 0 0 "a") ∷ close 2 ∷ close 1 ∷ [])) (ask 1 7 1 0 "a") OBJECT_NAME_NOT_FOUND
    -- its handle and its name are gone
    ∷ refuses (after (makes_deleting "a" ∷ close 1 ∷ [])) (close 1) INVALID_HANDLE
    ∷ refuses (after (makes_deleting "a" ∷ close 1 ∷ [])) (ask 1 7 1 0 "a") OBJECT_NAME_NOT_FOUND
    ∷ refuses (after (makes_directory_deleting "d" ∷ close 1 ∷ [])) (ask 1 7 2 0 "d\\a") OBJECT_PATH_NOT_FOUND
    -- and serve again, unmarked: the name with another type; the file's, link's and streams' slots, the lowest
    ∷ accepts (after (makes_directory_deleting "a" ∷ close 1 ∷ [])) (ask 1 7 2 0 "a") FILE_CREATED (made 0 "a" 0x20 ∷ []) (stream 1 "" ∷ [])
    (entry 2 1 1 1 7 ∷ [])
    ∷ accepts (after (makes "a" ∷ deletes "a" ∷ close 2 ∷ close 1 ∷ [])) (ask 1 7 2 0 "a") FILE_CREATED (made 0 "a" 0x20 ∷ []) (stream 1 "" ∷ [])
    (entry 3 1 1 1 7 ∷ [])
    ∷ accepts (after (three ++ close 4 ∷ [])) (ask 1 7 2 0 "e:v") FILE_CREATED (made 0 "b" 0x20 ∷ made 0 "e" 0x20 ∷ made 0 "c" 0x20 ∷ [])
    (stream 1 "" ∷ stream 1 "t" ∷ stream 2 "" ∷ stream 2 "v" ∷ stream 3 "" ∷ stream 3 "u" ∷ [])
    (entry 5 2 4 1 7 ∷ entry 3 3 6 0x80 7 ∷ entry 1 1 2 0x80 7 ∷ [])
    ∷ accepts (after (three ++ close 4 ∷ [])) (ask 1 7 2 1 "d") FILE_CREATED (made 0 "b" 0x20 ∷ made 0 "d" 0x10 ∷ made 0 "c" 0x20 ∷ [])
    (stream 1 "" ∷ stream 1 "t" ∷ of_directory 2 ∷ gone_stream ∷ stream 3 "" ∷ stream 3 "u" ∷ [])
    (entry 5 2 3 1 7 ∷ entry 3 3 6 0x80 7 ∷ entry 1 1 2 0x80 7 ∷ [])
    ∷ accepts (after (three ++ close 4 ∷ [])) (ask 1 7 2 0 "b:v") FILE_CREATED (made 0 "b" 0x20 ∷ gone ∷ made 0 "c" 0x20 ∷ [])
    (stream 1 "" ∷ stream 1 "t" ∷ stream 1 "v" ∷ gone_stream ∷ stream 3 "" ∷ stream 3 "u" ∷ [])
    (entry 5 1 3 3 7 ∷ entry 3 3 6 0x80 7 ∷ entry 1 1 2 0x80 7 ∷ [])
    ∷ accepts (after (three ++ close 4 ∷ deletes "b" ∷ close 5 ∷ close 1 ∷ [])) (ask 1 7 2 0 "e") FILE_CREATED
    (made 0 "e" 0x20 ∷ gone ∷ made 0 "c" 0x20 ∷ [])
    (stream 1 "" ∷ gone_stream ∷ gone_stream ∷ gone_stream ∷ stream 3 "" ∷ stream 3 "u" ∷ [])
    (entry 6 1 1 1 7 ∷ entry 3 3 6 0x80 7 ∷ [])
    ∷ []
  where
    makes_too : String → Call
    makes_too path = ask 0x80 7 1 0 path

    -- `b:t`, `a:s` and `c:u`; the fourth open deletes `a` and is its only one
    three : List Call
    three = makes "b:t" ∷ makes "a:s" ∷ makes "c:u" ∷ close 2 ∷ deletes "a" ∷ []

-- a named stream: its record goes, and the file stays
abbrev pub removed_stream_cases : List Case
removed_stream_cases =
    -- marked and removed by the same close: made with its file, made, found; on a read-only volume
    does (after (makes_deleting "a:s" ∷ [])) (close 1) false file (stream 1 "" ∷ []) []
    ∷ does (after (makes "a" ∷ makes_deleting "a:s" ∷ [])) (close 2) false file (stream 1 "" ∷ []) (entry 1 1 1 0x80 7 ∷ [])
    ∷ does (after (makes "a:s" ∷ close 1 ∷ deletes "a:s" ∷ [])) (close 2) false file (stream 1 "" ∷ []) []
    ∷ does (after (makes "a:s" ∷ close 1 ∷ ask 0x10000 7 0 0x1000 "a:s" ∷ [])) (close 2) false file (stream 1 "" ∷ []) []
    ∷ does (after (makes_deleting "a:s" ∷ marks ∷ [])) (close 1) true file (stream 1 "" ∷ []) []
    -- with its last open, which was not to delete, counted or not
    ∷ does (after (makes "a:s" ∷ deletes "a:s" ∷ close 2 ∷ [])) (close 1) false file (stream 1 "" ∷ []) []
    ∷ does (after (ask 1 7 2 0 "a:s" ∷ deletes "a:s" ∷ close 2 ∷ [])) (close 1) false file (stream 1 "" ∷ []) []
    -- opens of the unnamed stream and of another don't keep it
    ∷ does (after (makes "a:s" ∷ ask 0x80 7 1 0 "a" ∷ ask 0x80 7 3 0 "a:t" ∷ deletes "a:s" ∷ close 4 ∷ [])) (close 1) false file
    (stream 1 "" ∷ gone_stream ∷ stream 1 "t" ∷ [])
    (entry 3 1 3 0x82 7 ∷ entry 2 1 1 0x80 7 ∷ [])
    -- and their closes don't remove it
    ∷ does (after (makes "a:s" ∷ ask 0x80 7 1 0 "a" ∷ deletes "a:s" ∷ close 3 ∷ [])) (close 2) false file
    (stream 1 "" ∷ pending_stream (stream 1 "s") ∷ [])
    (entry 1 1 2 0x80 7 ∷ [])
    -- of a marked file that still has an open
    ∷ does (after (makes "a:s" ∷ ask 0x80 7 1 0 "a" ∷ deletes "a:s" ∷ deletes "a" ∷ close 4 ∷ close 1 ∷ [])) (close 3) false
    (pending (made 0 "a" 0x20) ∷ [])
    (stream 1 "" ∷ [])
    (entry 2 1 1 0x80 7 ∷ [])
    -- its name is gone, and serves again, in the lowest free slot
    ∷ refuses (after (makes_deleting "a:s" ∷ close 1 ∷ [])) (ask 1 7 1 0 "a:s") OBJECT_NAME_NOT_FOUND
    ∷ accepts (after (makes_deleting "a:s" ∷ close 1 ∷ [])) (ask 1 7 2 0 "a:s") FILE_CREATED file (stream 1 "" ∷ stream 1 "s" ∷ [])
    (entry 2 1 2 3 7 ∷ [])
    ∷ accepts (after (makes_deleting "a:s" ∷ ask 0x80 7 3 0 "a:t" ∷ close 1 ∷ [])) (ask 1 7 2 0 "a:u") FILE_CREATED file
    (stream 1 "" ∷ stream 1 "u" ∷ stream 1 "t" ∷ [])
    (entry 3 1 2 3 7 ∷ entry 2 1 3 0x82 7 ∷ [])
    ∷ accepts (after (makes_deleting "a:s" ∷ ask 0x80 7 3 0 "a:t" ∷ close 1 ∷ [])) (ask 1 7 2 0 "b:u") FILE_CREATED
    (made 0 "a" 0x20 ∷ made 0 "b" 0x20 ∷ [])
    (stream 1 "" ∷ stream 2 "" ∷ stream 1 "t" ∷ stream 2 "u" ∷ [])
    (entry 3 2 4 1 7 ∷ entry 2 1 3 0x82 7 ∷ [])
    -- as the next open sees it: an open of the file doesn't keep the stream, the close of one doesn't remove it, and the
    -- file that was made with it stays
    ∷ refuses (after (both ++ close 1 ∷ [])) (ask 1 7 1 0 "a:s") OBJECT_NAME_NOT_FOUND
    ∷ refuses (after (both ++ close 2 ∷ [])) (ask 1 7 1 0 "a:s") DELETE_PENDING
    ∷ accepts (after (makes_deleting "a:s" ∷ close 1 ∷ [])) (ask 1 7 1 0 "a") FILE_OPENED file (stream 1 "" ∷ []) (entry 2 1 1 1 7 ∷ [])
    ∷ []
  where
    file : List Made
    file = made 0 "a" 0x20 ∷ []

    -- the stream is marked, with an open of its own, and the file has one
    both : List Call
    both = makes "a:s" ∷ ask 0x80 7 1 0 "a" ∷ deletes "a:s" ∷ close 3 ∷ []
