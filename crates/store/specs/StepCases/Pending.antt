-- DELETE_PENDING: what is marked is not opened, and not walked through.
use Rattle.std.specs.Prelude.{◌∷◌, ◌++◌}
use Rattle.base.specs.Base.{ℕ, List, [], replicate}
use Prim.Native.String.{String}
use Rattle.store.specs.{Calls.Call, StepCases.{Form.{Case, Start, refuses, accepts, each, ask, by, attributed, folding, close, from, after, makes, makes_directory, deletes, marks, made, pending, stream, pending_stream, of_directory, entry}, Statuses.{INVALID_PARAMETER, ACCESS_DENIED, OBJECT_NAME_INVALID, MEDIA_WRITE_PROTECTED, OBJECT_PATH_NOT_FOUND, OBJECT_NAME_NOT_FOUND, DELETE_PENDING, FILE_OPENED, FILE_CREATED}}}

abbrev pub dispositions : List ℕ
dispositions = 0 ∷ 1 ∷ 2 ∷ 3 ∷ 4 ∷ 5 ∷ []

abbrev pub writing : List ℕ
writing = 0 ∷ 2 ∷ 4 ∷ 5 ∷ []

abbrev pub reading : List ℕ
reading = 1 ∷ 3 ∷ []

-- the first open stays, the second deletes on close and is closed
abbrev pub marked : Call → String → List Call → Start
marked first path calls = after (first ∷ deletes path ∷ close 2 ∷ calls)

-- the same where account 0 has every access, and the others none
abbrev pub denied : Start → Start
denied s = from (0x1F01FF ∷ replicate 7 0) s.calls

-- a data file
abbrev pub pending_file_cases : List Case
pending_file_cases =
    -- the last component, with a stream name or without: each disposition, before COLLISION, NOT_FOUND and the access rule
    each dispositions (λ d. refuses file (ask 1 7 d 0 "a") DELETE_PENDING)
    ++ each dispositions (λ d. refuses (denied file) (by 1 (ask 1 7 d 0 "a")) DELETE_PENDING)
    ++ each dispositions (λ d. refuses file (ask 1 7 d 0 "a:t") DELETE_PENDING)
    ++ each dispositions (λ d. refuses (marked (makes "a:s") "a" []) (ask 1 7 d 0 "a:s") DELETE_PENDING)
    -- before step 8
    ++ each (1 ∷ 2 ∷ 3 ∷ []) (λ d. refuses file (ask 1 7 d 1 "a") DELETE_PENDING)
    -- before CANNOT_DELETE
    ++ refuses file (deletes "a") DELETE_PENDING
    ∷ refuses read_only (deletes "a") DELETE_PENDING
    -- before the access rule by the attributes
    ∷ refuses read_only (ask 2 7 1 0 "a") DELETE_PENDING
    -- after steps 1 to 4
    ∷ refuses file (ask 1 8 1 0 "a") INVALID_PARAMETER
    ∷ refuses file (ask 0 7 1 0 "a") ACCESS_DENIED
    ∷ refuses file (ask 1 7 1 0x41 "a") INVALID_PARAMETER
    ∷ refuses file (ask 1 7 1 0 "a:") OBJECT_NAME_INVALID
    ∷ []
    -- after step 5
    ++ each writing (λ d. refuses (marked (makes "a") "a" (marks ∷ [])) (ask 1 7 d 0 "a") MEDIA_WRITE_PROTECTED)
    ++ each reading (λ d. refuses (marked (makes "a") "a" (marks ∷ [])) (ask 1 7 d 0 "a") DELETE_PENDING)
    ++ each reading (λ d. refuses (marked (makes "a") "a" (marks ∷ [])) (ask 1 7 d 0 "a:t") DELETE_PENDING)
    -- before the last component
    ++ each dispositions (λ d. refuses file (ask 1 7 d 0 "a\\b") DELETE_PENDING)
    ++ refuses file (ask 1 7 1 0 "a\\b\\c") DELETE_PENDING
    ∷ refuses (marked (makes "a") "a" (marks ∷ [])) (ask 1 7 2 0 "a\\b") MEDIA_WRITE_PROTECTED
    -- other names are not held up
    ∷ refuses file (ask 1 7 1 0 "b") OBJECT_NAME_NOT_FOUND
    ∷ refuses file (ask 1 7 1 0 "b\\a") OBJECT_PATH_NOT_FOUND
    ∷ accepts file (ask 1 7 2 0 "b") FILE_CREATED (pending (made 0 "a" 0x20) ∷ made 0 "b" 0x20 ∷ []) (stream 1 "" ∷ stream 2 "" ∷ [])
    (entry 3 2 2 1 7 ∷ entry 1 1 1 0x80 7 ∷ [])
    ∷ accepts file (ask 1 7 2 0 "A") FILE_CREATED (pending (made 0 "a" 0x20) ∷ made 0 "A" 0x20 ∷ []) (stream 1 "" ∷ stream 2 "" ∷ [])
    (entry 3 2 2 1 7 ∷ entry 1 1 1 0x80 7 ∷ [])
    ∷ []
    -- folded, the lowest matching slot decides, marked or not; exact, the name
    ++ each dispositions (λ d. refuses file (folding (ask 1 7 d 0 "A")) DELETE_PENDING)
    ++ refuses (two "b") (folding (ask 1 7 1 0 "B")) DELETE_PENDING
    ∷ accepts (two "b") (ask 1 7 1 0 "B") FILE_OPENED (pending (made 0 "b" 0x20) ∷ made 0 "B" 0x20 ∷ []) (stream 1 "" ∷ stream 2 "" ∷ [])
    (entry 4 2 2 1 7 ∷ entry 2 2 2 0x80 7 ∷ entry 1 1 1 0x80 7 ∷ [])
    ∷ accepts (two "B") (folding (ask 1 7 1 0 "B")) FILE_OPENED (made 0 "b" 0x20 ∷ pending (made 0 "B" 0x20) ∷ [])
    (stream 1 "" ∷ stream 2 "" ∷ [])
    (entry 4 1 1 1 7 ∷ entry 2 2 2 0x80 7 ∷ entry 1 1 1 0x80 7 ∷ [])
    ∷ []
  where
    file : Start
    file = marked (makes "a") "a" []

    -- made read-only by the open that marked it
    read_only : Start
    read_only = after (makes "a" ∷ attributed 0x1 (ask 0x10000 7 0 0x1000 "a") ∷ close 2 ∷ [])

    -- `b` and `B`, one of them marked
    two : String → Start
    two path = after (makes "b" ∷ makes "B" ∷ deletes path ∷ close 3 ∷ [])

-- a directory
abbrev pub pending_directory_cases : List Case
pending_directory_cases =
    -- the last component: each disposition, before COLLISION, the access rule and step 8
    each dispositions (λ d. refuses directory (ask 1 7 d 0 "d") DELETE_PENDING)
    ++ each dispositions (λ d. refuses (denied directory) (by 1 (ask 1 7 d 0 "d")) DELETE_PENDING)
    ++ each dispositions (λ d. refuses directory (ask 1 7 d 0x40 "d") DELETE_PENDING)
    ++ each dispositions (λ d. refuses directory (ask 1 7 d 0 "d:s") DELETE_PENDING)
    -- before it: nothing is made in it, and nothing missed
    ++ each dispositions (λ d. refuses directory (ask 1 7 d 0 "d\\a") DELETE_PENDING)
    ++ refuses directory (ask 1 7 2 1 "d\\e") DELETE_PENDING
    ∷ refuses directory (ask 1 7 2 0 "d\\x\\a") DELETE_PENDING
    -- after step 5
    ∷ refuses (marked (makes_directory "d") "d" (marks ∷ [])) (ask 1 7 2 0 "d\\a") MEDIA_WRITE_PROTECTED
    ∷ refuses (marked (makes_directory "d") "d" (marks ∷ [])) (ask 1 7 3 0 "d\\a") DELETE_PENDING
    ∷ refuses (marked (makes_directory "d") "d" (marks ∷ [])) (ask 1 7 1 0 "d") DELETE_PENDING
    -- a later one before the last, and where it is found
    ∷ refuses below (ask 1 7 2 0 "e\\d\\a") DELETE_PENDING
    ∷ refuses below (ask 1 7 2 1 "e\\d") DELETE_PENDING
    ∷ refuses below (ask 1 7 2 0 "d\\a") OBJECT_PATH_NOT_FOUND
    ∷ refuses below (ask 1 7 2 0 "e\\x\\d\\a") OBJECT_PATH_NOT_FOUND
    ∷ accepts below (ask 1 7 1 0 "e") FILE_OPENED (made 0 "e" 0x10 ∷ pending (made 1 "d" 0x10) ∷ []) (of_directory 1 ∷ of_directory 2 ∷ [])
    (entry 4 1 1 1 7 ∷ entry 2 2 2 0x80 7 ∷ entry 1 1 1 0x80 7 ∷ [])
    -- folded, the lowest matching slot decides
    ∷ refuses (two "d") (folding (ask 1 7 2 0 "D\\a")) DELETE_PENDING
    ∷ accepts (two "D") (folding (ask 1 7 2 0 "D\\a")) FILE_CREATED (made 0 "d" 0x10 ∷ pending (made 0 "D" 0x10) ∷ made 1 "a" 0x20 ∷ [])
    (of_directory 1 ∷ of_directory 2 ∷ stream 3 "" ∷ [])
    (entry 4 3 3 1 7 ∷ entry 2 2 2 0x80 7 ∷ entry 1 1 1 0x80 7 ∷ [])
    ∷ []
  where
    directory : Start
    directory = marked (makes_directory "d") "d" []

    -- `d` in `e`, marked
    below : Start
    below = after (makes_directory "e" ∷ makes_directory "e\\d" ∷ deletes "e\\d" ∷ close 3 ∷ [])

    -- `d` and `D`, one of them marked
    two : String → Start
    two path = after (makes_directory "d" ∷ makes_directory "D" ∷ deletes path ∷ close 3 ∷ [])

-- a stream of a file that is not marked
abbrev pub pending_stream_cases : List Case
pending_stream_cases =
    -- each disposition, before COLLISION and the access rule
    each dispositions (λ d. refuses named (ask 1 7 d 0 "a:s") DELETE_PENDING)
    ++ each dispositions (λ d. refuses (denied named) (by 1 (ask 1 7 d 0 "a:s")) DELETE_PENDING)
    ++ refuses named (deletes "a:s:$DATA") DELETE_PENDING
    ∷ refuses read_only (ask 2 7 1 0 "a:s") DELETE_PENDING
    -- after step 5
    ∷ refuses (marked (makes "a:s") "a:s" (marks ∷ [])) (ask 1 7 2 0 "a:s") MEDIA_WRITE_PROTECTED
    ∷ refuses (marked (makes "a:s") "a:s" (marks ∷ [])) (ask 1 7 1 0 "a:s") DELETE_PENDING
    -- its file and the file's other streams are not held up
    ∷ accepts named (ask 1 7 1 0 "a") FILE_OPENED (made 0 "a" 0x20 ∷ []) (stream 1 "" ∷ pending_stream (stream 1 "s") ∷ [])
    (entry 3 1 1 1 7 ∷ entry 1 1 2 0x80 7 ∷ [])
    ∷ accepts named (ask 1 7 2 0 "a:t") FILE_CREATED (made 0 "a" 0x20 ∷ []) (stream 1 "" ∷ pending_stream (stream 1 "s") ∷ stream 1 "t" ∷ [])
    (entry 3 1 3 3 7 ∷ entry 1 1 2 0x80 7 ∷ [])
    ∷ accepts named (ask 1 7 2 0 "a:S") FILE_CREATED (made 0 "a" 0x20 ∷ []) (stream 1 "" ∷ pending_stream (stream 1 "s") ∷ stream 1 "S" ∷ [])
    (entry 3 1 3 3 7 ∷ entry 1 1 2 0x80 7 ∷ [])
    ∷ refuses named (ask 1 7 1 0 "a:t") OBJECT_NAME_NOT_FOUND
    ∷ refuses named (ask 1 7 2 0 "a\\b") OBJECT_PATH_NOT_FOUND
    -- folded, the lowest matching slot decides
    ∷ refuses named (folding (ask 1 7 2 0 "A:S")) DELETE_PENDING
    ∷ refuses (two "a:s") (folding (ask 1 7 1 0 "a:S")) DELETE_PENDING
    ∷ accepts (two "a:s") (ask 1 7 1 0 "a:S") FILE_OPENED (made 0 "a" 0x20 ∷ [])
    (stream 1 "" ∷ pending_stream (stream 1 "s") ∷ stream 1 "S" ∷ [])
    (entry 4 1 3 1 7 ∷ entry 2 1 3 0x82 7 ∷ entry 1 1 2 0x80 7 ∷ [])
    ∷ accepts (two "a:S") (folding (ask 1 7 1 0 "a:S")) FILE_OPENED (made 0 "a" 0x20 ∷ [])
    (stream 1 "" ∷ stream 1 "s" ∷ pending_stream (stream 1 "S") ∷ [])
    (entry 4 1 2 1 7 ∷ entry 2 1 3 0x82 7 ∷ entry 1 1 2 0x80 7 ∷ [])
    ∷ []
  where
    named : Start
    named = marked (makes "a:s") "a:s" []

    -- marked after its file was made read-only
    read_only : Start
    read_only = after (makes "a:s" ∷ deletes "a:s" ∷ attributed 0x1 (ask 0x80 7 0 0 "a") ∷ close 2 ∷ [])

    -- the streams `s` and `S`, one of them marked
    two : String → Start
    two path = after (makes "a:s" ∷ makes "a:S" ∷ deletes path ∷ close 3 ∷ [])
