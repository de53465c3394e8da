-- Steps 5 to 8: the read-only volume, path lookup, a missing last name, the type asked for.
use Rattle.std.specs.Prelude.{◌∷◌, ◌++◌}
use Rattle.base.specs.Base.{ℕ, List, [], replicate, BareStream, Open}
use Rattle.store.specs.StepCases.{Form.{Case, Start, Made, refuses, accepts, each, ask, asks, by, attributed, folding, from, after, fresh, makes, makes_directory, marks, made, stream, of_directory, entry}, Statuses.{MEDIA_WRITE_PROTECTED, OBJECT_PATH_NOT_FOUND, OBJECT_NAME_NOT_FOUND, OBJECT_NAME_COLLISION, FILE_IS_A_DIRECTORY, NOT_A_DIRECTORY, FILE_OPENED, FILE_CREATED}}

-- step 5: dispositions 0, 2, 4 and 5, on a file, on the root, on a missing name, and before step 6
abbrev pub read_only_cases : List Case
read_only_cases =
    each writing (λ d. refuses (after (makes "a" ∷ marks ∷ [])) (ask 1 7 d 0 "a") MEDIA_WRITE_PROTECTED)
    ++ each writing (λ d. refuses (after (marks ∷ [])) (ask 1 7 d 0 "") MEDIA_WRITE_PROTECTED)
    ++ each writing (λ d. refuses (after (marks ∷ [])) (ask 1 7 d 0 "a") MEDIA_WRITE_PROTECTED)
    ++ each writing (λ d. refuses (after (marks ∷ [])) (ask 1 7 d 0 "x\\a") MEDIA_WRITE_PROTECTED)
    -- open and open-if: 6 refuses what is missing before the last, and what is there is opened
    ++ each reading (λ d. refuses (after (marks ∷ [])) (ask 1 7 d 0 "x\\a") OBJECT_PATH_NOT_FOUND)
    ++ each reading
    (λ d.
    accepts (after (makes "a" ∷ marks ∷ [])) (ask 1 7 d 0 "a") FILE_OPENED (made 0 "a" 0x20 ∷ []) (stream 1 "" ∷ [])
    (entry 2 1 1 1 7 ∷ entry 1 1 1 0x80 7 ∷ []))
    -- 7: the name is missed before the mark is looked at, which is before the name is made
    ++ refuses (after (marks ∷ [])) (ask 1 7 1 0 "a") OBJECT_NAME_NOT_FOUND
    ∷ refuses (after (marks ∷ [])) (ask 1 7 3 0 "a") MEDIA_WRITE_PROTECTED
    ∷ refuses (after (marks ∷ [])) (ask 1 7 3 1 "d") MEDIA_WRITE_PROTECTED
    ∷ []
  where
    writing : List ℕ
    writing = 0 ∷ 2 ∷ 4 ∷ 5 ∷ []

    reading : List ℕ
    reading = 1 ∷ 3 ∷ []

-- steps 6 and 7
abbrev pub lookup_cases : List Case
lookup_cases =
    -- 6: a component before the last that is missing, or a data file; the first, and a later one
    each (0 ∷ 1 ∷ 2 ∷ 3 ∷ 4 ∷ 5 ∷ []) (λ d. refuses fresh (ask 1 7 d 0 "x\\a") OBJECT_PATH_NOT_FOUND)
    ++ each (1 ∷ 2 ∷ []) (λ d. refuses (after (makes "a" ∷ [])) (ask 1 7 d 0 "a\\b") OBJECT_PATH_NOT_FOUND)
    ++ refuses (after (makes_directory "d" ∷ [])) (ask 1 7 2 0 "d\\x\\a") OBJECT_PATH_NOT_FOUND
    ∷ refuses (after (makes_directory "d" ∷ makes "d\\a" ∷ [])) (ask 1 7 2 0 "d\\a\\b") OBJECT_PATH_NOT_FOUND
    -- through two directories; no account needs 0x20 to traverse
    ∷ accepts (from (replicate 8 0x86) (makes_directory "d" ∷ makes_directory "d\\e" ∷ [])) (ask 1 7 2 0 "d\\e\\a") FILE_CREATED
    (made 0 "d" 0x10 ∷ made 1 "e" 0x10 ∷ made 2 "a" 0x20 ∷ [])
    (of_directory 1 ∷ of_directory 2 ∷ stream 3 "" ∷ [])
    (entry 3 3 3 1 7 ∷ entry 2 2 2 0x80 7 ∷ entry 1 1 1 0x80 7 ∷ [])
    -- a link of that directory alone
    ∷ refuses (after (makes_directory "d" ∷ makes "a" ∷ [])) (ask 1 7 1 0 "d\\a") OBJECT_NAME_NOT_FOUND
    ∷ refuses (after (makes_directory "d" ∷ makes "d\\a" ∷ [])) (ask 1 7 1 0 "a") OBJECT_NAME_NOT_FOUND
    -- the whole name
    ∷ refuses (after (makes "ab" ∷ [])) (ask 1 7 1 0 "a") OBJECT_NAME_NOT_FOUND
    ∷ refuses (after (makes "a" ∷ [])) (ask 1 7 1 0 "ab") OBJECT_NAME_NOT_FOUND
    -- exact, and with a to z folded on either side: the last component, and one before it
    ∷ refuses (after (makes "az" ∷ [])) (ask 1 7 1 0 "AZ") OBJECT_NAME_NOT_FOUND
    ∷ accepts (after (makes "az" ∷ [])) (folding (ask 1 7 1 0 "AZ")) FILE_OPENED (made 0 "az" 0x20 ∷ []) (stream 1 "" ∷ [])
    (entry 2 1 1 1 7 ∷ entry 1 1 1 0x80 7 ∷ [])
    ∷ accepts (after (makes "AZ" ∷ [])) (folding (ask 1 7 1 0 "aZ")) FILE_OPENED (made 0 "AZ" 0x20 ∷ []) (stream 1 "" ∷ [])
    (entry 2 1 1 1 7 ∷ entry 1 1 1 0x80 7 ∷ [])
    ∷ refuses (after (makes_directory "d" ∷ [])) (ask 1 7 2 0 "D\\a") OBJECT_PATH_NOT_FOUND
    ∷ accepts (after (makes_directory "d" ∷ [])) (folding (ask 1 7 2 0 "D\\a")) FILE_CREATED (made 0 "d" 0x10 ∷ made 1 "a" 0x20 ∷ [])
    (of_directory 1 ∷ stream 2 "" ∷ [])
    (entry 2 2 2 1 7 ∷ entry 1 1 1 0x80 7 ∷ [])
    -- and a later one before the last
    ∷ accepts (after (makes_directory "d" ∷ makes_directory "d\\e" ∷ [])) (folding (ask 1 7 2 0 "d\\E\\a")) FILE_CREATED
    (made 0 "d" 0x10 ∷ made 1 "e" 0x10 ∷ made 2 "a" 0x20 ∷ [])
    (of_directory 1 ∷ of_directory 2 ∷ stream 3 "" ∷ [])
    (entry 3 3 3 1 7 ∷ entry 2 2 2 0x80 7 ∷ entry 1 1 1 0x80 7 ∷ [])
    ∷ refuses (after (makes_directory "d" ∷ makes_directory "d\\e" ∷ [])) (ask 1 7 2 0 "d\\E\\a") OBJECT_PATH_NOT_FOUND
    ∷ refuses (after (makes_directory "d" ∷ makes "d\\e" ∷ [])) (ask 1 7 1 0 "d\\E") OBJECT_NAME_NOT_FOUND
    -- nothing else is folded: the signs beside a to z, and letters that are not ASCII
    ∷ refuses (after (makes "`" ∷ [])) (folding (ask 1 7 1 0 "@")) OBJECT_NAME_NOT_FOUND
    ∷ refuses (after (makes "{" ∷ [])) (folding (ask 1 7 1 0 "[")) OBJECT_NAME_NOT_FOUND
    ∷ refuses (after (asks 0x80 7 2 0 (0xE1 ∷ []) ∷ [])) (folding (asks 1 7 1 0 (0xC1 ∷ []))) OBJECT_NAME_NOT_FOUND
    -- the lowest matching slot wins, and the exact one where case counts
    ∷ accepts (after (makes "b" ∷ makes "B" ∷ [])) (folding (ask 1 7 1 0 "B")) FILE_OPENED (made 0 "b" 0x20 ∷ made 0 "B" 0x20 ∷ [])
    (stream 1 "" ∷ stream 2 "" ∷ [])
    (entry 3 1 1 1 7 ∷ entry 2 2 2 0x80 7 ∷ entry 1 1 1 0x80 7 ∷ [])
    ∷ accepts (after (makes "b" ∷ makes "B" ∷ [])) (ask 1 7 1 0 "B") FILE_OPENED (made 0 "b" 0x20 ∷ made 0 "B" 0x20 ∷ [])
    (stream 1 "" ∷ stream 2 "" ∷ [])
    (entry 3 2 2 1 7 ∷ entry 2 2 2 0x80 7 ∷ entry 1 1 1 0x80 7 ∷ [])
    ∷ refuses (after (makes_directory "d" ∷ makes_directory "D" ∷ makes "D\\a" ∷ [])) (folding (ask 1 7 1 0 "D\\a")) OBJECT_NAME_NOT_FOUND
    -- a name is stored as it was asked for
    ∷ accepts fresh (folding (ask 1 7 2 0 "aB:cD")) FILE_CREATED (made 0 "aB" 0x20 ∷ []) (stream 1 "" ∷ stream 1 "cD" ∷ [])
    (entry 1 1 2 1 7 ∷ [])
    ∷ refuses (after (makes "b" ∷ [])) (folding (ask 1 7 2 0 "B")) OBJECT_NAME_COLLISION
    ∷ []
    -- 7: the last one is missing, with a stream name or without
    ++ each (1 ∷ 4 ∷ []) (λ d. refuses fresh (ask 1 7 d 0 "a") OBJECT_NAME_NOT_FOUND)
    ++ each (1 ∷ 4 ∷ []) (λ d. refuses fresh (ask 1 7 d 0 "a:s") OBJECT_NAME_NOT_FOUND)
    ++ refuses fresh (ask 1 7 1 1 "d") OBJECT_NAME_NOT_FOUND ∷ []
    ++ each (0 ∷ 2 ∷ 3 ∷ 5 ∷ [])
    (λ d.
    accepts fresh (attributed 2 (ask 1 7 d 0 "a")) FILE_CREATED (made 0 "a" 0x22 ∷ []) (stream 1 "" ∷ []) (entry 1 1 1 1 7 ∷ []))
    ++ accepts fresh (ask 1 7 3 1 "d") FILE_CREATED (made 0 "d" 0x10 ∷ []) (of_directory 1 ∷ []) (entry 1 1 1 1 7 ∷ []) ∷ []

-- step 8, by an account with every access and by one with none
abbrev pub type_cases : List Case
type_cases =
    -- a directory with option 0x40, or a colon, with a stream name or without
    each others (λ d. refuses start (ask 1 7 d 0x40 "d") FILE_IS_A_DIRECTORY)
    ++ each others (λ d. refuses start (ask 1 7 d 0 "d:s") FILE_IS_A_DIRECTORY)
    ++ each others (λ d. refuses start (ask 1 7 d 0 "d::$DATA") FILE_IS_A_DIRECTORY)
    ++ each others (λ d. refuses start (ask 1 7 d 0x40 "") FILE_IS_A_DIRECTORY)
    ++ refuses start (by 1 (ask 1 7 1 0x40 "d")) FILE_IS_A_DIRECTORY
    ∷ refuses start (ask 1 7 2 0x40 "d") OBJECT_NAME_COLLISION
    ∷ refuses start (ask 1 7 2 0 "d:s") OBJECT_NAME_COLLISION
    ∷ refuses start (ask 1 7 2 0 "d::$DATA") OBJECT_NAME_COLLISION
    ∷ refuses start (ask 1 7 2 0x40 "") OBJECT_NAME_COLLISION
    -- a data file with option 0x1
    ∷ refuses start (ask 1 7 1 1 "a") NOT_A_DIRECTORY
    ∷ refuses start (ask 1 7 3 1 "a") NOT_A_DIRECTORY
    ∷ refuses start (by 1 (ask 1 7 1 1 "a")) NOT_A_DIRECTORY
    ∷ refuses start (ask 1 7 2 1 "a") OBJECT_NAME_COLLISION
    -- a directory with option 0x1, a data file with option 0x40 and with a colon
    ∷ accepts start (ask 1 7 1 1 "d") FILE_OPENED files streams (entry 3 1 1 1 7 ∷ entries)
    ∷ accepts start (ask 1 7 1 0x40 "a") FILE_OPENED files streams (entry 3 2 2 1 7 ∷ entries)
    ∷ accepts start (ask 1 7 1 0x40 "a::$DATA") FILE_OPENED files streams (entry 3 2 2 1 7 ∷ entries)
    ∷ []
  where
    others : List ℕ
    others = 0 ∷ 1 ∷ 3 ∷ 4 ∷ 5 ∷ []

    start : Start
    start = from (0x1F01FF ∷ replicate 7 0) (makes_directory "d" ∷ makes "a" ∷ [])

    files : List Made
    files = made 0 "d" 0x10 ∷ made 0 "a" 0x20 ∷ []

    streams : List BareStream
    streams = of_directory 1 ∷ stream 2 "" ∷ []

    entries : List Open
    entries = entry 2 2 2 0x80 7 ∷ entry 1 1 1 0x80 7 ∷ []
