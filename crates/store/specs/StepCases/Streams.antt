-- Step 11: a found data file.
use Rattle.std.specs.Prelude.{◌∷◌, ◌++◌}
use Rattle.base.specs.Base.{ℕ, List, [], replicate}
use Rattle.store.specs.{StepCases.{Form.{Case, Start, refuses, accepts, leaves, each, ask, by, attributed, folding, from, after, but, makes, marks, made, stream, entry, accepted_row, file_of}, Statuses.{ACCESS_DENIED, MEDIA_WRITE_PROTECTED, OBJECT_NAME_NOT_FOUND, OBJECT_NAME_COLLISION, SHARING_VIOLATION, FILE_SUPERSEDED, FILE_OPENED, FILE_CREATED, FILE_OVERWRITTEN}}, Calls.Call}

-- `a` with the stream `s`, asked for with attributes; account 0 has every access, account 1 the mask, the others none
abbrev pub file_as : ℕ → ℕ → Start
file_as mask attributes = from (0x1F01FF ∷ mask ∷ replicate 6 0) (attributed attributes (makes "a:s") ∷ [])

-- then an open is accepted: action, the file's attributes, stream, granted
abbrev pub accepted : Start → Call → ℕ → ℕ → ℕ → ℕ → Case
accepted start call action attributes s granted =
    accepts start call action (made 0 "a" attributes ∷ []) (stream 1 "" ∷ stream 1 "s" ∷ [])
    (entry 2 1 s granted 7 ∷ entry 1 1 2 0x80 7 ∷ [])

-- the stream is found
abbrev pub found_cases : List Case
found_cases =
    -- create, before the access rule
    refuses (file_as 0 0) (ask 1 7 2 0 "a") OBJECT_NAME_COLLISION
    ∷ refuses (file_as 0 0) (ask 1 7 2 0 "a:s") OBJECT_NAME_COLLISION
    ∷ refuses (file_as 0 0) (ask 1 7 2 0 "a::$DATA") OBJECT_NAME_COLLISION
    ∷ refuses (file_as 0 0) (by 1 (ask 1 7 2 0 "a")) OBJECT_NAME_COLLISION
    -- open and open-if: no bit is gained, no attribute changes, and hidden and system are not looked at
    ∷ accepted (file_as 0 0x1106) (attributed 0x21 (ask 1 7 1 0 "a")) FILE_OPENED 0x1126 1 1
    ∷ accepted (file_as 0 0x1106) (attributed 0x21 (ask 1 7 3 0 "a")) FILE_OPENED 0x1126 1 1
    ∷ accepted (file_as 0 0x1106) (attributed 0x21 (ask 1 7 3 0 "a:s")) FILE_OPENED 0x1126 2 1
    ∷ accepted (file_as 1 0) (by 1 (ask 1 7 1 0 "a")) FILE_OPENED 0x20 1 1
    ∷ refuses (file_as 1 0) (by 1 (ask 2 7 1 0 "a")) ACCESS_DENIED
    -- matched exactly or folded, whole, on that file alone, and the lowest matching slot wins
    ∷ refuses (file_as 0 0) (ask 1 7 1 0 "a:S") OBJECT_NAME_NOT_FOUND
    ∷ refuses (file_as 0 0) (ask 1 7 1 0 "a:st") OBJECT_NAME_NOT_FOUND
    ∷ accepted (file_as 0 0) (folding (ask 1 7 1 0 "A:S")) FILE_OPENED 0x20 2 1
    ∷ accepts (after (makes "a:s" ∷ makes "a:S" ∷ [])) (folding (ask 1 7 1 0 "a:S")) FILE_OPENED (made 0 "a" 0x20 ∷ [])
    (stream 1 "" ∷ stream 1 "s" ∷ stream 1 "S" ∷ [])
    (entry 3 1 2 1 7 ∷ entry 2 1 3 0x82 7 ∷ entry 1 1 2 0x80 7 ∷ [])
    ∷ accepts (after (makes "a:s" ∷ makes "a:S" ∷ [])) (ask 1 7 1 0 "a:S") FILE_OPENED (made 0 "a" 0x20 ∷ [])
    (stream 1 "" ∷ stream 1 "s" ∷ stream 1 "S" ∷ [])
    (entry 3 1 3 1 7 ∷ entry 2 1 3 0x82 7 ∷ entry 1 1 2 0x80 7 ∷ [])
    ∷ refuses (after (makes "a:s" ∷ makes "b" ∷ [])) (ask 1 7 1 0 "b:s") OBJECT_NAME_NOT_FOUND
    -- superseded or overwritten, for the empty name: 0x110 and 0x10000 or 0x2 are gained
    ∷ accepted (file_as 0 0) (ask 0x100000 7 0 0 "a") FILE_SUPERSEDED 0x20 1 0x110110
    ∷ accepted (file_as 0 0) (ask 0x100000 7 4 0 "a") FILE_OVERWRITTEN 0x20 1 0x100112
    ∷ accepted (file_as 0 0) (ask 0x100000 7 5 0 "a") FILE_OVERWRITTEN 0x20 1 0x100112
    ∷ accepted (file_as 0 0) (ask 0x100000 7 4 0 "a::$DATA") FILE_OVERWRITTEN 0x20 1 0x100112
    -- a named stream: no 0x110, no attribute
    ∷ accepted (file_as 0 0x1106) (attributed 0x21 (ask 0x100000 7 0 0 "a:s")) FILE_SUPERSEDED 0x1126 2 0x110000
    ∷ accepted (file_as 0 0x1106) (attributed 0x21 (ask 0x100000 7 4 0 "a:s")) FILE_OVERWRITTEN 0x1126 2 0x100002
    ∷ accepted (file_as 0 0x1106) (attributed 0x21 (ask 0x100000 7 5 0 "a:s")) FILE_OVERWRITTEN 0x1126 2 0x100002
    -- hidden and system, each not so asked
    ∷ refuses (file_as 0 2) (ask 1 7 0 0 "a") ACCESS_DENIED
    ∷ refuses (file_as 0 2) (ask 1 7 4 0 "a") ACCESS_DENIED
    ∷ refuses (file_as 0 2) (ask 1 7 5 0 "a::$DATA") ACCESS_DENIED
    ∷ refuses (file_as 0 2) (attributed 0x4 (ask 1 7 4 0 "a")) ACCESS_DENIED
    ∷ accepted (file_as 0 2) (attributed 0x2 (ask 1 7 4 0 "a")) FILE_OVERWRITTEN 0x22 1 0x113
    ∷ refuses (file_as 0 4) (ask 1 7 4 0 "a") ACCESS_DENIED
    ∷ refuses (file_as 0 4) (attributed 0x2 (ask 1 7 4 0 "a")) ACCESS_DENIED
    ∷ accepted (file_as 0 4) (attributed 0x4 (ask 1 7 4 0 "a")) FILE_OVERWRITTEN 0x24 1 0x113
    ∷ refuses (file_as 0 6) (attributed 0x2 (ask 1 7 4 0 "a")) ACCESS_DENIED
    ∷ refuses (file_as 0 6) (attributed 0x4 (ask 1 7 4 0 "a")) ACCESS_DENIED
    ∷ accepted (file_as 0 6) (attributed 0x6 (ask 1 7 0 0 "a")) FILE_SUPERSEDED 0x26 1 0x10111
    -- new attributes: asked plus 0x20 minus 0x2080, and nothing of the old ones
    ∷ accepted (file_as 0 0x1100) (ask 1 7 4 0 "a") FILE_OVERWRITTEN 0x20 1 0x113
    ∷ accepted (file_as 0 0) (attributed 0x1 (ask 1 7 4 0 "a")) FILE_OVERWRITTEN 0x21 1 0x113
    ∷ accepted (file_as 0 0) (attributed 0x2 (ask 1 7 4 0 "a")) FILE_OVERWRITTEN 0x22 1 0x113
    ∷ accepted (file_as 0 0) (attributed 0x4 (ask 1 7 4 0 "a")) FILE_OVERWRITTEN 0x24 1 0x113
    ∷ accepted (file_as 0 0) (attributed 0x20 (ask 1 7 4 0 "a")) FILE_OVERWRITTEN 0x20 1 0x113
    ∷ accepted (file_as 0 0) (attributed 0x80 (ask 1 7 4 0 "a")) FILE_OVERWRITTEN 0x20 1 0x113
    ∷ accepted (file_as 0 0) (attributed 0x100 (ask 1 7 4 0 "a")) FILE_OVERWRITTEN 0x120 1 0x113
    ∷ accepted (file_as 0 0) (attributed 0x1000 (ask 1 7 4 0 "a")) FILE_OVERWRITTEN 0x1020 1 0x113
    ∷ accepted (file_as 0 0) (attributed 0x2000 (ask 1 7 4 0 "a")) FILE_OVERWRITTEN 0x20 1 0x113
    ∷ accepted (file_as 0 0) (attributed 0x31A7 (ask 1 7 0 0 "a")) FILE_SUPERSEDED 0x1127 1 0x10111
    ∷ leaves (but 1 0x2000 (replicate 8 0x193) (file_as 0 0)) (ask 1 7 4 0 "a") (accepted_row FILE_OVERWRITTEN 2 0x113) (file_of 1 0x20 (replicate 8 0x193))
    ∷ leaves (but 1 0x2000 (replicate 8 0x193) (file_as 0 0)) (ask 1 7 4 0 "a:s") (accepted_row FILE_OVERWRITTEN 2 0x3) (file_of 1 0x2000 (replicate 8 0x193))
    ∷ []

-- the access gains its bits before the access rule and the sharing check
abbrev pub gained_cases : List Case
gained_cases =
    -- each gained bit is needed, and no other
    refuses (file_as 0x013 0) (by 1 (ask 1 7 4 0 "a")) ACCESS_DENIED
    ∷ refuses (file_as 0x103 0) (by 1 (ask 1 7 4 0 "a")) ACCESS_DENIED
    ∷ refuses (file_as 0x1F01FD 0) (by 1 (ask 1 7 4 0 "a")) ACCESS_DENIED
    ∷ refuses (file_as 0x1F01FD 0) (by 1 (ask 1 7 5 0 "a")) ACCESS_DENIED
    ∷ accepted (file_as 0x113 0) (by 1 (ask 1 7 5 0 "a")) FILE_OVERWRITTEN 0x20 1 0x113
    ∷ refuses (file_as 0x10011 0) (by 1 (ask 1 7 0 0 "a")) ACCESS_DENIED
    ∷ refuses (file_as 0x10101 0) (by 1 (ask 1 7 0 0 "a")) ACCESS_DENIED
    ∷ refuses (file_as 0x0F01FF 0) (by 1 (ask 0x100000 7 0 0 "a")) ACCESS_DENIED
    ∷ refuses (file_as 0x1E01FF 0) (by 1 (ask 1 7 0 0 "a")) ACCESS_DENIED
    ∷ accepted (file_as 0x10111 0) (by 1 (ask 1 7 0 0 "a")) FILE_SUPERSEDED 0x20 1 0x10111
    ∷ refuses (file_as 0x1F01FD 0) (by 1 (ask 1 7 4 0 "a:s")) ACCESS_DENIED
    ∷ accepted (file_as 0x3 0) (by 1 (ask 1 7 4 0 "a:s")) FILE_OVERWRITTEN 0x20 2 0x3
    ∷ refuses (file_as 0x1E01FF 0) (by 1 (ask 1 7 0 0 "a:s")) ACCESS_DENIED
    ∷ accepted (file_as 0x10001 0) (by 1 (ask 1 7 0 0 "a:s")) FILE_SUPERSEDED 0x20 2 0x10001
    -- beside 0x02000000
    ∷ refuses (file_as 0x111 0) (by 1 (ask 0x02000000 7 4 0 "a")) ACCESS_DENIED
    ∷ accepted (file_as 0x193 0) (by 1 (ask 0x02000000 7 4 0 "a")) FILE_OVERWRITTEN 0x20 1 0x193
    -- the file's attributes as they were: read-only takes 0x2 away, and not 0x10000
    ∷ refuses (file_as 0 1) (ask 1 7 4 0 "a") ACCESS_DENIED
    ∷ refuses (file_as 0 1) (ask 1 7 4 0 "a:s") ACCESS_DENIED
    ∷ accepted (file_as 0 1) (ask 1 7 0 0 "a") FILE_SUPERSEDED 0x20 1 0x10111
    ∷ accepted (file_as 0 1) (ask 1 7 0 0 "a:s") FILE_SUPERSEDED 0x21 2 0x10001
    -- sharing: the gained bits take part, after access and the hidden file
    ∷ refuses (after (makes "a" ∷ ask 1 5 1 0 "a" ∷ [])) (ask 0x80 7 4 0 "a") SHARING_VIOLATION
    ∷ refuses (after (makes "a" ∷ ask 1 3 1 0 "a" ∷ [])) (ask 0x80 7 0 0 "a") SHARING_VIOLATION
    ∷ accepts (after (makes "a" ∷ ask 1 2 1 0 "a" ∷ [])) (ask 0x80 7 4 0 "a") FILE_OVERWRITTEN (made 0 "a" 0x20 ∷ []) (stream 1 "" ∷ [])
    (entry 3 1 1 0x192 7 ∷ entry 2 1 1 1 2 ∷ entry 1 1 1 0x80 7 ∷ [])
    ∷ accepts (after (makes "a" ∷ ask 1 4 1 0 "a" ∷ [])) (ask 0x80 7 0 0 "a") FILE_SUPERSEDED (made 0 "a" 0x20 ∷ []) (stream 1 "" ∷ [])
    (entry 3 1 1 0x10190 7 ∷ entry 2 1 1 1 4 ∷ entry 1 1 1 0x80 7 ∷ [])
    ∷ refuses (after (attributed 2 (makes "a") ∷ ask 1 0 1 0 "a" ∷ [])) (ask 1 7 4 0 "a") ACCESS_DENIED
    ∷ refuses (from (0x1F01FF ∷ 1 ∷ replicate 6 0) (makes "a" ∷ ask 1 0 1 0 "a" ∷ [])) (by 1 (ask 1 7 4 0 "a")) ACCESS_DENIED
    ∷ []

-- the stream is missing: `a` has the stream `s`, and `t` is asked for
abbrev pub added : Start → Call → ℕ → ℕ → Case
added start call attributes granted =
    accepts start call FILE_CREATED (made 0 "a" attributes ∷ []) (stream 1 "" ∷ stream 1 "s" ∷ stream 1 "t" ∷ [])
    (entry 2 1 3 granted 0 ∷ entry 1 1 2 0x80 7 ∷ [])

abbrev pub missing_cases : List Case
missing_cases =
    -- open and overwrite, before the access rule
    each (1 ∷ 4 ∷ []) (λ d. refuses (file_as 0 0) (ask 1 7 d 0 "a:t") OBJECT_NAME_NOT_FOUND)
    ++ each (1 ∷ 4 ∷ []) (λ d. refuses (file_as 0 0) (by 1 (ask 1 7 d 0 "a:t")) OBJECT_NAME_NOT_FOUND)
    -- the others: 0x2 is gained, and nothing else; attributes asked, hidden and system are not looked at
    ++ each (0 ∷ 2 ∷ 3 ∷ 5 ∷ []) (λ d. added (file_as 0 0x1106) (attributed 0x21 (ask 0x100000 0 d 0 "a:t")) 0x1126 0x100002)
    ++ added (file_as 3 0) (by 1 (ask 1 0 0 0 "a:t")) 0x20 3
    ∷ added (file_as 3 0) (by 1 (ask 1 0 5 0 "a:t:$DATA")) 0x20 3
    ∷ added (file_as 0x83 0) (by 1 (ask 0x02000000 0 2 0 "a:t")) 0x20 0x83
    ∷ refuses (file_as 0x1F01FD 0) (by 1 (ask 1 0 2 0 "a:t")) ACCESS_DENIED
    ∷ refuses (file_as 2 0) (by 1 (ask 1 0 2 0 "a:t")) ACCESS_DENIED
    ∷ refuses (file_as 0 1) (ask 1 0 2 0 "a:t") ACCESS_DENIED
    -- a read-only volume, after the name is missed and after access
    ∷ refuses read_only (ask 1 0 1 0 "a:t") OBJECT_NAME_NOT_FOUND
    ∷ refuses read_only (by 1 (ask 1 0 3 0 "a:t")) ACCESS_DENIED
    ∷ refuses read_only (ask 1 0 3 0 "a:t") MEDIA_WRITE_PROTECTED
    -- the file gains 0x20, and keeps its other attributes and its masks
    ∷ leaves (but 1 0x3106 own (file_as 0 0)) (by 1 (ask 1 0 2 0 "a:t")) (accepted_row FILE_CREATED 2 3) (file_of 1 0x3126 own)
    -- an open of another stream is not looked at
    ∷ accepts (after (ask 1 0 2 0 "a" ∷ [])) (ask 1 0 2 0 "a:t") FILE_CREATED (made 0 "a" 0x20 ∷ []) (stream 1 "" ∷ stream 1 "t" ∷ [])
    (entry 2 1 2 3 0 ∷ entry 1 1 1 1 0 ∷ [])
    ∷ []
  where
    read_only : Start
    read_only = from (0x1F01FF ∷ 1 ∷ replicate 6 0) (makes "a" ∷ marks ∷ [])

    own : List ℕ
    own = 0x1 ∷ 0x3 ∷ 0x4 ∷ 0x8 ∷ 0x10 ∷ 0x20 ∷ 0x40 ∷ 0x80 ∷ []
