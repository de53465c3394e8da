-- Delete on close asked for: option 0x1000 in step 1, and CANNOT_DELETE in step 9 and after the access rule.
use Rattle.std.specs.Prelude.{◌∷◌, ◌++◌}
use Rattle.base.specs.Base.{ℕ, List, [], replicate, Open}
use Rattle.store.specs.{Calls.Call, StepCases.{Form.{Case, Start, refuses, accepts, each, ask, by, attributed, from, masked, after, fresh, makes, makes_directory, deletes, makes_deleting, makes_directory_deleting, marks, made, stream, of_directory, entry, deleting}, Statuses.{INVALID_PARAMETER, ACCESS_DENIED, OBJECT_NAME_NOT_FOUND, OBJECT_NAME_COLLISION, MEDIA_WRITE_PROTECTED, SHARING_VIOLATION, CANNOT_DELETE, FILE_SUPERSEDED, FILE_OPENED, FILE_CREATED, FILE_OVERWRITTEN}, Streams.file_as}}

-- step 1, and how the open is stored
abbrev pub delete_option_cases : List Case
delete_option_cases =
    -- without access 0x10000: other access, 0x02000000 alone, every other bit; the access asked, not what a supersede gains
    (refuses fresh (ask 1 7 2 0x1000 "a") INVALID_PARAMETER
    ∷ refuses fresh (ask 0x02000000 7 2 0x1000 "a") INVALID_PARAMETER
    ∷ refuses fresh (ask 0x021E01FF 7 2 0x1000 "a") INVALID_PARAMETER
    ∷ refuses fresh (ask 1 7 2 0x1001 "d") INVALID_PARAMETER
    ∷ refuses fresh (ask 0x02000000 7 1 0x1000 "") INVALID_PARAMETER
    ∷ refuses (after (makes "a" ∷ [])) (ask 1 7 0 0x1000 "a") INVALID_PARAMETER
    -- 1 before 2 and before 4; with 0x10000, 2 refuses
    ∷ refuses fresh (ask 0 7 1 0x1000 "") INVALID_PARAMETER
    ∷ refuses fresh (ask 1 7 1 0x1000 ":") INVALID_PARAMETER
    ∷ refuses fresh (ask 0x10200 7 1 0x1000 ":") ACCESS_DENIED
    -- with 0x10000, alone, beside 0x02000000, beside the other options; a directory
    ∷ makes_one (makes_deleting "a") 0x10000
    ∷ makes_one (ask 0x02010000 7 2 0x1000 "a") 0x1F01FF
    ∷ makes_one (ask 0x10000 7 2 0x2104E "a") 0x10000
    ∷ accepts fresh (ask 0x10000 7 2 0x1003 "d") FILE_CREATED (made 0 "d" 0x10 ∷ []) (of_directory 1 ∷ []) (deleting (entry 1 1 1 0x10000 7) ∷ [])
    ∷ accepts fresh (makes_deleting "a:s") FILE_CREATED (made 0 "a" 0x20 ∷ []) (stream 1 "" ∷ stream 1 "s" ∷ [])
    (deleting (entry 1 1 2 0x10000 7) ∷ [])
    -- 0x10000 without the option deletes nothing
    ∷ accepts fresh (ask 0x10000 7 2 0 "a") FILE_CREATED (made 0 "a" 0x20 ∷ []) (stream 1 "" ∷ []) (entry 1 1 1 0x10000 7 ∷ [])
    ∷ [])
    -- options outside 0x2104F, beside 0x1000 and alone
    ++ each (0x10 ∷ 0x20 ∷ 0x80 ∷ 0x100 ∷ 0x200 ∷ 0x400 ∷ 0x800 ∷ 0x2000 ∷ 0x4000 ∷ 0x8000 ∷ 0x10000 ∷ 0x40000 ∷ [])
    (λ options. refuses fresh (ask 0x10000 7 2 options "a") INVALID_PARAMETER)
    ++ each (0x1010 ∷ 0x1020 ∷ 0x1080 ∷ 0x1100 ∷ 0x1200 ∷ 0x1400 ∷ 0x1800 ∷ 0x3000 ∷ 0x5000 ∷ 0x9000 ∷ 0x11000 ∷ 0x41000 ∷ [])
    (λ options. refuses fresh (ask 0x10000 7 2 options "a") INVALID_PARAMETER)
  where
    makes_one : Call → ℕ → Case
    makes_one call granted =
        accepts fresh call FILE_CREATED (made 0 "a" 0x20 ∷ []) (stream 1 "" ∷ []) (deleting (entry 1 1 1 granted 7) ∷ [])

-- step 9: a new file with attribute 0x1
abbrev pub cannot_delete_new_cases : List Case
cannot_delete_new_cases =
    -- by the attributes asked: a file, one with a stream name, a directory
    each (0 ∷ 2 ∷ 3 ∷ 5 ∷ []) (λ d. refuses fresh (attributed 0x1 (ask 0x10000 7 d 0x1000 "a")) CANNOT_DELETE)
    ++ refuses fresh (attributed 0x1 (makes_deleting "a:s")) CANNOT_DELETE
    ∷ refuses fresh (attributed 0x1 (makes_directory_deleting "d")) CANNOT_DELETE
    ∷ refuses fresh (attributed 0x31A7 (makes_deleting "a")) CANNOT_DELETE
    -- every other attribute, and the parent's, are not looked at
    ∷ accepts fresh (attributed 0x31A6 (makes_deleting "a")) FILE_CREATED (made 0 "a" 0x1126 ∷ []) (stream 1 "" ∷ [])
    (deleting (entry 1 1 1 0x10000 7) ∷ [])
    ∷ accepts (after (attributed 0x1 (makes_directory "d") ∷ [])) (makes_deleting "d\\a") FILE_CREATED
    (made 0 "d" 0x11 ∷ made 1 "a" 0x20 ∷ [])
    (of_directory 1 ∷ stream 2 "" ∷ [])
    (deleting (entry 2 2 2 0x10000 7) ∷ entry 1 1 1 0x80 7 ∷ [])
    -- without the option it is made
    ∷ accepts fresh (attributed 0x1 (ask 0x10000 7 2 0 "a")) FILE_CREATED (made 0 "a" 0x21 ∷ []) (stream 1 "" ∷ [])
    (entry 1 1 1 0x10000 7 ∷ [])
    -- after step 7, and after attribute 0x100 of a directory
    ∷ refuses fresh (attributed 0x1 (deletes "a")) OBJECT_NAME_NOT_FOUND
    ∷ refuses (after (marks ∷ [])) (attributed 0x1 (ask 0x10000 7 3 0x1000 "a")) MEDIA_WRITE_PROTECTED
    ∷ refuses fresh (attributed 0x101 (makes_directory_deleting "d")) INVALID_PARAMETER
    ∷ refuses fresh (attributed 0x101 (makes_deleting "a")) CANNOT_DELETE
    -- before the parent's mask
    ∷ refuses (masked 0x1F01FD []) (attributed 0x1 (makes_deleting "a")) CANNOT_DELETE
    ∷ refuses (masked 0x1F01FB []) (attributed 0x1 (makes_directory_deleting "d")) CANNOT_DELETE
    ∷ refuses (masked 0x1F01FD []) (makes_deleting "a") ACCESS_DENIED
    ∷ []

-- after the access rule: a directory, and the root always
abbrev pub cannot_delete_directory_cases : List Case
cannot_delete_directory_cases =
    each (1 ∷ 3 ∷ []) (λ d. refuses (one 0x1) (ask 0x10000 7 d 0x1000 "d") CANNOT_DELETE)
    ++ each (1 ∷ 3 ∷ []) (λ d. refuses fresh (ask 0x10000 7 d 0x1000 "") CANNOT_DELETE)
    ++ refuses (one 0x1) (ask 0x10000 7 1 0x1001 "d") CANNOT_DELETE
    ∷ refuses fresh (ask 0x02010000 7 1 0x1001 "\\") CANNOT_DELETE
    -- by the directory's attributes: not those asked, and none but 0x1
    ∷ opens (one 0x6) (deletes "d") 0x16 (deleting (entry 2 1 1 0x10000 7))
    ∷ opens (one 0) (attributed 0x1 (deletes "d")) 0x10 (deleting (entry 2 1 1 0x10000 7))
    -- without the option
    ∷ opens (one 0x1) (ask 0x10000 7 1 0 "d") 0x11 (entry 2 1 1 0x10000 7)
    ∷ accepts fresh (ask 0x10000 7 1 0 "") FILE_OPENED [] [] (entry 1 0 0 0x10000 7 ∷ [])
    -- the access rule first, and the other dispositions before it
    ∷ refuses (one 0x1) (by 1 (deletes "d")) ACCESS_DENIED
    ∷ refuses (one 0x1) (by 1 (deletes "")) ACCESS_DENIED
    ∷ refuses (one 0x1) (ask 0x10000 7 2 0x1000 "d") OBJECT_NAME_COLLISION
    ∷ refuses fresh (ask 0x10000 7 2 0x1000 "") ACCESS_DENIED
    -- before sharing, and before share read is denied
    ∷ refuses (after (attributed 0x1 (ask 1 0 2 1 "d") ∷ [])) (deletes "d") CANNOT_DELETE
    ∷ refuses (after (ask 1 0 2 1 "d" ∷ [])) (deletes "d") SHARING_VIOLATION
    ∷ refuses (after (ask 1 0 1 0 "" ∷ [])) (deletes "") CANNOT_DELETE
    ∷ refuses (masked 0x10000 []) (ask 0x10000 0 1 0x21000 "") CANNOT_DELETE
    ∷ []
  where
    -- `d`, asked for with attributes; account 1 lacks 0x10000
    one : ℕ → Start
    one attributes = from (0x1F01FF ∷ 0x1E01FF ∷ replicate 6 0) (attributed attributes (makes_directory "d") ∷ [])

    opens : Start → Call → ℕ → Open → Case
    opens start call attributes o =
        accepts start call FILE_OPENED (made 0 "d" attributes ∷ []) (of_directory 1 ∷ []) (o ∷ entry 1 1 1 0x80 7 ∷ [])

-- after the access rule: a stream, by its file's attributes as they were
abbrev pub cannot_delete_stream_cases : List Case
cannot_delete_stream_cases =
    -- open, open-if and supersede, unnamed and named, with new attributes or without
    each (0 ∷ 1 ∷ 3 ∷ []) (λ d. refuses (file_as 0 0x1) (ask 0x10000 7 d 0x1000 "a") CANNOT_DELETE)
    ++ each (0 ∷ 1 ∷ 3 ∷ []) (λ d. refuses (file_as 0 0x1) (ask 0x10000 7 d 0x1000 "a:s") CANNOT_DELETE)
    ++ refuses (file_as 0 0x1) (ask 0x02010000 7 1 0x1040 "a::$DATA") CANNOT_DELETE
    -- not by those asked, and by none but 0x1: the file that is made read-only by the open goes
    ∷ opens (file_as 0 0x1106) (deletes "a") FILE_OPENED 0x1126 1 0x10000
    ∷ opens (file_as 0 0x1106) (deletes "a:s") FILE_OPENED 0x1126 2 0x10000
    ∷ opens (file_as 0 0) (attributed 0x1 (deletes "a")) FILE_OPENED 0x20 1 0x10000
    ∷ opens (file_as 0 0) (attributed 0x1 (ask 0x10000 7 0 0x1000 "a")) FILE_SUPERSEDED 0x21 1 0x10110
    ∷ opens (file_as 0 0) (attributed 0x1 (ask 0x10000 7 4 0x1000 "a")) FILE_OVERWRITTEN 0x21 1 0x10112
    ∷ opens (file_as 0 0) (attributed 0x1 (ask 0x10000 7 5 0x1000 "a:s")) FILE_OVERWRITTEN 0x20 2 0x10002
    -- without the option
    ∷ accepts (file_as 0 0x1) (ask 0x10000 7 1 0 "a") FILE_OPENED (made 0 "a" 0x21 ∷ []) (stream 1 "" ∷ stream 1 "s" ∷ [])
    (entry 2 1 1 0x10000 7 ∷ entry 1 1 2 0x80 7 ∷ [])
    -- the access rule first: by the mask; by 0x2, which an overwrite and a missing stream gain and a read-only file refuses
    ∷ refuses (file_as 0x1E01FF 0x1) (by 1 (deletes "a")) ACCESS_DENIED
    ∷ refuses (file_as 0x1E01FF 0x1) (by 1 (deletes "a:s")) ACCESS_DENIED
    ∷ refuses (file_as 0 0x1) (ask 0x10000 7 4 0x1000 "a") ACCESS_DENIED
    ∷ refuses (file_as 0 0x1) (ask 0x10000 7 5 0x1000 "a:s") ACCESS_DENIED
    ∷ refuses (file_as 0 0x1) (ask 0x10000 7 2 0x1000 "a:t") ACCESS_DENIED
    ∷ refuses (after (attributed 0x1 (makes "a") ∷ marks ∷ [])) (ask 0x10000 7 3 0x1000 "a:t") ACCESS_DENIED
    -- after COLLISION, and after the hidden file
    ∷ refuses (file_as 0 0x1) (makes_deleting "a") OBJECT_NAME_COLLISION
    ∷ refuses (file_as 0 0x3) (ask 0x10000 7 0 0x1000 "a") ACCESS_DENIED
    ∷ refuses (file_as 0 0x3) (attributed 0x2 (ask 0x10000 7 0 0x1000 "a")) CANNOT_DELETE
    -- before sharing
    ∷ refuses (after (attributed 0x1 (ask 1 0 2 0 "a") ∷ [])) (deletes "a") CANNOT_DELETE
    ∷ refuses (after (ask 1 0 2 0 "a" ∷ [])) (deletes "a") SHARING_VIOLATION
    ∷ refuses (after (attributed 0x1 (ask 1 0 2 0 "a:s") ∷ [])) (deletes "a:s") CANNOT_DELETE
    -- after the access rule, by 0x2 that is asked
    ∷ refuses (after (attributed 0x1 (makes "a") ∷ [])) (ask 0x10002 7 1 0x1000 "a") ACCESS_DENIED
    -- a missing stream of a file that may go; the read-only volume refuses it
    ∷ accepts (file_as 0 0) (makes_deleting "a:t") FILE_CREATED (made 0 "a" 0x20 ∷ []) (stream 1 "" ∷ stream 1 "s" ∷ stream 1 "t" ∷ [])
    (deleting (entry 2 1 3 0x10002 7) ∷ entry 1 1 2 0x80 7 ∷ [])
    ∷ refuses (after (makes "a" ∷ marks ∷ [])) (ask 0x10000 7 3 0x1000 "a:t") MEDIA_WRITE_PROTECTED
    -- what is there is opened on a read-only volume
    ∷ accepts (after (makes "a" ∷ marks ∷ [])) (deletes "a") FILE_OPENED (made 0 "a" 0x20 ∷ []) (stream 1 "" ∷ [])
    (deleting (entry 2 1 1 0x10000 7) ∷ entry 1 1 1 0x80 7 ∷ [])
    ∷ []
  where
    opens : Start → Call → ℕ → ℕ → ℕ → ℕ → Case
    opens start call action attributes s granted =
        accepts start call action (made 0 "a" attributes ∷ []) (stream 1 "" ∷ stream 1 "s" ∷ [])
        (deleting (entry 2 1 s granted 7) ∷ entry 1 1 2 0x80 7 ∷ [])
