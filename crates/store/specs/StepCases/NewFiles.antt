-- Step 9: a new file.
use Rattle.std.specs.Prelude.{◌∷◌}
use Rattle.base.specs.Base.{ℕ, List, [], replicate}
use Rattle.store.specs.{StepCases.{Form.{Case, Start, refuses, accepts, leaves, ask, by, attributed, from, masked, after, fresh, but, makes, makes_directory, marks, made, stream, of_directory, entry, accepted_row, file_of}, Statuses.{INVALID_PARAMETER, ACCESS_DENIED, MEDIA_WRITE_PROTECTED, FILE_CREATED}}}

-- a new file, a new directory: from a start without files, asked with attributes, access and share; its attributes and
-- granted access
abbrev pub new_file : Start → ℕ → ℕ → ℕ → ℕ → ℕ → Case
new_file start asked access share attributes granted =
    accepts start (attributed asked (ask access share 2 0 "a")) FILE_CREATED (made 0 "a" attributes ∷ []) (stream 1 "" ∷ [])
    (entry 1 1 1 granted share ∷ [])

abbrev pub new_directory : Start → ℕ → ℕ → ℕ → ℕ → ℕ → Case
new_directory start asked access share attributes granted =
    accepts start (attributed asked (ask access share 2 1 "d")) FILE_CREATED (made 0 "d" attributes ∷ []) (of_directory 1 ∷ [])
    (entry 1 1 1 granted share ∷ [])

abbrev pub new_file_cases : List Case
new_file_cases =
    -- a directory with attribute 0x100, before the parent's mask and after step 7
    refuses fresh (attributed 0x100 (ask 1 7 2 1 "d")) INVALID_PARAMETER
    ∷ refuses (masked 0 []) (attributed 0x100 (ask 1 7 2 1 "d")) INVALID_PARAMETER
    ∷ refuses (after (marks ∷ [])) (attributed 0x100 (ask 1 7 3 1 "d")) MEDIA_WRITE_PROTECTED
    -- the parent's mask lacks 0x2 for a file, 0x4 for a directory
    ∷ new_file (masked 0x2 []) 0 1 7 0x20 1
    ∷ refuses (masked 0x1F01FD []) (ask 1 7 2 0 "a") ACCESS_DENIED
    ∷ new_directory (masked 0x4 []) 0 1 7 0x10 1
    ∷ refuses (masked 0x1F01FB []) (ask 1 7 2 1 "d") ACCESS_DENIED
    ∷ refuses (masked 0x1F01FD []) (ask 1 7 0 0 "a") ACCESS_DENIED
    ∷ refuses (masked 0x1F01FD []) (ask 1 7 3 0 "a:s") ACCESS_DENIED
    ∷ refuses (masked 0x1F01FD []) (ask 1 7 5 0 "a") ACCESS_DENIED
    -- the account's mask
    ∷ refuses (from (2 ∷ 4 ∷ replicate 6 0) []) (by 1 (ask 1 7 2 0 "a")) ACCESS_DENIED
    ∷ refuses (from (2 ∷ 4 ∷ replicate 6 0) []) (ask 1 7 2 1 "d") ACCESS_DENIED
    ∷ accepts (from (4 ∷ 2 ∷ replicate 6 0) []) (by 1 (ask 1 7 2 0 "a")) FILE_CREATED (made 0 "a" 0x20 ∷ []) (stream 1 "" ∷ [])
    (entry 1 1 1 1 7 ∷ [])
    -- granted: the access asked, whatever the mask, or 0x1F01FF with 0x02000000
    ∷ new_file (masked 0x2 []) 0 0x1F01FF 0 0x20 0x1F01FF
    ∷ new_file (masked 0x2 []) 0 0x100080 0 0x20 0x100080
    ∷ new_file (masked 0x2 []) 0 0x02000000 3 0x20 0x1F01FF
    ∷ new_file (masked 0x2 []) 0 0x02000001 5 0x20 0x1F01FF
    ∷ new_directory (masked 0x4 []) 0 0x02000000 0 0x10 0x1F01FF
    -- share read is not added to a new directory's open
    ∷ new_directory (masked 0x4 []) 0 1 0 0x10 1
    ∷ new_directory (masked 0x4 []) 0 1 6 0x10 1
    -- attributes: each bit asked, for a file and for a directory
    ∷ new_file fresh 0x1 1 7 0x21 1
    ∷ new_file fresh 0x2 1 7 0x22 1
    ∷ new_file fresh 0x4 1 7 0x24 1
    ∷ new_file fresh 0x20 1 7 0x20 1
    ∷ new_file fresh 0x80 1 7 0x20 1
    ∷ new_file fresh 0x100 1 7 0x120 1
    ∷ new_file fresh 0x1000 1 7 0x1020 1
    ∷ new_file fresh 0x2000 1 7 0x20 1
    ∷ new_file fresh 0x31A7 1 7 0x1127 1
    ∷ new_directory fresh 0x1 1 7 0x11 1
    ∷ new_directory fresh 0x2 1 7 0x12 1
    ∷ new_directory fresh 0x4 1 7 0x14 1
    ∷ new_directory fresh 0x20 1 7 0x30 1
    ∷ new_directory fresh 0x80 1 7 0x10 1
    ∷ new_directory fresh 0x1000 1 7 0x1010 1
    ∷ new_directory fresh 0x2000 1 7 0x10 1
    ∷ new_directory fresh 0x30A7 1 7 0x1037 1
    -- a file named with a stream name gets the empty-named stream first; the open is on its own
    ∷ accepts fresh (ask 1 7 2 0 "a:s") FILE_CREATED (made 0 "a" 0x20 ∷ []) (stream 1 "" ∷ stream 1 "s" ∷ []) (entry 1 1 2 1 7 ∷ [])
    ∷ accepts fresh (ask 1 7 2 0 "a::$DATA") FILE_CREATED (made 0 "a" 0x20 ∷ []) (stream 1 "" ∷ []) (entry 1 1 1 1 7 ∷ [])
    -- the lowest free slots, in another directory
    ∷ accepts (after (makes "a:s" ∷ makes_directory "d" ∷ [])) (attributed 0x2 (ask 1 0 2 0 "d\\b:t")) FILE_CREATED
    (made 0 "a" 0x20 ∷ made 0 "d" 0x10 ∷ made 2 "b" 0x22 ∷ [])
    (stream 1 "" ∷ stream 1 "s" ∷ of_directory 2 ∷ stream 3 "" ∷ stream 3 "t" ∷ [])
    (entry 3 3 5 1 0 ∷ entry 2 2 3 0x80 7 ∷ entry 1 1 2 0x80 7 ∷ [])
    ∷ []

-- what a parent leaves to a new file, where it is not as format made the root
abbrev pub parent_cases : List Case
parent_cases =
    -- bit 0x2000 as the parent's, asked or not, and no other bit
    leaves (but 0 0x2010 all fresh) (ask 1 7 2 0 "a") (accepted_row FILE_CREATED 1 1) (file_of 1 0x2020 all)
    ∷ leaves (but 0 0x2010 all fresh) (attributed 0x2000 (ask 1 7 2 0 "a")) (accepted_row FILE_CREATED 1 1) (file_of 1 0x2020 all)
    ∷ leaves (but 0 0x2010 all fresh) (ask 1 7 2 1 "d") (accepted_row FILE_CREATED 1 1) (file_of 1 0x2010 all)
    ∷ leaves (but 0 0x3137 all fresh) (ask 1 7 2 0 "a") (accepted_row FILE_CREATED 1 1) (file_of 1 0x2020 all)
    ∷ leaves (but 0 0x1137 all fresh) (attributed 0x2004 (ask 1 7 2 0 "a")) (accepted_row FILE_CREATED 1 1) (file_of 1 0x24 all)
    -- the parent's, not the root's
    ∷ leaves (but 1 0x2010 all below) (ask 1 7 2 0 "d\\a") (accepted_row FILE_CREATED 2 1) (file_of 2 0x2020 all)
    ∷ leaves (but 0 0x2010 all below) (ask 1 7 2 0 "d\\a") (accepted_row FILE_CREATED 2 1) (file_of 2 0x20 all)
    -- masks copy the parent's; the parent's mask decides, of the account
    ∷ leaves (but 1 0x10 own below) (by 1 (ask 1 7 2 0 "d\\a")) (accepted_row FILE_CREATED 2 1) (file_of 2 0x20 own)
    ∷ leaves (but 1 0x10 own below) (by 2 (ask 1 7 2 1 "d\\e")) (accepted_row FILE_CREATED 2 1) (file_of 2 0x10 own)
    ∷ refuses (but 1 0x10 own below) (ask 1 7 2 0 "d\\a") ACCESS_DENIED
    ∷ refuses (but 1 0x10 own below) (by 1 (ask 1 7 2 1 "d\\e")) ACCESS_DENIED
    ∷ []
  where
    all : List ℕ
    all = replicate 8 0x1F01FF

    own : List ℕ
    own = 0x1F01F9 ∷ 0x2 ∷ 0x4 ∷ 0x8 ∷ 0x10 ∷ 0x20 ∷ 0x40 ∷ 0x80 ∷ []

    below : Start
    below = after (makes_directory "d" ∷ [])
