-- Step 10: a found directory.
use Rattle.std.specs.Prelude.{◌∷◌, ◌++◌}
use Rattle.base.specs.Base.{List, [], replicate}
use Rattle.store.specs.{StepCases.{Form.{Case, refuses, accepts, leaves, each, ask, by, attributed, close, from, masked, after, fresh, but, makes, makes_directory, made, stream, of_directory, entry, accepted_row, file_of}, Statuses.{ACCESS_DENIED, OBJECT_NAME_COLLISION, SHARING_VIOLATION, FILE_OPENED, FILE_OVERWRITTEN}}}

abbrev pub directory_cases : List Case
directory_cases =
    -- other dispositions: the root, another directory, before the access rule
    each (0 ∷ 2 ∷ 4 ∷ 5 ∷ []) (λ d. refuses fresh (ask 1 7 d 0 "") ACCESS_DENIED)
    ++ each (0 ∷ 2 ∷ 4 ∷ 5 ∷ []) (λ d. refuses (after (makes_directory "d" ∷ [])) (ask 1 7 d 0 "d") OBJECT_NAME_COLLISION)
    ++ refuses (after (makes_directory "d" ∷ [])) (ask 1 7 2 1 "d") OBJECT_NAME_COLLISION
    ∷ refuses (from (0x1F01FF ∷ replicate 7 0) (makes_directory "d" ∷ [])) (by 1 (ask 1 7 2 0 "d")) OBJECT_NAME_COLLISION
    -- open and open-if; attributes asked change nothing
    ∷ accepts (after (makes_directory "d" ∷ [])) (attributed 0x27 (ask 1 7 1 0 "d")) FILE_OPENED (made 0 "d" 0x10 ∷ []) (of_directory 1 ∷ [])
    (entry 2 1 1 1 7 ∷ entry 1 1 1 0x80 7 ∷ [])
    ∷ accepts (after (makes_directory "d" ∷ [])) (ask 1 7 3 0 "d") FILE_OPENED (made 0 "d" 0x10 ∷ []) (of_directory 1 ∷ [])
    (entry 2 1 1 1 7 ∷ entry 1 1 1 0x80 7 ∷ [])
    -- access by the account's mask on that directory, before sharing
    ∷ refuses (masked 0x81 []) (ask 2 7 1 0 "") ACCESS_DENIED
    ∷ refuses (from (0x1F01FF ∷ 0x81 ∷ replicate 6 0) (ask 1 0 1 0 "" ∷ [])) (by 1 (ask 2 7 1 0 "")) ACCESS_DENIED
    ∷ refuses (from (0x1F01FF ∷ 0x81 ∷ replicate 6 0) (ask 1 0 1 0 "" ∷ [])) (by 1 (ask 1 7 1 0 "")) SHARING_VIOLATION
    ∷ refuses (but 1 0x10 (replicate 8 1) (after (makes_directory "d" ∷ []))) (ask 2 7 1 0 "d") ACCESS_DENIED
    ∷ leaves (but 0 0x10 (replicate 8 1) (after (makes_directory "d" ∷ []))) (ask 2 7 1 0 "d") (accepted_row FILE_OPENED 2 2) (file_of 1 0x10 (replicate 8 0x1F01FF))
    ∷ []

-- share read, in a directory without any open
abbrev pub share_read_cases : List Case
share_read_cases =
    -- the mask lacks a bit of 0x120116
    each (0x120115 ∷ 0x120113 ∷ 0x120107 ∷ 0x120017 ∷ 0x100117 ∷ 0x020117 ∷ [])
    (λ mask. accepts (masked mask []) (ask 1 0 1 0 "") FILE_OPENED [] [] (entry 1 0 0 1 1 ∷ []))
    -- it lacks none: nothing is added or denied
    ++ accepts (masked 0x120117 []) (ask 1 0 1 0 "") FILE_OPENED [] [] (entry 1 0 0 1 0 ∷ [])
    ∷ accepts (masked 0x120116 []) (ask 2 0 1 0x20000 "") FILE_OPENED [] [] (entry 1 0 0 2 0 ∷ [])
    -- share read is offered, or the others are; by open-if too
    ∷ accepts (masked 1 []) (ask 1 1 1 0x20000 "") FILE_OPENED [] [] (entry 1 0 0 1 1 ∷ [])
    ∷ accepts (masked 1 []) (ask 1 6 1 0 "") FILE_OPENED [] [] (entry 1 0 0 1 7 ∷ [])
    ∷ accepts (masked 1 []) (ask 1 0 3 0 "") FILE_OPENED [] [] (entry 1 0 0 1 1 ∷ [])
    -- option 0x20000
    ∷ refuses (masked 1 []) (ask 1 0 1 0x20000 "") ACCESS_DENIED
    ∷ refuses (masked 1 []) (ask 1 6 1 0x20000 "") ACCESS_DENIED
    -- the other options don't deny
    ∷ accepts (masked 1 []) (ask 1 0 1 0xE "") FILE_OPENED [] [] (entry 1 0 0 1 1 ∷ [])
    ∷ accepts (masked 1 []) (ask 1 0 1 0x1 "") FILE_OPENED [] [] (entry 1 0 0 1 1 ∷ [])
    -- the account's mask, on that directory
    ∷ accepts (from (0x1F01FF ∷ 1 ∷ replicate 6 0) []) (by 1 (ask 1 0 1 0 "")) FILE_OPENED [] [] (entry 1 0 0 1 1 ∷ [])
    ∷ accepts (from (1 ∷ 0x1F01FF ∷ replicate 6 0) []) (by 1 (ask 1 0 1 0 "")) FILE_OPENED [] [] (entry 1 0 0 1 0 ∷ [])
    ∷ refuses (but 1 0x10 (replicate 8 1) (after (makes_directory "d" ∷ close 1 ∷ []))) (ask 1 0 1 0x20000 "d") ACCESS_DENIED
    -- an open on it, counted or not, is an open
    ∷ accepts (masked 0x81 (ask 0x80 0 1 0 "" ∷ [])) (ask 1 0 1 0 "") FILE_OPENED [] [] (entry 2 0 0 1 0 ∷ entry 1 0 0 0x80 1 ∷ [])
    ∷ accepts (masked 0x81 (ask 0x80 0 1 0 "" ∷ [])) (ask 1 0 1 0x20000 "") FILE_OPENED [] [] (entry 2 0 0 1 0 ∷ entry 1 0 0 0x80 1 ∷ [])
    ∷ accepts (masked 0x81 (ask 1 0 1 0 "" ∷ [])) (ask 0x80 0 1 0x20000 "") FILE_OPENED [] [] (entry 2 0 0 0x80 0 ∷ entry 1 0 0 1 1 ∷ [])
    ∷ refuses (masked 0x81 (ask 1 0 1 0 "" ∷ [])) (ask 1 0 1 0x20000 "") SHARING_VIOLATION
    ∷ accepts (masked 0x81 (ask 1 0 1 0 "" ∷ [])) (ask 1 1 1 0 "") FILE_OPENED [] [] (entry 2 0 0 1 1 ∷ entry 1 0 0 1 1 ∷ [])
    -- and then the mode that was asked for stays
    ∷ accepts (masked 0x81 (ask 0x80 0 1 0 "" ∷ [])) (ask 1 6 1 0 "") FILE_OPENED [] [] (entry 2 0 0 1 6 ∷ entry 1 0 0 0x80 1 ∷ [])
    ∷ accepts (masked 0x81 (ask 0x80 0 1 0 "" ∷ [])) (ask 1 6 1 0x20000 "") FILE_OPENED [] [] (entry 2 0 0 1 6 ∷ entry 1 0 0 0x80 1 ∷ [])
    -- closed again, it is none
    ∷ accepts (masked 0x81 (ask 0x80 0 1 0 "" ∷ close 1 ∷ [])) (ask 1 0 1 0 "") FILE_OPENED [] [] (entry 2 0 0 1 1 ∷ [])
    -- an open on another file is none
    ∷ accepts (masked 0x87 (makes_directory "d" ∷ [])) (ask 1 0 1 0 "") FILE_OPENED (made 0 "d" 0x10 ∷ []) (of_directory 1 ∷ [])
    (entry 2 0 0 1 1 ∷ entry 1 1 1 0x80 7 ∷ [])
    ∷ refuses (masked 0x87 (makes_directory "d" ∷ [])) (ask 1 0 1 0x20000 "") ACCESS_DENIED
    -- the same of a directory that is not the root, by its file number
    ∷ accepts (masked 0x87 (makes "a:s" ∷ makes_directory "d" ∷ close 1 ∷ [])) (ask 1 0 1 0 "d") FILE_OPENED
    (made 0 "a" 0x20 ∷ made 0 "d" 0x10 ∷ [])
    (stream 1 "" ∷ stream 1 "s" ∷ of_directory 2 ∷ [])
    (entry 3 2 3 1 0 ∷ entry 2 2 3 0x80 7 ∷ [])
    ∷ accepts (masked 0x87 (makes_directory "d" ∷ close 1 ∷ ask 0x80 7 1 0 "" ∷ [])) (ask 1 0 1 0 "d") FILE_OPENED (made 0 "d" 0x10 ∷ [])
    (of_directory 1 ∷ [])
    (entry 3 1 1 1 1 ∷ entry 2 0 0 0x80 7 ∷ [])
    -- a data file's open is left as it is, opened or replaced
    ∷ accepts (masked 0x193 (makes "a" ∷ close 1 ∷ [])) (ask 1 0 4 0x20000 "a") FILE_OVERWRITTEN (made 0 "a" 0x20 ∷ []) (stream 1 "" ∷ [])
    (entry 2 1 1 0x113 0 ∷ [])
    ∷ accepts (masked 0x193 (makes "a" ∷ close 1 ∷ [])) (ask 1 0 5 0 "a") FILE_OVERWRITTEN (made 0 "a" 0x20 ∷ []) (stream 1 "" ∷ [])
    (entry 2 1 1 0x113 0 ∷ [])
    ∷ accepts (masked 0x83 (makes "a" ∷ close 1 ∷ [])) (ask 1 0 1 0 "a") FILE_OPENED (made 0 "a" 0x20 ∷ []) (stream 1 "" ∷ [])
    (entry 2 1 1 1 0 ∷ [])
    ∷ accepts (masked 0x83 (makes "a" ∷ close 1 ∷ [])) (ask 1 0 1 0x20000 "a") FILE_OPENED (made 0 "a" 0x20 ∷ []) (stream 1 "" ∷ [])
    (entry 2 1 1 1 0 ∷ [])
    ∷ []
