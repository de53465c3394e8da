-- The access rule and the sharing rule.
use Rattle.std.specs.Prelude.{◌∷◌, ◌++◌}
use Rattle.base.specs.Base.{ℕ, List, [], replicate}
use Rattle.store.specs.{StepCases.{Form.{Case, refuses, accepts, leaves, each, ask, by, attributed, close, from, masked, after, but, makes, makes_directory, made, stream, of_directory, entry, accepted_row, file_of}, Statuses.{ACCESS_DENIED, SHARING_VIOLATION, FILE_OPENED}}}

-- an open of the root by the mask, with its granted access
abbrev pub root_opened : ℕ → ℕ → ℕ → Case
root_opened mask access granted = accepts (masked mask []) (ask access 7 1 0 "") FILE_OPENED [] [] (entry 1 0 0 granted 7 ∷ [])

-- an open of the file `a` with the attributes by account 1, which has the mask
abbrev pub file_opened : ℕ → ℕ → ℕ → ℕ → Case
file_opened attributes mask access granted =
    accepts (from (0x1F01FF ∷ mask ∷ replicate 6 0) (attributed attributes (makes "a") ∷ [])) (by 1 (ask access 7 1 0 "a")) FILE_OPENED
    (made 0 "a" attributes ∷ [])
    (stream 1 "" ∷ [])
    (entry 2 1 1 granted 7 ∷ entry 1 1 1 0x80 7 ∷ [])

abbrev pub file_denied : ℕ → ℕ → ℕ → Case
file_denied attributes mask access =
    refuses (from (0x1F01FF ∷ mask ∷ replicate 6 0) (attributed attributes (makes "a") ∷ [])) (by 1 (ask access 7 1 0 "a")) ACCESS_DENIED

abbrev pub access_cases : List Case
access_cases =
    -- need within the mask: granted is need
    root_opened 0x81 0x80 0x80
    ∷ root_opened 0x81 0x81 0x81
    ∷ refuses (masked 0x81 []) (ask 0x83 7 1 0 "") ACCESS_DENIED
    -- 0x02000000 alone and beside other bits: granted is the mask
    ∷ root_opened 0x81 0x02000000 0x81
    ∷ root_opened 0x81 0x02000001 0x81
    ∷ refuses (masked 0x81 []) (ask 0x02000002 7 1 0 "") ACCESS_DENIED
    -- the mask is empty
    ∷ refuses (masked 0 []) (ask 0x02000000 7 1 0 "") ACCESS_DENIED
    ∷ refuses (masked 0 []) (ask 1 7 1 0 "") ACCESS_DENIED
    -- a data file with attribute 0x1: the mask less 0x6
    ∷ file_denied 0x21 0x1F01FF 0x2
    ∷ file_denied 0x21 0x1F01FF 0x4
    ∷ file_denied 0x21 0x1F01FF 0x02000004
    ∷ file_opened 0x21 0x1F01FF 0x1F01F9 0x1F01F9
    ∷ file_opened 0x21 0x1F01FF 0x02000000 0x1F01F9
    ∷ file_denied 0x21 0x6 0x02000000
    -- other attributes; and without 0x1
    ∷ file_opened 0x1126 0x1F01FF 0x6 0x6
    ∷ file_opened 0x20 0x6 0x02000000 0x6
    ∷ file_opened 0x20 0x1F01FF 0x02000000 0x1F01FF
    -- a directory with attribute 0x1
    ∷ accepts (after (attributed 1 (makes_directory "d") ∷ [])) (ask 6 7 1 0 "d") FILE_OPENED (made 0 "d" 0x11 ∷ []) (of_directory 1 ∷ [])
    (entry 2 1 1 6 7 ∷ entry 1 1 1 0x80 7 ∷ [])
    -- the account's mask
    ∷ file_opened 0x20 0x81 0x02000000 0x81
    ∷ file_denied 0x20 0x81 0x2
    ∷ refuses (from (0x81 ∷ replicate 7 0) []) (by 7 (ask 1 7 1 0 "")) ACCESS_DENIED
    -- the mask on that file
    ∷ refuses (but 1 0x20 (replicate 8 2) (after (makes "a" ∷ []))) (ask 1 7 1 0 "a") ACCESS_DENIED
    ∷ leaves (but 1 0x20 (replicate 8 2) (after (makes "a" ∷ []))) (ask 0x02000000 7 1 0 "a") (accepted_row FILE_OPENED 2 2) (file_of 1 0x20 (replicate 8 2))
    ∷ []

-- `a` has an open with this access and share, and another is asked for: it passes, or it conflicts
abbrev pub passes : ℕ → ℕ → ℕ → ℕ → Case
passes access share access' share' =
    accepts (after (makes "a" ∷ ask access share 1 0 "a" ∷ [])) (ask access' share' 1 0 "a") FILE_OPENED (made 0 "a" 0x20 ∷ [])
    (stream 1 "" ∷ [])
    (entry 3 1 1 access' share' ∷ entry 2 1 1 access share ∷ entry 1 1 1 0x80 7 ∷ [])

abbrev pub conflicts : ℕ → ℕ → ℕ → ℕ → Case
conflicts access share access' share' =
    refuses (after (makes "a" ∷ ask access share 1 0 "a" ∷ [])) (ask access' share' 1 0 "a") SHARING_VIOLATION

abbrev pub sharing_cases : List Case
sharing_cases =
    -- the open that is there has a kind that the new one doesn't share, or alone shares
    each (0x1 ∷ 0x20 ∷ []) (λ bit. conflicts bit 7 2 6)
    ++ each (0x1 ∷ 0x20 ∷ []) (λ bit. passes bit 7 2 1)
    ++ each (0x2 ∷ 0x4 ∷ []) (λ bit. conflicts bit 7 1 5)
    ++ each (0x2 ∷ 0x4 ∷ []) (λ bit. passes bit 7 1 2)
    ++ conflicts 0x10000 7 1 3
    ∷ passes 0x10000 7 1 4
    ∷ []
    -- the new one has a kind that the open that is there doesn't share, or alone shares
    ++ each (0x1 ∷ 0x20 ∷ []) (λ bit. conflicts 2 6 bit 7)
    ++ each (0x1 ∷ 0x20 ∷ []) (λ bit. passes 2 1 bit 7)
    ++ each (0x2 ∷ 0x4 ∷ []) (λ bit. conflicts 1 5 bit 7)
    ++ each (0x2 ∷ 0x4 ∷ []) (λ bit. passes 1 2 bit 7)
    ++ conflicts 1 3 0x10000 7
    ∷ passes 1 4 0x10000 7
    -- the same kind on both sides
    ∷ passes 1 1 1 1
    ∷ conflicts 1 0 1 1
    ∷ conflicts 1 1 1 0
    -- an uncounted open conflicts with nobody: every bit that is none of the three kinds
    ∷ passes 0x1E01D8 0 0x1F01FF 0
    ∷ passes 0x1F01FF 0 0x1E01D8 0
    -- with each entry, the newest and an older one
    ∷ refuses (after (makes "a" ∷ ask 1 7 1 0 "a" ∷ ask 1 1 1 0 "a" ∷ [])) (ask 2 7 1 0 "a") SHARING_VIOLATION
    ∷ refuses (after (makes "a" ∷ ask 1 1 1 0 "a" ∷ ask 1 7 1 0 "a" ∷ [])) (ask 2 7 1 0 "a") SHARING_VIOLATION
    -- on the stream alone: another stream of the file, another file
    ∷ accepts (after (ask 1 0 2 0 "a:s" ∷ [])) (ask 1 0 1 0 "a") FILE_OPENED (made 0 "a" 0x20 ∷ []) (stream 1 "" ∷ stream 1 "s" ∷ [])
    (entry 2 1 1 1 0 ∷ entry 1 1 2 1 0 ∷ [])
    ∷ accepts (after (ask 1 0 2 0 "a" ∷ [])) (ask 1 0 1 0 "") FILE_OPENED (made 0 "a" 0x20 ∷ []) (stream 1 "" ∷ [])
    (entry 2 0 0 1 0 ∷ entry 1 1 1 1 0 ∷ [])
    -- the new open is judged by its granted access
    ∷ refuses (from (0x1F01FF ∷ 0x81 ∷ replicate 6 0) (makes "a" ∷ ask 1 1 1 0 "a" ∷ [])) (ask 0x02000000 7 1 0 "a") SHARING_VIOLATION
    ∷ accepts (from (0x1F01FF ∷ 0x81 ∷ replicate 6 0) (makes "a" ∷ ask 1 1 1 0 "a" ∷ [])) (by 1 (ask 0x02000000 7 1 0 "a")) FILE_OPENED
    (made 0 "a" 0x20 ∷ [])
    (stream 1 "" ∷ [])
    (entry 3 1 1 0x81 7 ∷ entry 2 1 1 1 1 ∷ entry 1 1 1 0x80 7 ∷ [])
    -- and a closed one conflicts no more
    ∷ accepts (after (makes "a" ∷ ask 1 0 1 0 "a" ∷ close 2 ∷ [])) (ask 2 0 1 0 "a") FILE_OPENED (made 0 "a" 0x20 ∷ []) (stream 1 "" ∷ [])
    (entry 3 1 1 2 0 ∷ entry 1 1 1 0x80 7 ∷ [])
    ∷ []
