-- Steps 1, 2 and 3: the request's numbers.
use Rattle.std.specs.Prelude.{◌∷◌, ◌++◌}
use Rattle.base.specs.Base.{List, []}
use Rattle.store.specs.StepCases.{Form.{Case, refuses, accepts, each, ask, by, attributed, from, fresh, made, stream, of_directory, entry}, Statuses.{INVALID_PARAMETER, ACCESS_DENIED, OBJECT_NAME_INVALID, FILE_IS_A_DIRECTORY, FILE_OPENED, FILE_CREATED}}

-- step 1: each bound at it and past it, each bit outside the masks
abbrev pub parameter_cases : List Case
parameter_cases =
    -- account over 7, whose mask is the eighth
    (accepts (from (0 ∷ 0 ∷ 0 ∷ 0 ∷ 0 ∷ 0 ∷ 0 ∷ 1 ∷ []) []) (by 7 (ask 1 1 1 0 "")) FILE_OPENED [] [] (entry 1 0 0 1 1 ∷ [])
    ∷ refuses fresh (by 8 (ask 1 7 1 0 "")) INVALID_PARAMETER
    -- share over 7
    ∷ accepts fresh (ask 1 7 1 0 "") FILE_OPENED [] [] (entry 1 0 0 1 7 ∷ [])
    ∷ refuses fresh (ask 1 8 1 0 "") INVALID_PARAMETER
    -- disposition over 5
    ∷ accepts fresh (ask 1 7 5 0 "a") FILE_CREATED (made 0 "a" 0x20 ∷ []) (stream 1 "" ∷ []) (entry 1 1 1 1 7 ∷ [])
    ∷ refuses fresh (ask 1 7 6 0 "a") INVALID_PARAMETER
    -- option 0x8 with access 0x4, and each without the other
    ∷ refuses fresh (ask 4 7 1 8 "") INVALID_PARAMETER
    ∷ refuses fresh (ask 5 7 1 0xA "") INVALID_PARAMETER
    ∷ accepts fresh (ask 4 7 1 0x20006 "") FILE_OPENED [] [] (entry 1 0 0 4 7 ∷ [])
    ∷ accepts fresh (ask 4 7 1 1 "") FILE_OPENED [] [] (entry 1 0 0 4 7 ∷ [])
    ∷ accepts fresh (ask 4 7 2 0x40 "a") FILE_CREATED (made 0 "a" 0x20 ∷ []) (stream 1 "" ∷ []) (entry 1 1 1 4 7 ∷ [])
    ∷ accepts fresh (ask 0x1F01FB 7 1 8 "") FILE_OPENED [] [] (entry 1 0 0 0x1F01FB 7 ∷ [])
    -- a directory with dispositions 1, 2 and 3; every option but 0x1 and 0x1000 together; attributes all together
    ∷ accepts fresh (ask 1 7 1 1 "") FILE_OPENED [] [] (entry 1 0 0 1 7 ∷ [])
    ∷ accepts fresh (ask 1 7 2 3 "d") FILE_CREATED (made 0 "d" 0x10 ∷ []) (of_directory 1 ∷ []) (entry 1 1 1 1 7 ∷ [])
    ∷ accepts fresh (ask 1 7 3 1 "") FILE_OPENED [] [] (entry 1 0 0 1 7 ∷ [])
    ∷ accepts fresh (ask 1 7 2 0x2004E "a") FILE_CREATED (made 0 "a" 0x20 ∷ []) (stream 1 "" ∷ []) (entry 1 1 1 1 7 ∷ [])
    ∷ accepts fresh (attributed 0x31A7 (ask 1 7 1 0 "")) FILE_OPENED [] [] (entry 1 0 0 1 7 ∷ [])
    ∷ [])
    -- a directory with dispositions 0, 4 and 5, and with options 0x4, 0x8 and 0x20000
    ++ each (0 ∷ 4 ∷ 5 ∷ []) (λ d. refuses fresh (ask 1 7 d 1 "") INVALID_PARAMETER)
    ++ each (0x5 ∷ 0x9 ∷ 0x20001 ∷ []) (λ options. refuses fresh (ask 1 7 1 options "") INVALID_PARAMETER)
    -- each option of 0x2104F but 0x1000 by itself on the root
    ++ each (0x2 ∷ 0x4 ∷ 0x8 ∷ 0x20000 ∷ []) (λ options. accepts fresh (ask 1 7 1 options "") FILE_OPENED [] [] (entry 1 0 0 1 7 ∷ []))
    ++ refuses fresh (ask 1 7 1 0x40 "") FILE_IS_A_DIRECTORY ∷ []

abbrev pub outside_cases : List Case
outside_cases =
    -- options outside 0x2104F
    each (0x10 ∷ 0x20 ∷ 0x80 ∷ 0x100 ∷ 0x200 ∷ 0x400 ∷ 0x800 ∷ 0x2000 ∷ 0x4000 ∷ 0x8000 ∷ 0x10000 ∷ 0x40000 ∷ 0x80000 ∷ 0x100000 ∷ 0x200000 ∷ 0x400000 ∷ 0x800000 ∷ 0x1000000 ∷ 0x2000000 ∷ 0x4000000 ∷ 0x8000000 ∷ 0x10000000 ∷ 0x20000000 ∷ 0x40000000 ∷ 0x80000000 ∷ [])
    (λ options. refuses fresh (ask 1 7 1 options "") INVALID_PARAMETER)
    -- attributes outside 0x31A7
    ++ each (0x8 ∷ 0x10 ∷ 0x40 ∷ 0x200 ∷ 0x400 ∷ 0x800 ∷ 0x4000 ∷ 0x8000 ∷ 0x10000 ∷ 0x20000 ∷ 0x40000 ∷ 0x80000 ∷ 0x100000 ∷ 0x200000 ∷ 0x400000 ∷ 0x800000 ∷ 0x1000000 ∷ 0x2000000 ∷ 0x4000000 ∷ 0x8000000 ∷ 0x10000000 ∷ 0x20000000 ∷ 0x40000000 ∷ 0x80000000 ∷ [])
    (λ attributes. refuses fresh (attributed attributes (ask 1 7 1 0 "")) INVALID_PARAMETER)
    -- access bits in 0xF0000000
    ++ each (0x10000001 ∷ 0x20000001 ∷ 0x40000001 ∷ 0x80000001 ∷ []) (λ access. refuses fresh (ask access 7 1 0 "") INVALID_PARAMETER)

-- steps 2 and 3. An invalid name shows that step 2 refuses, since the access rule would do so too
abbrev pub access_bit_cases : List Case
access_bit_cases =
    -- access zero; 1 before 2
    (refuses fresh (ask 0 7 1 0 ":") ACCESS_DENIED
    ∷ refuses fresh (ask 0 8 1 0 "") INVALID_PARAMETER
    -- a bad bit beside a good one
    ∷ refuses fresh (ask 0x201 7 1 0 ":") ACCESS_DENIED
    ∷ refuses fresh (ask 0x01000001 7 1 0 ":") ACCESS_DENIED
    -- step 3: options 0x1 and 0x40; 2 before 3, 3 before 4
    ∷ refuses fresh (ask 1 7 1 0x41 "") INVALID_PARAMETER
    ∷ refuses fresh (ask 0 7 1 0x41 "") ACCESS_DENIED
    ∷ refuses fresh (ask 1 7 1 0x41 ":") INVALID_PARAMETER
    ∷ [])
    -- each bit of 0x0CE0FE00, and 0x01000000
    ++ each (0x200 ∷ 0x400 ∷ 0x800 ∷ 0x1000 ∷ 0x2000 ∷ 0x4000 ∷ 0x8000 ∷ 0x200000 ∷ 0x400000 ∷ 0x800000 ∷ 0x1000000 ∷ 0x4000000 ∷ 0x8000000 ∷ [])
    (λ access. refuses fresh (ask access 7 1 0 ":") ACCESS_DENIED)
    -- each other bit
    ++ each (0x1 ∷ 0x2 ∷ 0x4 ∷ 0x8 ∷ 0x10 ∷ 0x20 ∷ 0x40 ∷ 0x80 ∷ 0x100 ∷ 0x10000 ∷ 0x20000 ∷ 0x40000 ∷ 0x80000 ∷ 0x100000 ∷ 0x2000000 ∷ [])
    (λ access. refuses fresh (ask access 7 1 0 ":") OBJECT_NAME_INVALID)
