-- Close, set_read_only, and format without tables.
use Rattle.std.specs.Prelude.{◌∷◌, ◌++◌}
use Rattle.base.specs.Base.{ℕ, true, false, List, [], replicate, BareStream, Open}
use Rattle.store.specs.{Calls.{Call, sets_read_only}, StepCases.{Form.{Case, Start, Made, refuses, accepts, does, refuses_format, formats, each, ask, close, after, makes, marks, made, stream, entry}, Statuses.{INVALID_PARAMETER, INVALID_HANDLE, FILE_OPENED}}}

abbrev pub call_cases : List Case
call_cases =
    -- close strikes the entry of the handle: the newest, one between, the oldest; on a read-only volume too
    does three (close 3) false files streams (second ∷ first ∷ [])
    ∷ does three (close 2) false files streams (third ∷ first ∷ [])
    ∷ does three (close 1) false files streams (third ∷ second ∷ [])
    ∷ does (after (opens ++ marks ∷ [])) (close 2) true files streams (third ∷ first ∷ [])
    -- no live open has it: 0, not yet issued, closed already
    ∷ refuses three (close 0) INVALID_HANDLE
    ∷ refuses three (close 4) INVALID_HANDLE
    ∷ refuses (after (opens ++ close 2 ∷ [])) (close 2) INVALID_HANDLE
    -- a handle is never issued again
    ∷ accepts (after (opens ++ close 3 ∷ [])) (ask 1 7 1 0 "a") FILE_OPENED files streams (entry 4 1 1 1 7 ∷ second ∷ first ∷ [])
    -- set_read_only sets the mark, and nothing else
    ∷ does three (sets_read_only true) true files streams (third ∷ second ∷ first ∷ [])
    ∷ does three (sets_read_only false) false files streams (third ∷ second ∷ first ∷ [])
    ∷ does (after (opens ++ marks ∷ [])) (sets_read_only false) false files streams (third ∷ second ∷ first ∷ [])
    ∷ does (after (opens ++ marks ∷ [])) (sets_read_only true) true files streams (third ∷ second ∷ first ∷ [])
    -- format leaves file 0 with these masks, its stream, this mark, no entry and count 0
    ∷ formats three apart false
    ∷ formats three apart true
    ∷ formats (after (marks ∷ [])) (replicate 8 0) false
    -- a mask outside 0x1F01FF: the first, the last
    ∷ refuses_format three (0x200 ∷ replicate 7 1) false INVALID_PARAMETER
    ∷ refuses_format three (replicate 7 1 ++ 0x200 ∷ []) true INVALID_PARAMETER
    ∷ []
    ++ each (0x200 ∷ 0x400 ∷ 0x800 ∷ 0x1000 ∷ 0x2000 ∷ 0x4000 ∷ 0x8000 ∷ 0x200000 ∷ 0x400000 ∷ 0x800000 ∷ 0x1000000 ∷ 0x2000000 ∷ 0x4000000 ∷ 0x8000000 ∷ 0x10000000 ∷ 0x20000000 ∷ 0x40000000 ∷ 0x80000000 ∷ [])
    (λ mask. refuses_format (after []) (1 ∷ 1 ∷ 1 ∷ mask ∷ replicate 4 1) false INVALID_PARAMETER)
  where
    opens : List Call
    opens = makes "a" ∷ ask 1 7 1 0 "a" ∷ ask 2 7 1 0 "a" ∷ []

    three : Start
    three = after opens

    files : List Made
    files = made 0 "a" 0x20 ∷ []

    streams : List BareStream
    streams = stream 1 "" ∷ []

    first : Open
    first = entry 1 1 1 0x80 7

    second : Open
    second = entry 2 1 1 1 7

    third : Open
    third = entry 3 1 1 2 7

    apart : List ℕ
    apart = 0x1F01FF ∷ 0x2 ∷ 0x4 ∷ 0x8 ∷ 0x10 ∷ 0x20 ∷ 0x40 ∷ 0 ∷ []
