-- Step 4: paths and names.
use Rattle.std.specs.Prelude.{◌≡◌, ◌∷◌, ◌++◌}
use Rattle.base.specs.Base.{ℕ, Bool, true, false, List, [], replicate, Data}
use Rattle.names.specs.Names.{valid_file_name, valid_stream_name}
use Rattle.stored_names.specs.StoredNames.{well_stored}
use Rattle.store.specs.StepCases.{Form.{stored_units, Case, refuses, accepts, each, text, ask, asks, folding, after, fresh, makes, makes_directory, marks, made, stream, stream_as, of_directory, entry}, Statuses.{OBJECT_NAME_INVALID, OBJECT_PATH_NOT_FOUND, OBJECT_NAME_NOT_FOUND, OBJECT_NAME_COLLISION, FILE_OPENED, FILE_CREATED}}
use Rattle.store.specs.Calls.{Call}

-- a path that names no file: refused by its name, whatever else
abbrev pub invalid : List ℕ → Case
invalid path = refuses fresh (asks 1 7 2 0 path) OBJECT_NAME_INVALID

-- a path in the root that makes a file of the name; of the name, with a stream beside the unnamed one
abbrev pub valid : List ℕ → List ℕ → Case
valid path name =
    accepts fresh (asks 1 7 2 0 path) FILE_CREATED (record { parent = 0; name = name; attributes = 0x20; pending = false } ∷ [])
    (stream 1 "" ∷ [])
    (entry 1 1 1 1 7 ∷ [])

abbrev pub valid_stream : List ℕ → List ℕ → List ℕ → Case
valid_stream path name named =
    accepts fresh (asks 1 7 2 0 path) FILE_CREATED (record { parent = 0; name = name; attributes = 0x20; pending = false } ∷ [])
    (stream 1 "" ∷ stream_as Data 1 named ∷ [])
    (entry 1 1 2 1 7 ∷ [])

abbrev pub long : ℕ → List ℕ
long n = replicate n 0x61

abbrev pub path_cases : List Case
path_cases =
    -- a path over 255 units; the empty path is the root, and so are backslashes alone
    accepts fresh (ask 1 7 1 0 "") FILE_OPENED [] [] (entry 1 0 0 1 7 ∷ [])
    ∷ accepts fresh (asks 1 7 1 0 (replicate 255 0x5C)) FILE_OPENED [] [] (entry 1 0 0 1 7 ∷ [])
    ∷ refuses fresh (asks 1 7 1 0 (replicate 256 0x5C)) OBJECT_NAME_INVALID
    -- a trailing backslash with 0x40, on the root too; without it, and one elsewhere
    ∷ refuses (after (makes "a" ∷ [])) (ask 1 7 1 0x40 "a\\") OBJECT_NAME_INVALID
    ∷ refuses fresh (ask 1 7 1 0x40 "\\") OBJECT_NAME_INVALID
    ∷ accepts (after (makes "a" ∷ [])) (ask 1 7 1 0 "a\\") FILE_OPENED (made 0 "a" 0x20 ∷ []) (stream 1 "" ∷ [])
    (entry 2 1 1 1 7 ∷ entry 1 1 1 0x80 7 ∷ [])
    ∷ accepts (after (makes "a" ∷ [])) (ask 1 7 1 0x40 "\\a") FILE_OPENED (made 0 "a" 0x20 ∷ []) (stream 1 "" ∷ [])
    (entry 2 1 1 1 7 ∷ entry 1 1 1 0x80 7 ∷ [])
    ∷ accepts (after (makes_directory "d" ∷ [])) (ask 1 7 2 0x40 "d\\a") FILE_CREATED (made 0 "d" 0x10 ∷ made 1 "a" 0x20 ∷ [])
    (of_directory 1 ∷ stream 2 "" ∷ [])
    (entry 2 2 2 1 7 ∷ entry 1 1 1 0x80 7 ∷ [])
    -- empty components vanish, before the last one and after it
    ∷ accepts (after (makes_directory "d" ∷ [])) (ask 1 7 2 0 "\\\\d\\\\\\a:s\\\\") FILE_CREATED (made 0 "d" 0x10 ∷ made 1 "a" 0x20 ∷ [])
    (of_directory 1 ∷ stream 2 "" ∷ stream 2 "s" ∷ [])
    (entry 2 2 3 1 7 ∷ entry 1 1 1 0x80 7 ∷ [])
    -- a colon before the last component
    ∷ refuses (after (makes_directory "d" ∷ [])) (ask 1 7 2 0 "d:s\\a") OBJECT_NAME_INVALID
    ∷ refuses (after (makes_directory "d" ∷ [])) (ask 1 7 2 0 "d::$DATA\\a") OBJECT_NAME_INVALID
    -- a colon with option 0x1
    ∷ refuses fresh (ask 1 7 2 1 "a:s") OBJECT_NAME_INVALID
    ∷ refuses fresh (ask 1 7 2 1 "a::$DATA") OBJECT_NAME_INVALID
    ∷ refuses (after (makes_directory "d" ∷ [])) (ask 1 7 2 1 "d\\a:s") OBJECT_NAME_INVALID
    -- a component that ends in a colon, has more than two, or an empty file name
    ∷ invalid (text "a:")
    ∷ invalid (text "a::")
    ∷ invalid (text "a:s:")
    ∷ invalid (text "a:s:$DATA:t")
    ∷ invalid (text "a:s:t:$DATA")
    ∷ invalid (text "a:::$DATA")
    ∷ invalid (text "a:s:$DATA:")
    ∷ invalid (text ":")
    ∷ invalid (text ":s")
    ∷ invalid (text "::$DATA")
    ∷ invalid (text ":s:$DATA")
    -- a type other than $DATA, ASCII case ignored
    ∷ valid_stream (text "a:s:$DATA") (text "a") (text "s")
    ∷ valid_stream (text "a:s:$dAta") (text "a") (text "s")
    ∷ valid (text "a::$DATA") (text "a")
    ∷ valid (text "a::$Data") (text "a")
    ∷ invalid (text "a:s:$DAT")
    ∷ invalid (text "a:s:$DATAS")
    ∷ invalid (text "a:s:DATA")
    ∷ invalid (text "a::s")
    -- 4 before 5, and before 6
    ∷ refuses (after (marks ∷ [])) (ask 1 7 2 0 ":") OBJECT_NAME_INVALID
    ∷ refuses fresh (ask 1 7 2 0 "x\\:") OBJECT_NAME_INVALID
    ∷ []

abbrev pub name_cases : List Case
name_cases =
    -- names of 32 and 33 units: of a file, of a stream, before the last component
    (valid (long 32) (long 32)
    ∷ invalid (long 33)
    ∷ valid_stream (text "a:" ++ long 32) (text "a") (long 32)
    ∷ invalid (text "a:" ++ long 33)
    ∷ invalid (text "a:" ++ long 33 ++ text ":$DATA")
    ∷ refuses fresh (asks 1 7 2 0 (long 32 ++ text "\\a")) OBJECT_PATH_NOT_FOUND
    ∷ invalid (long 33 ++ text "\\a")
    -- `.` and `..` as a file name, not as a stream name
    ∷ invalid (text ".")
    ∷ invalid (text "..")
    ∷ invalid (text ".\\a")
    ∷ invalid (text "..\\a")
    ∷ invalid (text ".:s")
    ∷ invalid (text "..:s")
    ∷ valid (text "...") (text "...")
    ∷ valid (text ".a") (text ".a")
    ∷ valid (text "a.") (text "a.")
    ∷ valid_stream (text "a:.") (text "a") (text ".")
    ∷ valid_stream (text "a:..") (text "a") (text "..")
    -- every other sign from 0x20 to 0x7E, and units above
    ∷ valid_stream (text " !#$%&'()+,-.0123456789;=@ABCDEF:GHIJKLMNOPQRSTUVWXYZ[]^_`abcdef")
    (text " !#$%&'()+,-.0123456789;=@ABCDEF")
    (text "GHIJKLMNOPQRSTUVWXYZ[]^_`abcdef")
    ∷ valid (text "ghijklmnopqrstuvwxyz{}~") (text "ghijklmnopqrstuvwxyz{}~")
    ∷ valid (0x7F ∷ 0x80 ∷ 0xD800 ∷ 0xFFFF ∷ []) (0x7F ∷ 0x80 ∷ 0xD800 ∷ 0xFFFF ∷ [])
    -- a forbidden sign before the last component is seen before that component is missed
    ∷ refuses fresh (ask 1 7 2 0 "x\\y") OBJECT_PATH_NOT_FOUND
    ∷ refuses fresh (ask 1 7 2 0 "x\\?\\y") OBJECT_NAME_INVALID
    ∷ [])
    -- unit 0 and each of `" * / < > ? |`: in a file's name, in a stream's, before the last component, in the file part of a
    -- name with a stream
    ++ each forbidden (λ u. invalid (u ∷ []))
    ++ each forbidden (λ u. invalid (0x61 ∷ u ∷ 0x62 ∷ []))
    ++ each forbidden (λ u. invalid (0x61 ∷ 0x3A ∷ 0x73 ∷ u ∷ []))
    ++ each forbidden (λ u. invalid (0x61 ∷ u ∷ 0x5C ∷ 0x62 ∷ []))
    ++ each forbidden (λ u. invalid (0x61 ∷ u ∷ 0x3A ∷ 0x73 ∷ []))
  where
    forbidden : List ℕ
    forbidden = 0 ∷ 0x22 ∷ 0x2A ∷ 0x2F ∷ 0x3C ∷ 0x3E ∷ 0x3F ∷ 0x7C ∷ []

-- units 1 to 31, which stand in stream names alone
abbrev pub control_cases : List Case
control_cases =
    -- in a file's name: alone, between others, before the last component, in the file part of a name with a stream
    each control (λ u. invalid (u ∷ []))
    ++ each control (λ u. invalid (0x61 ∷ u ∷ 0x62 ∷ []))
    ++ each control (λ u. invalid (0x61 ∷ u ∷ 0x5C ∷ 0x62 ∷ []))
    ++ each control (λ u. invalid (0x61 ∷ u ∷ 0x3A ∷ 0x73 ∷ []))
    -- in a stream's name: alone, as a blank is; after another; before its type
    ++ each (control ++ 0x20 ∷ []) (λ u. valid_stream (text "a:" ++ u ∷ []) (text "a") (u ∷ []))
    ++ each control (λ u. valid_stream (text "a:s" ++ u ∷ []) (text "a") (text "s" ++ u ∷ []))
    ++ each control (λ u. valid_stream (text "a:s" ++ u ∷ text ":$DATA") (text "a") (text "s" ++ u ∷ []))
    -- unit 0, alone and among them; a forbidden sign beside one
    ++ (invalid (text "a:" ++ 0 ∷ [])
    ∷ invalid (text "a:" ++ 0 ∷ text ":$DATA")
    ∷ invalid (text "a:" ++ 0x1 ∷ 0 ∷ 0x1 ∷ [])
    ∷ invalid (text "a:" ++ 0x1 ∷ text "*")
    -- in a type
    ∷ invalid (text "a:s:" ++ 0x1 ∷ [])
    ∷ invalid (text "a:s:$DATA" ++ 0xD ∷ [])
    -- 32 and 33 of them
    ∷ valid_stream (text "a:" ++ replicate 32 0x1) (text "a") (replicate 32 0x1)
    ∷ invalid (text "a:" ++ replicate 33 0x1)
    -- streams that differ in one: each is made, and each is found by its own name
    ∷ accepts (after (makes "a:s" ∷ makesTo 0x1 ∷ [])) (asks 1 7 2 0 (path_to 0x2)) FILE_CREATED (made 0 "a" 0x20 ∷ [])
    (stream 1 "" ∷ stream 1 "s" ∷ stream_as Data 1 (0x73 ∷ 0x1 ∷ []) ∷ stream_as Data 1 (0x73 ∷ 0x2 ∷ []) ∷ [])
    (entry 3 1 4 3 7 ∷ entry 2 1 3 0x82 7 ∷ entry 1 1 2 0x80 7 ∷ [])
    ∷ accepts (after (makesTo 0x1 ∷ makesTo 0x2 ∷ [])) (asks 1 7 1 0 (path_to 0x2)) FILE_OPENED (made 0 "a" 0x20 ∷ [])
    (stream 1 "" ∷ stream_as Data 1 (0x73 ∷ 0x1 ∷ []) ∷ stream_as Data 1 (0x73 ∷ 0x2 ∷ []) ∷ [])
    (entry 3 1 3 1 7 ∷ entry 2 1 3 0x82 7 ∷ entry 1 1 2 0x80 7 ∷ [])
    ∷ refuses (after (makesTo 0x1 ∷ [])) (asks 1 7 1 0 (path_to 0x2)) OBJECT_NAME_NOT_FOUND
    ∷ refuses (after (makesTo 0x1 ∷ [])) (ask 1 7 1 0 "a:s") OBJECT_NAME_NOT_FOUND
    ∷ refuses (after (makes "a:s" ∷ [])) (asks 1 7 1 0 (path_to 0xD)) OBJECT_NAME_NOT_FOUND
    ∷ refuses (after (makesTo 0x1 ∷ [])) (asks 1 7 2 0 (path_to 0x1)) OBJECT_NAME_COLLISION
    -- folding leaves them as they are
    ∷ accepts (after (makesTo 0x1 ∷ [])) (folding (asks 1 7 1 0 (text "A:S" ++ 0x1 ∷ []))) FILE_OPENED (made 0 "a" 0x20 ∷ [])
    (stream 1 "" ∷ stream_as Data 1 (0x73 ∷ 0x1 ∷ []) ∷ [])
    (entry 2 1 2 1 7 ∷ entry 1 1 2 0x80 7 ∷ [])
    ∷ refuses (after (makesTo 0x1 ∷ [])) (folding (ask 1 7 1 0 "a:s!")) OBJECT_NAME_NOT_FOUND
    ∷ [])
  where
    -- the first and the last of them, line feed and carriage return
    control : List ℕ
    control = 0x1 ∷ 0xA ∷ 0xD ∷ 0x1F ∷ []

    path_to : ℕ → List ℕ
    path_to u = text "a:s" ++ u ∷ []

    makesTo : ℕ → Call
    makesTo u = asks 0x80 7 3 0 (path_to u)

-- names by themselves, as consistency asks for them: no backslash, no colon, control units in stream names alone; in a
-- record the unused units are zero
unfoldable pub names_alone : List Bool
names_alone =
    valid_file_name 32 (text "a")
    ∷ valid_file_name 32 (text "a\\b")
    ∷ valid_file_name 32 (text "a:b")
    ∷ valid_stream_name 32 (text "s")
    ∷ valid_stream_name 32 (text "s\\t")
    ∷ valid_stream_name 32 (text "s:t")
    ∷ valid_stream_name 32 []
    ∷ valid_file_name 32 (0x1F ∷ [])
    ∷ valid_stream_name 32 (0x1 ∷ 0x1F ∷ [])
    ∷ valid_stream_name 32 (0x1 ∷ 0 ∷ [])
    ∷ well_stored 32 (stored_units (text "a"))
    ∷ well_stored 32 (stored_units [])
    ∷ well_stored 32 (replicate 32 0x61)
    ∷ well_stored 32 (replicate 31 0)
    ∷ well_stored 32 (replicate 33 0)
    ∷ well_stored 32 (0x61 ∷ 0 ∷ 0x61 ∷ replicate 29 0)
    ∷ []

abbrev pub NamesAloneHold : Type 0
NamesAloneHold =
    names_alone
    ≡ true
    ∷ false
    ∷ false
    ∷ true
    ∷ false
    ∷ false
    ∷ true
    ∷ false
    ∷ true
    ∷ false
    ∷ true
    ∷ true
    ∷ true
    ∷ false
    ∷ false
    ∷ false
    ∷ []
