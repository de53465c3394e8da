-- Step 12: tables, opens and handles that run out. What is kept is given, since it lies far from any short list of calls.
use Rattle.std.specs.Prelude.{◌-◌, ◌∷◌, ◌++◌}
use Rattle.base.specs.Base.{ℕ, Bool, true, false, List, [], length, replicate, zero_file, zero_link, BareStream, zero_bare, Namespace, Data, Directory, File, Link, Open}
use Prim.Native.String.{String}
use Rattle.store.specs.StepCases.{Form.{Case, Start, refuses, replies, becomes, model_with, accepted_row, holding, ask, text, stored_units, stream, stream_as, of_directory, entry}, Statuses.{ACCESS_DENIED, MEDIA_WRITE_PROTECTED, SHARING_VIOLATION, DISK_FULL, TOO_MANY_OPENED_FILES, INSUFFICIENT_RESOURCES, FILE_OPENED, FILE_CREATED, FILE_OVERWRITTEN}}

-- so many used slots: the root and other directories, with the mask; the data file `f` is the last file, its link the
-- first and its stream the last, where there is more than one
unfoldable pub tables : Bool → ℕ → ℕ → ℕ → ℕ → Namespace
tables read_only mask files links streams =
    let masks = replicate 8 mask in
    let file : File = record { file_type = Directory; attributes = 0x10; masks = masks; delete_pending = false } in
    let last : File = record { file_type = Data; attributes = 0x20; masks = masks; delete_pending = false } in
    let to_last : Link = record { parent = record { 0 = 0 }; name = stored_units (text "f"); file = record { 0 = files - 1 } } in
    let link : Link = record { parent = record { 0 = 1 }; name = stored_units (text "x"); file = record { 0 = 1 } } in
    record {
      read_only = read_only;
      files = replicate (files - 1) file ++ last ∷ replicate (128 - files) zero_file;
      links = to_last ∷ replicate (links - 1) link ++ replicate (192 - links) zero_link;
      streams =
          replicate (streams - 1) (stream_as Directory 0 [])
          ++ stream_as Data (files - 1) []
          ∷ replicate (256 - streams) zero_bare;
    }

-- so many entries, on a file and its stream, with an access and no sharing; the count is the number of opens so far
abbrev pub holds : ℕ → ℕ → ℕ → List Open → Start
holds files links streams entries = holding (tables false 0x1F01FF files links streams) 300 entries

abbrev pub counts : ℕ → ℕ → ℕ → ℕ → Start
counts files links streams count = holding (tables false 0x1F01FF files links streams) count []

abbrev pub elsewhere : ℕ → List Open
elsewhere n = replicate n (entry 1 9 9 1 0)

abbrev pub resource_cases : List Case
resource_cases =
    -- fewer free file, link or stream slots than a new file adds
    refuses (holds 128 2 2 []) (ask 1 0 2 0 "a") DISK_FULL
    ∷ replies (holds 127 2 2 []) (ask 1 0 2 0 "a") (accepted_row FILE_CREATED 301 1)
    ∷ refuses (holds 2 192 2 []) (ask 1 0 2 0 "a") DISK_FULL
    ∷ replies (holds 2 191 2 []) (ask 1 0 2 0 "a") (accepted_row FILE_CREATED 301 1)
    ∷ refuses (holds 2 2 256 []) (ask 1 0 2 0 "a") DISK_FULL
    ∷ replies (holds 2 2 255 []) (ask 1 0 2 0 "a") (accepted_row FILE_CREATED 301 1)
    -- two stream slots for a file named with a stream name, one for a new stream
    ∷ refuses (holds 2 2 255 []) (ask 1 0 2 0 "a:s") DISK_FULL
    ∷ replies (holds 2 2 254 []) (ask 1 0 2 0 "a:s") (accepted_row FILE_CREATED 301 1)
    ∷ refuses (holds 2 2 256 []) (ask 1 0 2 0 "f:s") DISK_FULL
    ∷ replies (holds 128 192 255 []) (ask 1 0 2 0 "f:s") (accepted_row FILE_CREATED 301 3)
    -- none for what is there
    ∷ replies (holds 128 192 256 []) (ask 1 0 1 0 "") (accepted_row FILE_OPENED 301 1)
    ∷ replies (holds 128 192 256 []) (ask 1 0 4 0 "f") (accepted_row FILE_OVERWRITTEN 301 0x113)
    -- no open slot
    ∷ refuses (holds 2 2 2 (elsewhere 256)) (ask 1 0 1 0 "") TOO_MANY_OPENED_FILES
    ∷ refuses (holds 2 2 2 (elsewhere 256)) (ask 1 0 2 0 "a") TOO_MANY_OPENED_FILES
    ∷ refuses (holds 2 2 2 (elsewhere 256)) (ask 1 0 2 0 "f:s") TOO_MANY_OPENED_FILES
    ∷ replies (holds 2 2 2 (elsewhere 255)) (ask 1 0 1 0 "") (accepted_row FILE_OPENED 301 1)
    ∷ replies (holds 2 2 2 (elsewhere 255)) (ask 1 0 2 0 "a") (accepted_row FILE_CREATED 301 1)
    -- next handle 18,446,744,073,709,551,615
    ∷ refuses (counts 2 2 2 18446744073709551614) (ask 1 0 1 0 "") INSUFFICIENT_RESOURCES
    ∷ refuses (counts 2 2 2 18446744073709551614) (ask 1 0 2 0 "a") INSUFFICIENT_RESOURCES
    ∷ replies (counts 2 2 2 18446744073709551613) (ask 1 0 1 0 "") (accepted_row FILE_OPENED 18446744073709551614 1)
    -- in this order, after everything else
    ∷ refuses (holding (tables false 0x1F01FF 128 2 2) 18446744073709551614 (elsewhere 256)) (ask 1 0 2 0 "a") DISK_FULL
    ∷ refuses (holding (tables false 0x1F01FF 2 2 256) 18446744073709551614 (elsewhere 256)) (ask 1 0 2 0 "f:s") DISK_FULL
    ∷ refuses (holding (tables false 0x1F01FF 2 2 2) 18446744073709551614 (elsewhere 256)) (ask 1 0 2 0 "a") TOO_MANY_OPENED_FILES
    ∷ refuses (holds 2 2 2 (replicate 256 (entry 1 0 0 1 0))) (ask 1 0 1 0 "") SHARING_VIOLATION
    ∷ refuses (holding (tables false 1 2 2 2) 300 (elsewhere 256)) (ask 1 0 1 0x20000 "") ACCESS_DENIED
    ∷ refuses (holding (tables false 1 128 192 256) 300 []) (ask 1 0 2 0 "a") ACCESS_DENIED
    ∷ refuses (holding (tables true 0x1F01FF 2 2 256) 300 []) (ask 1 0 3 0 "f:s") MEDIA_WRITE_PROTECTED
    ∷ []

-- tables with free slots between the used ones: `x` is file 2, its link 1, its stream 3; the root's stream is 1
abbrev pub dir : File
dir = record { file_type = Directory; attributes = 0x10; masks = replicate 8 0x1F01FF; delete_pending = false }

abbrev pub file : File
file = record { file_type = Data; attributes = 0x20; masks = replicate 8 0x1F01FF; delete_pending = false }

abbrev pub link_to : ℕ → String → Link
link_to n name = record { parent = record { 0 = 0 }; name = stored_units (text name); file = record { 0 = n } }

unfoldable pub sparse : List File → List Link → List BareStream → Namespace
sparse files links streams =
    record {
      read_only = false;
      files = files ++ replicate (128 - length files) zero_file;
      links = links ++ replicate (192 - length links) zero_link;
      streams = streams ++ replicate (256 - length streams) zero_bare;
    }

abbrev pub slot_cases : List Case
slot_cases =
    -- the lowest free slots, wherever they are
    becomes (holding before 4 []) (ask 1 7 2 0 "a:s") (accepted_row FILE_CREATED 5 1)
    (model_with
    (sparse (dir ∷ file ∷ file ∷ [])
    (link_to 1 "a" ∷ link_to 2 "x" ∷ [])
    (stream 1 "" ∷ of_directory 0 ∷ stream 1 "s" ∷ stream 2 "" ∷ []))
    5
    (entry 5 1 2 1 7 ∷ []))
    ∷ becomes (holding before 4 []) (ask 1 7 2 0 "a") (accepted_row FILE_CREATED 5 1)
    (model_with
    (sparse (dir ∷ file ∷ file ∷ []) (link_to 1 "a" ∷ link_to 2 "x" ∷ []) (stream 1 "" ∷ of_directory 0 ∷ zero_bare ∷ stream 2 "" ∷ []))
    5
    (entry 5 1 0 1 7 ∷ []))
    ∷ becomes (holding before 4 []) (ask 1 7 2 0 "x:s") (accepted_row FILE_CREATED 5 3)
    (model_with
    (sparse (dir ∷ zero_file ∷ file ∷ []) (zero_link ∷ link_to 2 "x" ∷ []) (stream 2 "s" ∷ of_directory 0 ∷ zero_bare ∷ stream 2 "" ∷ []))
    5
    (entry 5 2 0 3 7 ∷ []))
    -- a free slot is no stream of the root, and no link of it
    ∷ becomes (holding before 4 []) (ask 1 7 1 0 "") (accepted_row FILE_OPENED 5 1) (model_with before 5 (entry 5 0 1 1 7 ∷ []))
    ∷ becomes (holding before 4 []) (ask 1 7 1 0 "x") (accepted_row FILE_OPENED 5 1) (model_with before 5 (entry 5 2 3 1 7 ∷ []))
    ∷ []
  where
    before : Namespace
    before =
        sparse (dir ∷ zero_file ∷ file ∷ []) (zero_link ∷ link_to 2 "x" ∷ [])
        (zero_bare ∷ of_directory 0 ∷ zero_bare ∷ stream 2 "" ∷ [])
