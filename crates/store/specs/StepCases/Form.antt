-- The form of the step cases: one call on the model after a few others, with its reply and everything that the model keeps
-- afterwards. The model is asked alone: by the theorem about every sequence the object store answers alike. The numbers
-- are those of document 01, written out, and none of the definitions' constants.
use Rattle.std.specs.Prelude.{◌-◌, ◌≡◌, ◌&&◌, ◌∷◌, ◌++◌}
use Rattle.base.specs.Base.{ℕ, zero, suc, Bool, true, false, cond, List, [], map, none, some, bit_and, eqb, is_empty, length, replicate, set, zero_file, file_used, link_used, BareStream, zero_bare, Namespace, bare_used, FileType, Unused, Data, Directory, File, Link, Open, Request, Reply, seen, Step, FileNo}
use Prim.Native.{Char.code, String.{String, len, char_at}}
use Rattle.tables.specs.Tables.{file_at}
use Rattle.store.specs.{Model.{Model, model_format}, Calls.{Call, opens, closes, sets_read_only, model_step}, Evaluate.{computes, model_run}, Cases.a}

-- a text of ASCII signs as units
unfoldable pub units_from : String → ℕ → ℕ → List ℕ
units_from s at zero = []
units_from s at (suc n) = code (char_at s at) ∷ units_from s (suc at) n

unfoldable pub text : String → List ℕ
text s = units_from s 0 (len s)

-- account 0, exact case, attributes 0: access, share, disposition, options, path
abbrev pub asks : ℕ → ℕ → ℕ → ℕ → List ℕ → Call
asks access share disposition options path =
    opens
    (record {
      account = 0;
      access = access;
      share = share;
      disposition = disposition;
      options = options;
      attributes = 0;
      fold = false;
    })
    path

abbrev pub ask : ℕ → ℕ → ℕ → ℕ → String → Call
ask access share disposition options path = asks access share disposition options (text path)

-- the same call by another account, with attributes, with a to z folded
unfoldable pub asking : (Request → ℕ) → (Request → ℕ) → (Request → Bool) → Call → Call
asking account attributes fold (opens r path) =
    opens
    (record {
      account = account r;
      access = r.access;
      share = r.share;
      disposition = r.disposition;
      options = r.options;
      attributes = attributes r;
      fold = fold r;
    })
    path
asking account attributes fold (closes h) = closes h
asking account attributes fold (sets_read_only b) = sets_read_only b

abbrev pub by : ℕ → Call → Call
by account = asking (λ r. account) (λ r. r.attributes) (λ r. r.fold)

abbrev pub attributed : ℕ → Call → Call
attributed attributes = asking (λ r. r.account) (λ r. attributes) (λ r. r.fold)

abbrev pub folding : Call → Call
folding = asking (λ r. r.account) (λ r. r.attributes) (λ r. true)

abbrev pub close : ℕ → Call
close h = closes (record { 0 = h })

-- a file is a directory exactly by its attribute
unfoldable pub type_by : ℕ → FileType
type_by attributes = cond (eqb (bit_and attributes 0x10) 0) Data Directory

-- the model by its parts
unfoldable pub model_with : Namespace → ℕ → List Open → Model
model_with tables count entries = record { namespace = tables; count = count; entries = entries }

unfoldable pub tables_of : Model → Namespace
tables_of m = m.namespace

-- a file at its number, with attributes and masks
unfoldable pub file_of : ℕ → ℕ → List ℕ → FileNo × File
file_of n attributes masks =
    (record { 0 = n }, record { file_type = type_by attributes; attributes = attributes; masks = masks; delete_pending = false })

unfoldable pub with_file : FileNo × File → Model → Model
with_file f m =
    let t = tables_of m in
    model_with (record { read_only = t.read_only; files = set t.files f.0.0 f.1; links = t.links; streams = t.streams }) m.count m.entries

-- where a case starts: a fresh volume with these masks, then these calls, then what no short list of calls leads to
pub record Start : Type 0 where
  pub masks : List ℕ
  pub calls : List Call
  pub altered : Model → Model

abbrev pub from : List ℕ → List Call → Start
from masks calls = record { masks = masks; calls = calls; altered = λ m. m }

-- every account has the one mask
abbrev pub masked : ℕ → List Call → Start
masked mask calls = from (replicate 8 mask) calls

-- every account has every access
abbrev pub after : List Call → Start
after calls = masked 0x1F01FF calls

abbrev pub fresh : Start
fresh = after []

-- one file has other attributes and masks
abbrev pub but : ℕ → ℕ → List ℕ → Start → Start
but n attributes masks s =
    record {
      masks = s.masks;
      calls = s.calls;
      altered = λ m. with_file (file_of n attributes masks) m;
    }

-- the tables, the count and the entries are these
abbrev pub holding : Namespace → ℕ → List Open → Start
holding tables count entries = record { masks = []; calls = []; altered = λ m. model_with tables count entries }

-- a file that was made: the directory that it is in, its name, its attributes, whether its deletion is pending. The first
-- one made is file 1 with link 0, since the lowest free slots are taken; and file n always has link n - 1, since a file's
-- slot and its link's are freed together
pub record Made : Type 0 where
  pub parent : ℕ
  pub name : List ℕ
  pub attributes : ℕ
  pub pending : Bool

abbrev pub made : ℕ → String → ℕ → Made
made parent name attributes =
    record { parent = parent; name = text name; attributes = attributes; pending = false }

abbrev pub pending : Made → Made
pending m = record { parent = m.parent; name = m.name; attributes = m.attributes; pending = true }

-- the slots of a file that was removed
abbrev pub gone : Made
gone = record { parent = 0; name = []; attributes = 0; pending = false }

unfoldable pub stored_units : List ℕ → List ℕ
stored_units name = name ++ replicate (32 - length name) 0

unfoldable pub files_made : List ℕ → List Made → List File
files_made masks ms =
    map
    (λ m.
    cond (is_empty m.name) zero_file
    (record {
      file_type = type_by m.attributes;
      attributes = m.attributes;
      masks = masks;
      delete_pending = m.pending;
    }))
    ms

unfoldable pub links_made : ℕ → List Made → List Link
links_made n [] = []
links_made n (m ∷ ms) =
    record { parent = record { 0 = m.parent }; name = stored_units m.name; file = record { 0 = n } } ∷ links_made (suc n) ms

-- a data stream of a file, a directory's stream
abbrev pub stream_as : FileType → ℕ → List ℕ → BareStream
stream_as type file name =
    record { file = record { 0 = file }; stream_type = type; name = stored_units name; delete_pending = false }

abbrev pub stream : ℕ → String → BareStream
stream file name = stream_as Data file (text name)

abbrev pub of_directory : ℕ → BareStream
of_directory file = stream_as Directory file []

-- a stream whose deletion is pending, and the slot of one that was removed
abbrev pub pending_stream : BareStream → BareStream
pending_stream s = record { file = s.file; stream_type = s.stream_type; name = s.name; delete_pending = true }

abbrev pub gone_stream : BareStream
gone_stream = zero_bare

-- an entry: handle, file, stream, granted, share
abbrev pub entry : ℕ → ℕ → ℕ → ℕ → ℕ → Open
entry handle file stream granted share =
    record {
      handle = record { 0 = handle };
      file = record { 0 = file };
      stream = record { 0 = stream };
      granted = granted;
      share = share;
      delete_on_close = false;
    }

-- an entry that deletes on close
abbrev pub deleting : Open → Open
deleting o =
    record {
      handle = o.handle;
      file = o.file;
      stream = o.stream;
      granted = o.granted;
      share = o.share;
      delete_on_close = true;
    }

-- a mark as a number
unfoldable pub mark_row : Bool → ℕ
mark_row b = cond b 1 0

-- what is observed of the model, as rows of numbers: its mark and count, the used slots of its tables, each with its
-- number, and its entries
module _ {A : Type 0} where
  unfoldable pub rows : (A → Bool) → (A → List ℕ) → ℕ → List A → List (List ℕ)
  rows used row n [] = []
  rows used row n (x ∷ xs) = let rest = rows used row (suc n) xs in cond (used x) ((n ∷ row x) ∷ rest) rest

unfoldable pub type_row : FileType → ℕ
type_row Unused = 0
type_row Data = 1
type_row Directory = 2

unfoldable pub file_row : File → List ℕ
file_row f = 0 ∷ type_row f.file_type ∷ f.attributes ∷ mark_row f.delete_pending ∷ f.masks

unfoldable pub link_row : Link → List ℕ
link_row l = 1 ∷ l.parent.0 ∷ l.file.0 ∷ l.name

unfoldable pub stream_row : BareStream → List ℕ
stream_row s = 2 ∷ s.file.0 ∷ type_row s.stream_type ∷ mark_row s.delete_pending ∷ s.name

unfoldable pub entry_row : Open → List ℕ
entry_row o =
    3 ∷ o.handle.0 ∷ o.file.0 ∷ o.stream.0 ∷ o.granted ∷ o.share ∷ mark_row o.delete_on_close ∷ []

unfoldable pub kept : Model → List (List ℕ)
kept m =
    let t = tables_of m in
    (cond t.read_only 1 0 ∷ m.count ∷ [])
    ∷ rows file_used file_row 0 t.files
    ++ rows link_used link_row 0 t.links
    ++ rows bare_used stream_row 0 t.streams
    ++ map entry_row m.entries

-- what is kept where these files were made, with these streams after the root's and these entries, newest first; of those
-- that are gone, nothing
unfoldable pub keeps : List ℕ → Bool → ℕ → List Made → List BareStream → List Open → List (List ℕ)
keeps masks read_only count ms streams entries =
    let root : File = record { file_type = Directory; attributes = 0x10; masks = masks; delete_pending = false } in
    (cond read_only 1 0 ∷ count ∷ [])
    ∷ rows file_used file_row 0 (root ∷ files_made masks ms)
    ++ rows link_used link_row 0 (links_made 1 ms)
    ++ rows bare_used stream_row 0 (of_directory 0 ∷ streams)
    ++ map entry_row entries

-- a case: where it starts, the call, and what it does
pub data Case : Type 0 where
  -- it is refused with the status, and what is kept stays
  refuses : Start → Call → ℕ → Case
  -- it is accepted with the action, the newest entry's handle and granted access, and the mark stays
  accepts : Start → Call → ℕ → List Made → List BareStream → List Open → Case
  -- close or set_read_only is done, with no action and zeros, and the count stays
  does : Start → Call → Bool → List Made → List BareStream → List Open → Case
  -- the reply, and afterwards the file at this number
  leaves : Start → Call → List ℕ → FileNo × File → Case
  -- the reply alone; the reply and the model afterwards
  replies : Start → Call → List ℕ → Case
  becomes : Start → Call → List ℕ → Model → Case
  -- format with masks and a mark
  refuses_format : Start → List ℕ → Bool → ℕ → Case
  formats : Start → List ℕ → Bool → Case

-- a reply as a row: the status, one more than the action or 0, the handle, the access granted
unfoldable pub reply_row : Reply → List ℕ
reply_row r =
    let s = seen r in
    s.status ∷ elim s.action [ none ↦ 0 | some a ↦ suc a ] ∷ s.handle ∷ s.granted ∷ []

-- a refusal, an accepted open (action, handle, granted), and what succeeds with no action and zeros
abbrev pub refused_row : ℕ → List ℕ
refused_row status = status ∷ 0 ∷ 0 ∷ 0 ∷ []

abbrev pub accepted_row : ℕ → ℕ → ℕ → List ℕ
accepted_row action handle granted = 0 ∷ suc action ∷ handle ∷ granted ∷ []

abbrev pub done_row : List ℕ
done_row = 0 ∷ 0 ∷ 0 ∷ 0 ∷ []

unfoldable pub started : Start → Model
started s = s.altered (model_run s.masks false s.calls).state

unfoldable pub looked : (Model → List (List ℕ)) → Step Model → List (List ℕ)
looked look now = reply_row now.reply ∷ look now.state

unfoldable pub observed : Case → List (List ℕ)
unfolding computes model_run units_from text asking model_with tables_of with_file file_of stored_units type_by files_made links_made rows type_row file_row link_row stream_row entry_row kept keeps mark_row reply_row started looked
observed (refuses s c status) = looked kept (model_step (started s) c)
observed (accepts s c action ms streams entries) = looked kept (model_step (started s) c)
observed (does s c mark ms streams entries) = looked kept (model_step (started s) c)
observed (leaves s c reply f) = looked (λ m. file_row (file_at (tables_of m).files f.0) ∷ []) (model_step (started s) c)
observed (replies s c reply) = looked (λ m. []) (model_step (started s) c)
observed (becomes s c reply m) = looked kept (model_step (started s) c)
observed (refuses_format s masks mark status) = looked kept (model_format (started s) masks mark)
observed (formats s masks mark) = looked kept (model_format (started s) masks mark)

unfoldable pub newest : List Open → Open
newest [] = entry 0 0 0 0 0
newest (o ∷ os) = o

unfoldable pub expected : Case → List (List ℕ)
unfolding observed newest
expected (refuses s c status) = refused_row status ∷ kept (started s)
expected (accepts s c action ms streams entries) =
    let o = newest entries in
    accepted_row action o.handle.0 o.granted
    ∷ keeps s.masks (tables_of (started s)).read_only o.handle.0 ms streams entries
expected (does s c mark ms streams entries) =
    done_row ∷ keeps s.masks mark (started s).count ms streams entries
expected (leaves s c reply f) = reply ∷ file_row f.1 ∷ []
expected (replies s c reply) = reply ∷ []
expected (becomes s c reply m) = reply ∷ kept m
expected (refuses_format s masks mark status) = refused_row status ∷ kept (started s)
expected (formats s masks mark) = done_row ∷ keeps masks mark 0 [] [] []

unfoldable pub equal : List ℕ → List ℕ → Bool
equal [] [] = true
equal [] (y ∷ ys) = false
equal (x ∷ xs) [] = false
equal (x ∷ xs) (y ∷ ys) = eqb x y && equal xs ys

unfoldable pub equal_rows : List (List ℕ) → List (List ℕ) → Bool
equal_rows [] [] = true
equal_rows [] (y ∷ ys) = false
equal_rows (x ∷ xs) [] = false
equal_rows (x ∷ xs) (y ∷ ys) = equal x y && equal_rows xs ys

-- the places in a table, from a number on, of the cases where what is observed is not what is expected
module _ {C : Type 0} where
  unfoldable pub failing : (C → List (List ℕ)) → (C → List (List ℕ)) → ℕ → List C → List ℕ
  unfolding equal equal_rows
  failing observed expected n [] = []
  failing observed expected n (c ∷ cs) =
      let rest = failing observed expected (suc n) cs in
      cond (equal_rows (observed c) (expected c)) rest (n ∷ rest)

-- the statement
abbrev pub Hold : List Case → Type 0
Hold cases = failing observed expected 0 cases ≡ []

-- one case for each number
abbrev pub each : List ℕ → (ℕ → Case) → List Case
each ns case = map case ns

-- a file and a directory made by an open that conflicts with none; one that deletes on close what is there, or what it
-- makes; and the mark set
abbrev pub makes : String → Call
makes path = ask 0x80 7 2 0 path

abbrev pub makes_directory : String → Call
makes_directory path = ask 0x80 7 2 1 path

abbrev pub deletes : String → Call
deletes path = ask 0x10000 7 1 0x1000 path

abbrev pub makes_deleting : String → Call
makes_deleting path = ask 0x10000 7 2 0x1000 path

abbrev pub makes_directory_deleting : String → Call
makes_directory_deleting path = ask 0x10000 7 2 0x1001 path

abbrev pub marks : Call
marks = sets_read_only true
