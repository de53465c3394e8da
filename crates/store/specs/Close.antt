-- What a close does, once its open is struck: the open's file or named stream may be marked, and goes with its last open.
-- The object store and the model share this text; the opens asked about are those that remain.
use Rattle.std.specs.Prelude.{◌&&◌, ◌||◌}
use Rattle.base.specs.Base.{Bool, true, cond, not, List, map, get_or, set, is_empty, zero_file, zero_link, zero_bare, Namespace, BareStream, bare_at, Checked, some_or, InvalidHandle, FileNo, StreamNo, Handle, File, Link, Open}
use Rattle.consistency.specs.Relations.{link_to, has_children, stream_of}
use Rattle.stored_names.specs.StoredNames.{units}
use Rattle.tables.specs.Tables.{file_at}
use Rattle.store.specs.Complete.{View}

-- what becomes of the file or stream of an open that is closed
pub data CloseEffect : Type 0 where
  unchanged : CloseEffect
  file_marked file_removed : FileNo → CloseEffect
  stream_marked stream_removed : StreamNo → CloseEffect

-- a delete-on-close open marks its file, unless that has children; one of a named stream marks that stream alone
unfoldable pub of_named_stream : Namespace → Open → Bool
of_named_stream ns o = not (is_empty (units (bare_at ns.streams o.stream).name))

unfoldable pub marks_file : Namespace → Open → Bool
marks_file ns o = o.delete_on_close && not (of_named_stream ns o) && not (has_children ns.links o.file)

unfoldable pub marks_stream : Namespace → Open → Bool
marks_stream ns o = o.delete_on_close && of_named_stream ns o

-- a file goes when no open on any of its streams remains, counted or not; a stream of a file that stays, when none on it
-- does
unfoldable pub removes_file : View → Namespace → Open → Bool
removes_file view ns o =
    ((file_at ns.files o.file).delete_pending || marks_file ns o) && not (view.file_open o.file)

unfoldable pub removes_stream : View → Namespace → Open → Bool
removes_stream view ns o =
    ((bare_at ns.streams o.stream).delete_pending || marks_stream ns o) && not (view.stream_open o.stream)

unfoldable pub close_effect : View → Namespace → Open → CloseEffect
close_effect view ns o =
    cond (removes_file view ns o) (file_removed o.file)
    (cond (removes_stream view ns o) (stream_removed o.stream)
    (cond (marks_file ns o) (file_marked o.file)
    (cond (marks_stream ns o) (stream_marked o.stream) unchanged)))

-- the records that pass become all zero: their slots serve again
unfoldable pub cleared : {A : Type 0} → (A → Bool) → A → List A → List A
cleared p zero xs = map (λ x. cond (p x) zero x) xs

unfoldable pub marked_file : File → File
marked_file f =
    record { file_type = f.file_type; attributes = f.attributes; masks = f.masks; delete_pending = true }

-- the tables after it. A file goes with its link and its streams
unfoldable pub files_after : CloseEffect → List File → List File
files_after (file_marked f) fs = set fs f.0 (marked_file (file_at fs f))
files_after (file_removed f) fs = set fs f.0 zero_file
files_after unchanged fs = fs
files_after (stream_marked s) fs = fs
files_after (stream_removed s) fs = fs

unfoldable pub links_after : CloseEffect → List Link → List Link
links_after (file_removed f) ls = cleared (link_to f) zero_link ls
links_after unchanged ls = ls
links_after (file_marked f) ls = ls
links_after (stream_marked s) ls = ls
links_after (stream_removed s) ls = ls

unfoldable pub marked_bare : BareStream → BareStream
marked_bare s = record { file = s.file; stream_type = s.stream_type; name = s.name; delete_pending = true }

-- streams with their counts or without, by what is read of one, the one that is all zero and one that is marked
module _ {A : Type 0} (read : A → BareStream) (zero : A) (marked : A → A) where
  unfoldable pub streams_after : CloseEffect → List A → List A
  streams_after (stream_marked s) ss = set ss s.0 (marked (get_or ss s.0 zero))
  streams_after (stream_removed s) ss = set ss s.0 zero
  streams_after (file_removed f) ss = cleared (λ s. stream_of f (read s)) zero ss
  streams_after unchanged ss = ss
  streams_after (file_marked f) ss = ss

unfoldable pub namespace_after : CloseEffect → Namespace → Namespace
namespace_after e ns =
    record {
      read_only = ns.read_only;
      files = files_after e ns.files;
      links = links_after e ns.links;
      streams = streams_after (λ s. s) zero_bare marked_bare e ns.streams;
    }

-- the open that a handle names
unfoldable pub decide_close : View → Handle → Checked Open
decide_close view h = some_or InvalidHandle (view.open_of h)
