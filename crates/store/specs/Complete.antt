-- The sharing check, step 10's share-read rule and step 12: whether a pending open is accepted, and what it changes.
-- The object store and the model share this text; each answers the questions about its opens in its own way.
use Rattle.std.specs.Prelude.{◌∷◌}
use Rattle.base.specs.Base.{ℕ, suc, Bool, false, cond, not, List, [], Option, none, some, bit_or, eqb, is_empty, padded, writes, file_name_limit, stream_name_limit, last_handle, share_read, Terms, Namespace, BareStream, Checked, passed, ◌>>=◌, ◌>>◌, refuse_if, AccessDenied, SharingViolation, TooManyOpenedFiles, InsufficientResources, Reply, Success, CreateAction, Created, FileType, Data, FileNo, LinkNo, StreamNo, Handle, File, Link, Open, Request}
use Rattle.free_slots.specs.Free.{free_file, free_link, free_stream}
use Rattle.tables.specs.Tables.{file_at}
use Rattle.store.specs.{Request.deletes_on_close, Prepare.{ReadSharing, as_offered, added_if_alone, denied_if_alone, Existing, Creation, new_stream, new_file, Pending, existing, creating, prepare}}

-- the questions about the opens: does one on the stream conflict with these terms, has the file any open at all, has the
-- stream, which open has the handle, is a slot free, what is the next handle
pub record View : Type 0 where
  pub conflicts : StreamNo → Terms → Bool
  pub file_open : FileNo → Bool
  pub stream_open : StreamNo → Bool
  pub open_of : Handle → Option Open
  pub room : Bool
  pub next : ℕ

-- what an open changes beside the opens: records written at their numbers
pub record Change : Type 0 where
  pub files : List (FileNo × File)
  pub links : List (LinkNo × Link)
  pub streams : List (StreamNo × BareStream)

abbrev pub no_change : Change
no_change = record { files = []; links = []; streams = [] }

unfoldable pub changed : Change → Namespace → Namespace
changed c ns =
    record {
      read_only = ns.read_only;
      files = writes (λ n. n.0) c.files ns.files;
      links = writes (λ n. n.0) c.links ns.links;
      streams = writes (λ n. n.0) c.streams ns.streams;
    }

-- the change that an open makes, and the file and stream that it opens
pub record Placed : Type 0 where
  pub change : Change
  pub file : FileNo
  pub stream : StreamNo

-- an accepted open
pub record Decision : Type 0 where
  pub action : CreateAction
  pub placed : Placed
  pub terms : Terms
  pub handle : Handle
  pub delete_on_close : Bool

-- the open as it is stored
abbrev pub new_open : Decision → Open
new_open d =
    record {
      handle = d.handle;
      file = d.placed.file;
      stream = d.placed.stream;
      granted = d.terms.granted;
      share = d.terms.share;
      delete_on_close = d.delete_on_close;
    }

-- what the caller of an accepted open gets
abbrev pub open_reply : Decision → Reply
open_reply d = record { outcome = Success d.action d.handle; granted = d.terms.granted }

-- step 10's end: the terms that the open is stored and counted with
unfoldable pub with_share_read : Terms → Terms
with_share_read t = record { granted = t.granted; share = bit_or t.share share_read }

unfoldable pub share_of : ReadSharing → Bool → Terms → Checked Terms
share_of as_offered alone t = passed t
share_of added_if_alone alone t = passed (cond alone (with_share_read t) t)
share_of denied_if_alone alone t = refuse_if alone AccessDenied >> passed t

-- the records that an open adds, at their slots
unfoldable pub with_attributes : ℕ → File → File
with_attributes attributes f =
    record {
      file_type = f.file_type;
      attributes = attributes;
      masks = f.masks;
      delete_pending = f.delete_pending;
    }

unfoldable pub stream_new : FileNo → FileType → List ℕ → BareStream
stream_new f type name =
    record { file = f; stream_type = type; name = padded stream_name_limit name; delete_pending = false }

unfoldable pub link_new : FileNo → List ℕ → FileNo → Link
link_new dir name f = record { parent = dir; name = padded file_name_limit name; file = f }

-- a new file with its streams: the empty-named one, and above it the one that the path names
unfoldable pub place_file : FileNo × File → LinkNo × Link → List (StreamNo × BareStream) → StreamNo → Placed
place_file file link streams opened =
    record {
      change = record { files = file ∷ []; links = link ∷ []; streams = streams };
      file = file.0;
      stream = opened;
    }

unfoldable pub place_streams : Namespace → FileNo × File → LinkNo × Link → List ℕ → StreamNo → Checked Placed
place_streams ns file link name s =
    let unnamed = stream_new file.0 file.1.file_type [] in
    cond (is_empty name) (passed (place_file file link ((s, unnamed) ∷ []) s))
    (free_stream ns (suc s.0)
    >>= (λ t.
    passed (place_file file link ((s, unnamed) ∷ (t, stream_new file.0 file.1.file_type name) ∷ []) t)))

unfoldable pub place : Namespace → Creation → Checked Placed
place ns (new_stream f leaf attributes) = do
  s ← free_stream ns 0
  passed
      (record {
        change =
            record {
              files = (f, with_attributes attributes (file_at ns.files f)) ∷ [];
              links = [];
              streams = (s, stream_new f Data leaf.stream) ∷ [];
            };
        file = f;
        stream = s;
      })
place ns (new_file dir leaf file) = do
  f ← free_file ns
  l ← free_link ns
  s ← free_stream ns 0
  place_streams ns (f, file) (l, link_new dir leaf.file f) leaf.stream s

-- step 12, the open's slot and handle
unfoldable pub next_handle : View → Checked Handle
next_handle view = do
  refuse_if (not view.room) TooManyOpenedFiles
  refuse_if (eqb view.next last_handle) InsufficientResources
  passed (record { 0 = view.next })

unfoldable pub attribute_change : Namespace → FileNo → Option ℕ → Change
attribute_change ns f none = no_change
attribute_change ns f (some a) =
    record { files = (f, with_attributes a (file_at ns.files f)) ∷ []; links = []; streams = [] }

unfoldable pub place_existing : Namespace → Existing → Placed
place_existing ns e =
    record { change = attribute_change ns e.file e.attributes; file = e.file; stream = e.stream }

unfoldable pub complete : View → Namespace → Bool → Pending → Checked Decision
complete view ns deletes (existing e) = do
  refuse_if (view.conflicts e.stream e.terms) SharingViolation
  terms ← share_of e.read_sharing (not (view.file_open e.file)) e.terms
  handle ← next_handle view
  passed
      (record {
        action = e.action;
        placed = place_existing ns e;
        terms = terms;
        handle = handle;
        delete_on_close = deletes;
      })
complete view ns deletes (creating c terms) = do
  placed ← place ns c
  handle ← next_handle view
  passed (record { action = Created; placed = placed; terms = terms; handle = handle; delete_on_close = deletes })

-- the twelve steps
unfoldable pub decide : View → Namespace → Request → List ℕ → Checked Decision
decide view ns r units = prepare ns r units >>= complete view ns (deletes_on_close r)
