-- What a decided open stands for (the sharing check and step 12).
use Rattle.std.specs.Prelude.{◌∷◌}
use Rattle.base.specs.Base.{ℕ, cond, List, [], is_empty, Namespace, BareStream, as_option, Data, StreamNo}
use Rattle.components.specs.Positions.{part_of}
use Rattle.store.specs.Complete.{Placed, Decision, with_attributes, stream_new, link_new, place_file, attribute_change}
use Rattle.tables.specs.Tables.{file_at}
use Rattle.open_steps.specs.{Pendings.as_file, declared.{StreamToAdd.StreamToAdd, FileToAdd.FileToAdd, FileSlots.FileSlots, PlacedOpen.PlacedOpen, AcceptedOpen.AcceptedOpen}}
use Rattle.open_steps.specs.declared.PlacedOpen.TheVariants as Place

-- a stream added to a file
unfoldable pub placed_stream : Namespace → List ℕ → StreamToAdd → StreamNo → Placed
placed_stream ns path s n =
    record {
      change =
          record {
            files = (s.file, with_attributes s.attributes (file_at ns.files s.file)) ∷ [];
            links = [];
            streams = (n, stream_new s.file Data (part_of path s.leaf.stream)) ∷ [];
          };
      file = s.file;
      stream = n;
    }

-- the streams of a new file: the empty-named one, and above it the one that the path names
unfoldable pub streams_added : List ℕ → FileToAdd → FileSlots → List (StreamNo × BareStream)
streams_added path f at =
    let name = part_of path f.leaf.stream in
    let unnamed : StreamNo × BareStream = (at.unnamed, stream_new at.file f.file_type []) in
    cond (is_empty name) (unnamed ∷ []) (unnamed ∷ (at.opened, stream_new at.file f.file_type name) ∷ [])

unfoldable pub as_placed : Namespace → List ℕ → PlacedOpen → Placed
as_placed ns path (Place.Existing f s a) =
    record { change = attribute_change ns f (as_option a); file = f; stream = s }
as_placed ns path (Place.NewStream s n) = placed_stream ns path s n
as_placed ns path (Place.NewFile f at) =
    place_file (at.file, as_file ns.files f) (at.link, link_new f.dir (part_of path f.leaf.file) at.file)
    (streams_added path f at) at.opened

unfoldable pub as_accepted : Namespace → List ℕ → AcceptedOpen → Decision
as_accepted ns path a =
    record {
      action = a.action;
      placed = as_placed ns path a.placed;
      terms = a.terms;
      handle = a.handle;
      delete_on_close = a.delete_on_close;
    }
