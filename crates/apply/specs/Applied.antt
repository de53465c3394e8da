-- What the writes of a decided call leave.
use Rattle.base.specs.Base.{ℕ, suc, List, length, set, file_name_limit, stream_name_limit, last_handle, with_counts, Tables, LinkNo, StreamNo, Link, BareStream, Open}
use Rattle.std.specs.Prelude.{min, ◌≡◌}
use Rattle.codecs.specs.Codec.{Each}
use Rattle.layout.specs.{Layout.{tables_size, Changed}, Puts.put_stream}
use Rattle.sharing.specs.{Sharing.without_open, Saturating.{count_limit, with_open_up_to}}
use Rattle.store.specs.{Complete.{Change, Placed, Decision, new_open}, Store.{write_streams, changed_volume, recount}}
use Rattle.tables.specs.Tables.{stream_at, row_at}

-- the handle after this one; the last stays
unfoldable pub raised : ℕ → ℕ
raised h = min (suc h) last_handle

-- bytes changed to stand for these tables, if the names that are stored have room; as many bytes in any case
pub record Writes (l m : List ℕ) (Room : Type 0) (t : Tables) : Type 0 where
  pub long : length m ≡ tables_size
  pub changed : Room → Changed l m t

-- the names that are stored are as long as their places
abbrev pub StreamNames : List (StreamNo × BareStream) → Type 0
StreamNames ws = Each (λ (w : StreamNo × BareStream). length w.1.name ≡ stream_name_limit) ws

pub record StoredNames (c : Change) : Type 0 where
  pub links : Each (λ (w : LinkNo × Link). length w.1.name ≡ file_name_limit) c.links
  pub streams : StreamNames c.streams

-- the tables with streams written, each in a slot that keeps its share counts
abbrev pub put_bare : Tables → StreamNo → BareStream → Tables
put_bare t n s = put_stream t n (with_counts s (stream_at t.volume.streams n).counts)

abbrev pub put_streams : Tables → List (StreamNo × BareStream) → Tables
put_streams t ws =
    let v = t.volume in
    record {
      volume =
          record {
            read_only = v.read_only;
            next_handle = v.next_handle;
            files = v.files;
            links = v.links;
            streams = write_streams ws v.streams;
          };
      opens = t.opens;
    }

-- the tables with a change beside the opens
abbrev pub placed_in : Tables → Placed → Tables
placed_in t p = record { volume = changed_volume p.change t.volume; opens = t.opens }

-- an open stored in a row: its stream's counts end at their limit, and so does the next handle
unfoldable pub open_stored : Tables → ℕ → Open → Tables
open_stored t row o =
    record {
      volume =
          record {
            read_only = t.volume.read_only;
            next_handle = record { 0 = raised o.handle.0 };
            files = t.volume.files;
            links = t.volume.links;
            streams = recount (with_open_up_to count_limit o) o.stream t.volume.streams;
          };
      opens = record { rows = set t.opens.rows row o };
    }

-- an accepted open
unfoldable pub applied : Tables → Decision → ℕ → Tables
applied t d row = open_stored (placed_in t d.placed) row (new_open d)

-- the open of a row struck, for which the record of a free row stands there
unfoldable pub struck_from : Tables → ℕ → Open → Tables
struck_from t row free =
    let o = row_at t.opens row in
    record {
      volume =
          record {
            read_only = t.volume.read_only;
            next_handle = t.volume.next_handle;
            files = t.volume.files;
            links = t.volume.links;
            streams = recount (without_open o) o.stream t.volume.streams;
          };
      opens = record { rows = set t.opens.rows row free };
    }
