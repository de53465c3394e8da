-- The object store (the paper's desk): open, close and set_read_only on the tables. A refusal leaves every table as it
-- was.
use Rattle.std.specs.Prelude.{◌∷◌}
use Rattle.base.specs.Base.{ℕ, suc, Bool, not, List, [], Option, none, some, set, any, find, first, writes, zero_stream, zero_open, open_used, BareStream, bare, with_counts, namespace, Checked, passed, ◌>>=◌, ◌>>◌, refuse_if, Tables, Step, done, concluded, FileCorruptError, StreamNo, Handle, ShareCounts, Stream, Open, Volume, Request}
use Rattle.consistency.specs.Test.{consistent}
use Rattle.open_table.specs.Rows.{free_row}
unfoldable pub use Rattle.open_table.specs.Rows.{has_handle}
use Rattle.sharing.specs.Sharing.{share_check, with_open, without_open}
use Rattle.tables.specs.Tables.{stream_at, file_has_open, stream_has_open}
use Rattle.store.specs.{Complete.{View, Change, Decision, new_open, open_reply, decide}, Close.{CloseEffect, close_effect, files_after, links_after, marked_bare, streams_after, decide_close}}

-- the tables' answers about the opens: conflicts by the share check
unfoldable pub store_view : Tables → View
store_view t =
    record {
      conflicts = λ s terms. share_check (stream_at t.volume.streams s).counts terms;
      file_open = file_has_open t.opens.rows;
      stream_open = stream_has_open t.opens.rows;
      open_of = λ h. find (has_handle h) t.opens.rows;
      room = any (λ o. not (open_used o)) t.opens.rows;
      next = t.volume.next_handle.0;
    }

-- a change carried out on the volume: a stream that is written keeps its share counts
unfoldable pub write_streams : List (StreamNo × BareStream) → List Stream → List Stream
write_streams [] ss = ss
write_streams (w ∷ ws) ss = write_streams ws (set ss w.0.0 (with_counts w.1 (stream_at ss w.0).counts))

unfoldable pub changed_volume : Change → Volume → Volume
changed_volume c v =
    record {
      read_only = v.read_only;
      next_handle = v.next_handle;
      files = writes (λ n. n.0) c.files v.files;
      links = writes (λ n. n.0) c.links v.links;
      streams = write_streams c.streams v.streams;
    }

-- a stream's share counts changed
unfoldable pub recount : (ShareCounts → ShareCounts) → StreamNo → List Stream → List Stream
recount f s ss = set ss s.0 (with_counts (bare (stream_at ss s)) (f (stream_at ss s).counts))

-- a row stored at the place that a search found
unfoldable pub stored : Open → Option ℕ → List Open → List Open
stored o none os = os
stored o (some i) os = set os i o

-- the open takes the lowest free slot and joins its stream's share counts, and the next handle rises by one
unfoldable pub rows_with_open : Open → List Open → List Open
rows_with_open o os = stored o (free_row os) os

unfoldable pub volume_with_open : Open → Volume → Volume
volume_with_open o v =
    record {
      read_only = v.read_only;
      next_handle = record { 0 = suc v.next_handle.0 };
      files = v.files;
      links = v.links;
      streams = recount (with_open o) o.stream v.streams;
    }

unfoldable pub opened : Tables → Decision → Step Tables
opened t d =
    record {
      reply = open_reply d;
      state =
          record {
            volume = volume_with_open (new_open d) (changed_volume d.placed.change t.volume);
            opens = record { rows = rows_with_open (new_open d) t.opens.rows };
          };
    }

-- the open's slot is free again, and the open leaves its stream's share counts
unfoldable pub rows_without_open : Open → List Open → List Open
rows_without_open o os = stored zero_open (first (has_handle o.handle) os) os

unfoldable pub volume_without_open : Open → Volume → Volume
volume_without_open o v =
    record {
      read_only = v.read_only;
      next_handle = v.next_handle;
      files = v.files;
      links = v.links;
      streams = recount (without_open o) o.stream v.streams;
    }

unfoldable pub struck : Tables → Open → Tables
struck t o =
    record {
      volume = volume_without_open o t.volume;
      opens = record { rows = rows_without_open o t.opens.rows };
    }

-- then what becomes of its file and stream, by the opens that remain. A stream that goes takes its share counts along
unfoldable pub marked_stream : Stream → Stream
marked_stream s = with_counts (marked_bare (bare s)) s.counts

unfoldable pub volume_after : CloseEffect → Volume → Volume
volume_after e v =
    record {
      read_only = v.read_only;
      next_handle = v.next_handle;
      files = files_after e v.files;
      links = links_after e v.links;
      streams = streams_after bare zero_stream marked_stream e v.streams;
    }

unfoldable pub settled : Tables → Open → Tables
settled t o =
    record {
      volume = volume_after (close_effect (store_view t) (namespace t.volume) o) t.volume;
      opens = t.opens;
    }

unfoldable pub closed : Tables → Open → Step Tables
closed t o = done (settled (struck t o) o)

-- the read-only mark and nothing else
unfoldable pub volume_marked : Bool → Volume → Volume
volume_marked read_only v =
    record {
      read_only = read_only;
      next_handle = v.next_handle;
      files = v.files;
      links = v.links;
      streams = v.streams;
    }

-- consistency comes first in open, close and set_read_only
unfoldable pub when_consistent : Tables → Checked (Step Tables) → Step Tables
when_consistent t answer =
    concluded t (refuse_if (not (consistent t.volume t.opens)) FileCorruptError >> answer)

unfoldable pub store_open : Tables → Request → List ℕ → Step Tables
store_open t r units =
    when_consistent t (decide (store_view t) (namespace t.volume) r units >>= (λ d. passed (opened t d)))

unfoldable pub store_close : Tables → Handle → Step Tables
store_close t h = when_consistent t (decide_close (store_view t) h >>= (λ o. passed (closed t o)))

-- the paper's switch
unfoldable pub store_set_read_only : Tables → Bool → Step Tables
store_set_read_only t read_only =
    when_consistent t (passed (done (record { volume = volume_marked read_only t.volume; opens = t.opens })))
