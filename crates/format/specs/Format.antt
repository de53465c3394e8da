-- Format: eight masks and a read-only mark make fresh tables. It needs right lengths, tested before the masks.
use Rattle.std.specs.Prelude.{◌&&◌}
use Rattle.base.specs.Base.{ℕ, Bool, false, not, List, eqb, length, replicate, set, all, file_slots, link_slots, stream_slots, open_slots, file_name_limit, stream_name_limit, accounts, directory, root, zero_file, zero_link, zero_counts, zero_stream, zero_open, Checked, passed, ◌>>◌, refuse_if, Tables, Step, done, concluded, FileCorruptError, InvalidParameter, Directory, File, Stream, Volume, OpenTable}
use Rattle.consistency.specs.Relations.{valid_masks}

-- "lengths are as above": of the tables, and of the arrays in their records
unfoldable pub right_lengths : Volume → OpenTable → Bool
right_lengths v t =
    eqb (length v.files) file_slots
    && eqb (length v.links) link_slots
    && eqb (length v.streams) stream_slots
    && eqb (length t.rows) open_slots
    && all (λ f. eqb (length f.masks) accounts) v.files
    && all (λ l. eqb (length l.name) file_name_limit) v.links
    && all (λ s. eqb (length s.name) stream_name_limit) v.streams

-- file 0 and its stream
unfoldable pub root_file : List ℕ → File
root_file masks =
    record { file_type = Directory; attributes = directory; masks = masks; delete_pending = false }

abbrev pub root_stream : Stream
root_stream =
    record {
      file = root;
      stream_type = Directory;
      name = replicate stream_name_limit 0;
      counts = zero_counts;
      delete_pending = false;
    }

unfoldable pub fresh_volume : List ℕ → Bool → Volume
fresh_volume masks read_only =
    record {
      read_only = read_only;
      next_handle = record { 0 = 1 };
      files = set (replicate file_slots zero_file) 0 (root_file masks);
      links = replicate link_slots zero_link;
      streams = set (replicate stream_slots zero_stream) 0 root_stream;
    }

abbrev pub fresh_opens : OpenTable
fresh_opens = record { rows = replicate open_slots zero_open }

-- fresh tables: all zero but file 0 and its stream
unfoldable pub fresh_tables : List ℕ → Bool → Tables
fresh_tables masks read_only = record { volume = fresh_volume masks read_only; opens = fresh_opens }

-- what format refuses; the masks alone decide where there are no tables
unfoldable pub checked_masks : List ℕ → Checked (Unit {0})
checked_masks masks = refuse_if (not (valid_masks masks)) InvalidParameter

unfoldable pub format : Tables → List ℕ → Bool → Step Tables
format t masks read_only =
    concluded t do
      refuse_if (not (right_lengths t.volume t.opens)) FileCorruptError
      checked_masks masks
      passed (done (fresh_tables masks read_only))
