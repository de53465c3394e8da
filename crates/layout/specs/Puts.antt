-- The tables with one record or field put; past a table's end nothing is.
use Rattle.base.specs.Base.{ℕ, Bool, get_or, set, zero_stream, Tables, FileNo, LinkNo, StreamNo, Handle, File, Link, ShareCounts, Stream, Open}

abbrev pub put_mark : Tables → Bool → Tables
put_mark t m =
    let v = t.volume in
    record {
      volume =
          record {
            read_only = m;
            next_handle = v.next_handle;
            files = v.files;
            links = v.links;
            streams = v.streams;
          };
      opens = t.opens;
    }

abbrev pub put_next : Tables → Handle → Tables
put_next t h =
    let v = t.volume in
    record {
      volume =
          record {
            read_only = v.read_only;
            next_handle = h;
            files = v.files;
            links = v.links;
            streams = v.streams;
          };
      opens = t.opens;
    }

abbrev pub put_file : Tables → FileNo → File → Tables
put_file t n f =
    let v = t.volume in
    record {
      volume =
          record {
            read_only = v.read_only;
            next_handle = v.next_handle;
            files = set v.files n.0 f;
            links = v.links;
            streams = v.streams;
          };
      opens = t.opens;
    }

abbrev pub put_link : Tables → LinkNo → Link → Tables
put_link t n l =
    let v = t.volume in
    record {
      volume =
          record {
            read_only = v.read_only;
            next_handle = v.next_handle;
            files = v.files;
            links = set v.links n.0 l;
            streams = v.streams;
          };
      opens = t.opens;
    }

abbrev pub put_stream : Tables → StreamNo → Stream → Tables
put_stream t n s =
    let v = t.volume in
    record {
      volume =
          record {
            read_only = v.read_only;
            next_handle = v.next_handle;
            files = v.files;
            links = v.links;
            streams = set v.streams n.0 s;
          };
      opens = t.opens;
    }

-- a stream's share counts alone
abbrev pub recounted : Stream → ShareCounts → Stream
recounted s c =
    record {
      file = s.file;
      stream_type = s.stream_type;
      name = s.name;
      counts = c;
      delete_pending = s.delete_pending;
    }

abbrev pub put_counts : Tables → StreamNo → ShareCounts → Tables
put_counts t n c = put_stream t n (recounted (get_or t.volume.streams n.0 zero_stream) c)

abbrev pub put_open : Tables → ℕ → Open → Tables
put_open t n o = record { volume = t.volume; opens = record { rows = set t.opens.rows n o } }
