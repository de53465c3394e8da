-- The tables in bytes: the volume's mark and next handle, then its files, links and streams, then the opens.
use Rattle.std.specs.Prelude.{◌+◌, ◌-◌, ◌≡◌, ◌&&◌}
use Rattle.base.specs.Base.{ℕ, Bool, true, List, eqb, length, file_slots, link_slots, stream_slots, open_slots, Tables, Handle, File, Link, Stream, Open}
use Rattle.codecs.specs.Codec.{Codec, ◌⊗◌, via, row}
use Rattle.layout.specs.Records.{mark_codec, handle_codec, file_codec, link_codec, counts_codec, stream_codec, open_codec}

-- the tables as the sequence of their parts, and back
abbrev pub Sequence : Type 0
Sequence = Bool × (Handle × (List File × (List Link × (List Stream × List Open))))

abbrev pub parts : Tables → Sequence
parts t = (
  t.volume.read_only,
  (t.volume.next_handle, (t.volume.files, (t.volume.links, (t.volume.streams, t.opens.rows)))),
)

abbrev pub joined : Sequence → Tables
joined p =
    record {
      volume =
          record {
            read_only = p.0;
            next_handle = p.1.0;
            files = p.1.1.0;
            links = p.1.1.1.0;
            streams = p.1.1.1.1.0;
          };
      opens = record { rows = p.1.1.1.1.1 };
    }

abbrev pub files_codec : Codec (List File)
files_codec = row file_codec file_slots

abbrev pub links_codec : Codec (List Link)
links_codec = row link_codec link_slots

abbrev pub streams_codec : Codec (List Stream)
streams_codec = row stream_codec stream_slots

abbrev pub opens_codec : Codec (List Open)
opens_codec = row open_codec open_slots

abbrev pub tables_codec : Codec Tables
tables_codec =
    via joined parts (mark_codec ⊗ handle_codec ⊗ files_codec ⊗ links_codec ⊗ streams_codec ⊗ opens_codec)

-- sizes
abbrev pub file_size : ℕ
file_size = file_codec.size

abbrev pub link_size : ℕ
link_size = link_codec.size

abbrev pub stream_size : ℕ
stream_size = stream_codec.size

abbrev pub open_size : ℕ
open_size = open_codec.size

abbrev pub tables_size : ℕ
tables_size = tables_codec.size

-- places
abbrev pub next_at : ℕ
next_at = mark_codec.size

abbrev pub files_at : ℕ
files_at = next_at + handle_codec.size

abbrev pub links_at : ℕ
links_at = files_at + files_codec.size

abbrev pub streams_at : ℕ
streams_at = links_at + links_codec.size

abbrev pub opens_at : ℕ
opens_at = streams_at + streams_codec.size

-- the marks' places in a file, a stream and an open: last; and that of the counts in a stream, before its mark
abbrev pub file_mark_in : ℕ
file_mark_in = file_size - mark_codec.size

abbrev pub stream_mark_in : ℕ
stream_mark_in = stream_size - mark_codec.size

abbrev pub open_mark_in : ℕ
open_mark_in = open_size - mark_codec.size

abbrev pub counts_in : ℕ
counts_in = stream_mark_in - counts_codec.size

-- the bytes of tables
unfoldable pub encode : Tables → List ℕ
encode t = tables_codec.encode t

-- what bytes stand for
unfoldable pub decode : List ℕ → Tables
decode bs = tables_codec.decode bs

-- whether they stand for tables at all: as many bytes, and marks and kinds that there are
unfoldable pub stands_for_tables : List ℕ → Bool
stands_for_tables bs = eqb (length bs) tables_size && tables_codec.stands bs

-- bytes l changed to bytes m that stand for the tables t: as many, and no mark or kind that there is not has come
pub record Changed (l m : List ℕ) (t : Tables) : Type 0 where
  pub is : decode m ≡ t
  pub long : length m ≡ tables_size
  pub stays : stands_for_tables l ≡ true → stands_for_tables m ≡ true
