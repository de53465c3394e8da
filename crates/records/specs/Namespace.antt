-- The tables without opens and share counts: what the model keeps of a volume, and all that steps 1 to 9 look at.
use Rattle.std.specs.Prelude.{ℕ, get_or, replicate}
use mathlib.Core.{Bool.{Bool, false}, List.{List, map}}
use Rattle.records.specs.{Sizes.stream_name_limit, Slots.{root, is_used}, declared.{FileNo.FileNo, StreamNo.StreamNo, FileType.{FileType, TheVariants.Unused}, File.File, Link.Link, ShareCounts.ShareCounts, Stream.Stream, Volume.Volume}}

-- a stream without its share counts
pub record BareStream : Type 0 where
  pub file : FileNo
  pub stream_type : FileType
  pub name : List ℕ
  pub delete_pending : Bool

abbrev pub zero_bare : BareStream
zero_bare =
    record { file = root; stream_type = Unused; name = replicate stream_name_limit 0; delete_pending = false }

unfoldable pub bare_used : BareStream → Bool
bare_used s = is_used s.stream_type

unfoldable pub bare_at : List BareStream → StreamNo → BareStream
bare_at ss n = get_or ss n.0 zero_bare

unfoldable pub bare : Stream → BareStream
bare s =
    record { file = s.file; stream_type = s.stream_type; name = s.name; delete_pending = s.delete_pending }

unfoldable pub with_counts : BareStream → ShareCounts → Stream
with_counts b c =
    record {
      file = b.file;
      stream_type = b.stream_type;
      name = b.name;
      counts = c;
      delete_pending = b.delete_pending;
    }

pub record Namespace : Type 0 where
  pub read_only : Bool
  pub files : List File
  pub links : List Link
  pub streams : List BareStream

unfoldable pub namespace : Volume → Namespace
namespace v =
    record { read_only = v.read_only; files = v.files; links = v.links; streams = map bare v.streams }
