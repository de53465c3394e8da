-- What the type of a record says of its arrays: how long each is. A proof hands over what owning a parameter tells,
-- as `masks_length c.args.f _ c.good.0`.
use denote.{Laws.Is, Builtin.{u16, u32}}
use lib.ListN.{length}
use mathlib.Core.{Path.◌≡◌, List.List}
use mir.Val.{Val}
use Rattle.records.proofs.Arrays.{array_length}
use Rattle.records.specs.{Sizes.{accounts, file_name_limit, stream_name_limit}, declared.{File.File, Link.Link, Stream.Stream}}
use Rattle.records.specs.contracts.File as FileT
use Rattle.records.specs.contracts.Link as LinkT
use Rattle.records.specs.contracts.Stream as StreamT

module _ (f : File) (vs : List Val) (good : Is FileT.the_row f vs) where
  pub masks_length : length f.masks ≡ accounts
  masks_length = array_length u32 accounts f.masks _ good.1.1.1.1.0

module _ (l : Link) (vs : List Val) (good : Is LinkT.the_row l vs) where
  pub link_name_length : length l.name ≡ file_name_limit
  link_name_length = array_length u16 file_name_limit l.name _ good.1.1.1.0

module _ (s : Stream) (vs : List Val) (good : Is StreamT.the_row s vs) where
  pub stream_name_length : length s.name ≡ stream_name_limit
  stream_name_length = array_length u16 stream_name_limit s.name _ good.1.1.1.1.0
