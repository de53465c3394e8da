-- What the type of a record says of each element of its arrays: its number fits.
use Prim.Native.Nat.{ℕ, ◌^◌, ◌<◌}
use denote.{Laws.Is, Builtin.{u16, u32}}
use lib.ListN.{get_or}
use mathlib.Core.List.{List}
use mir.Val.{Val}
use native.Mathlib.Omega.{arith}
use Rattle.records.proofs.{Arrays.array_element, Lengths.{masks_length, link_name_length, stream_name_length}}
use Rattle.records.specs.{Sizes.{accounts, file_name_limit, stream_name_limit}, declared.{File.File, Link.Link, Stream.Stream}}
use Rattle.records.specs.contracts.File as FileT
use Rattle.records.specs.contracts.Link as LinkT
use Rattle.records.specs.contracts.Stream as StreamT

module _ (f : File) (vs : List Val) (good : Is FileT.the_row f vs) where
  pub mask_fits : (i : ℕ) → i < accounts → get_or f.masks i 0 < 2 ^ 32
  mask_fits i h =
      let e = masks_length f vs good in
      (array_element u32 accounts f.masks _ good.1.1.1.1.0 i 0 (omega arith)).1.1

module _ (l : Link) (vs : List Val) (good : Is LinkT.the_row l vs) where
  pub link_unit_fits : (i : ℕ) → i < file_name_limit → get_or l.name i 0 < 2 ^ 16
  link_unit_fits i h =
      let e = link_name_length l vs good in
      (array_element u16 file_name_limit l.name _ good.1.1.1.0 i 0 (omega arith)).1.1

module _ (s : Stream) (vs : List Val) (good : Is StreamT.the_row s vs) where
  pub stream_unit_fits : (i : ℕ) → i < stream_name_limit → get_or s.name i 0 < 2 ^ 16
  stream_unit_fits i h =
      let e = stream_name_length s vs good in
      (array_element u16 stream_name_limit s.name _ good.1.1.1.1.0 i 0 (omega arith)).1.1
