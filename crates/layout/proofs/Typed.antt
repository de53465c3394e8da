-- What the type of a record says: its numbers fit their fields, and its rows are as long.
use Rattle.base.{specs.Base.{List, File, Link, ShareCounts, Stream, Open}, proofs.Laws.arith}
use denote.Laws.{Is}
use mir.Val.{Val}
use Rattle.codecs.{specs.Codec.Below, proofs.Laws.each_from}
use Rattle.records.proofs.{Lengths.{masks_length, link_name_length, stream_name_length}, Elements.{mask_fits, link_unit_fits, stream_unit_fits}}
use Rattle.layout.specs.Fits.{FileFits, LinkFits, CountsFit, StreamFits, OpenFits}
use Rattle.records.specs.contracts.File as FileT
use Rattle.records.specs.contracts.Link as LinkT
use Rattle.records.specs.contracts.ShareCounts as CountsT
use Rattle.records.specs.contracts.Stream as StreamT
use Rattle.records.specs.contracts.Open as OpenT

pub file_fits : (f : File) (vs : List Val) → Is FileT.the_row f vs → FileFits f
file_fits f vs good =
    let n = masks_length f vs good in
    record {
      attributes = good.1.1.1.0.1;
      masks = record { count = n; each = each_from (Below 4) 0 f.masks (λ i h. mask_fits f vs good i (omega arith)) };
    }

pub link_fits : (l : Link) (vs : List Val) → Is LinkT.the_row l vs → LinkFits l
link_fits l vs good =
    let n = link_name_length l vs good in
    record {
      parent = good.1.1.0.1.1.0.1;
      file = good.1.1.1.1.0.1.1.0.1;
      name = record { count = n; each = each_from (Below 2) 0 l.name (λ i h. link_unit_fits l vs good i (omega arith)) };
    }

pub counts_fit : (c : ShareCounts) (vs : List Val) → Is CountsT.the_row c vs → CountsFit c
counts_fit c vs good =
    record {
      opens = good.1.1.0.1;
      readers = good.1.1.1.0.1;
      writers = good.1.1.1.1.0.1;
      deleters = good.1.1.1.1.1.0.1;
      shared_read = good.1.1.1.1.1.1.0.1;
      shared_write = good.1.1.1.1.1.1.1.0.1;
      shared_delete = good.1.1.1.1.1.1.1.1.0.1;
    }

pub stream_fits : (s : Stream) (vs : List Val) → Is StreamT.the_row s vs → StreamFits s
stream_fits s vs good =
    let n = stream_name_length s vs good in
    record {
      file = good.1.1.0.1.1.0.1;
      name = record { count = n; each = each_from (Below 2) 0 s.name (λ i h. stream_unit_fits s vs good i (omega arith)) };
      counts = counts_fit s.counts _ good.1.1.1.1.1.0;
    }

pub open_fits : (o : Open) (vs : List Val) → Is OpenT.the_row o vs → OpenFits o
open_fits o vs good =
    record {
      handle = good.1.1.0.1.1.0.1;
      file = good.1.1.1.0.1.1.0.1;
      stream = good.1.1.1.1.0.1.1.0.1;
      granted = good.1.1.1.1.1.0.1;
      share = good.1.1.1.1.1.1.0.1;
    }
