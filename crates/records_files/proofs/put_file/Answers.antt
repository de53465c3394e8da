-- The fields are written side by side.
use Rattle.base.proofs.Laws.{arith}
use Rattle.codecs.proofs.Rows.{row_after}
use Rattle.little_endian.proofs.Numbers.{after}
use Rattle.records.proofs.Lengths.{masks_length}
use Rattle.records_files.proofs.put_file.Goals as goal

pub write_words-requires : goal.write_words-requires
write_words-requires c =
    let n = masks_length c.args.f _ c.well_formed.1.1.0 in
    omega arith

pub returns : goal.returns
returns c =
    let n = masks_length c.args.f _ c.well_formed.1.1.0 in
    after 2 _ (omega arith) (rw c.kind_number.ensures at c.write_u16.ensures)
    (after 4 _ (omega arith) c.write_u32.ensures
    (row_after 4 c.args.f.masks (omega arith) c.write_words.ensures
    (rw c.mark_number.ensures at c.write_u16-2.ensures)))
