-- Five writes side by side.
use Rattle.image.specs.Blocks.{preface, place_of}
use Rattle.little_endian.{specs.LittleEndian.to_bytes, proofs.Parts.then}
use Rattle.image_write.specs.Kept.{kept_size, kept_content}
use Rattle.image_write.proofs.write_header.Goals as goal

pub returns : goal.returns
unfolding kept_content preface place_of kept_size to_bytes
returns c =
    then
    (then
    (then (then c.write_u16.ensures c.write_u16-2.ensures) c.write_u16-3.ensures)
    c.write_u16-4.ensures)
    c.copy_part.ensures
