-- The part that was lent is written over.
use Rattle.base.{specs.Base.{◌+◌, ◌-◌, ◌≡◌}, proofs.Laws.{sym, ◌∙◌, arith}}
use Rattle.codecs.proofs.Fields.{part_length}
use Rattle.little_endian.specs.LittleEndian.{part}
use Rattle.byte_rows.proofs.{Parts.part_written}
use Rattle.byte_rows.proofs.copy_part.Goals as goal

pub returns : goal.returns
returns c =
    let call = c in
    let a = call.args in
    let size : a.at + a.size - a.at ≡ a.size = omega arith in
    let left : a.start + a.size - a.start ≡ a.size = omega arith in
    part_written a.to.now (part a.from.now a.start a.size) a.at (a.at + a.size - a.at)
    (rw left at call.copy.ensures) (part_length a.from.now a.start a.size (omega arith) ∙ sym size) (omega arith)
