-- By the tests of the definition.
use Rattle.base.{specs.Base.{bare, file_slots}, proofs.Laws.{arith}}
use borrow.Author.Tests.{lt-ltb, le-ltb}
use Rattle.stored_names.proofs.StoredUnits.{units_empty}
use Rattle.image.specs.Alone.{stream_placed}
use Rattle.image_alone.proofs.stream_placed.Goals as goal

pub returns-then-s-ge-FILE_SLOTS : goal.returns-then-s-ge-FILE_SLOTS
unfolding stream_placed bare
returns-then-s-ge-FILE_SLOTS c = rw (le-ltb _ file_slots c.if-s-ge-FILE_SLOTS.true)

pub returns-then-is_directory : goal.returns-then-is_directory
unfolding stream_placed bare
returns-then-is_directory c =
    let s = c.args.s in
    rw (
      lt-ltb s.file.0 file_slots (omega arith),
      ← c.is_directory.ensures,
      c.if-is_directory.true,
      units_empty s.name,
      ← c.unit_at.ensures,
    )

pub returns-else-is_directory : goal.returns-else-is_directory
unfolding stream_placed bare
returns-else-is_directory c =
    let s = c.args.s in
    rw (lt-ltb s.file.0 file_slots (omega arith), ← c.is_directory.ensures, c.if-is_directory.false)
