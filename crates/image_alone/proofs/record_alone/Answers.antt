-- By the cases.
use Rattle.image.specs.{Blocks.{size_of, preface, record_at}, Alone.{record_in, record_alone}}
use Rattle.image_alone.proofs.record_alone.Goals as goal

pub returns-in-Header : goal.returns-in-Header
unfolding record_alone
returns-in-Header c = rw c.in-Header.is c.header_alone.ensures

pub returns-then-file_stands : goal.returns-then-file_stands
unfolding record_alone record_in record_at preface size_of
returns-then-file_stands c =
    rw (
      c.in-FileSlot.is,
      ← c.file_stands.ensures,
      c.if-file_stands.true,
      ← c.file_from.ensures,
    )
    c.file_alone.ensures

pub returns-else-file_stands : goal.returns-else-file_stands
unfolding record_alone record_in record_at preface size_of
returns-else-file_stands c = rw (c.in-FileSlot.is, ← c.file_stands.ensures, c.if-file_stands.false)

pub returns-in-LinkSlot : goal.returns-in-LinkSlot
unfolding record_alone record_in record_at preface size_of
returns-in-LinkSlot c = rw (c.in-LinkSlot.is, ← c.link_from.ensures) c.link_alone.ensures

pub returns-then-stream_stands : goal.returns-then-stream_stands
unfolding record_alone record_in record_at preface size_of
returns-then-stream_stands c =
    rw (
      c.in-StreamSlot.is,
      ← c.stream_stands.ensures,
      c.if-stream_stands.true,
      ← c.stream_from.ensures,
    )
    c.stream_alone.ensures

pub returns-else-stream_stands : goal.returns-else-stream_stands
unfolding record_alone record_in record_at preface size_of
returns-else-stream_stands c = rw (c.in-StreamSlot.is, ← c.stream_stands.ensures, c.if-stream_stands.false)

pub returns-in-Past : goal.returns-in-Past
unfolding record_alone
returns-in-Past c = rw c.in-Past.is
