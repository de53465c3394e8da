-- By the cases.
use Rattle.little_endian.specs.LittleEndian.{to_bytes}
use Rattle.image.specs.Blocks.{size_of, preface, record_at}
use Rattle.image_alone.proofs.record_end.Goals as goal

pub returns-in-Header : goal.returns-in-Header
unfolding record_at preface size_of to_bytes
returns-in-Header c = rw c.in-Header.is

pub returns-in-FileSlot : goal.returns-in-FileSlot
unfolding record_at preface size_of
returns-in-FileSlot c = rw c.in-FileSlot.is

pub returns-in-LinkSlot : goal.returns-in-LinkSlot
unfolding record_at preface size_of
returns-in-LinkSlot c = rw c.in-LinkSlot.is

pub returns-in-StreamSlot : goal.returns-in-StreamSlot
unfolding record_at preface size_of
returns-in-StreamSlot c = rw c.in-StreamSlot.is

pub returns-in-Past : goal.returns-in-Past
unfolding record_at preface size_of
returns-in-Past c = rw c.in-Past.is
