-- What is kept of the record is copied.
use Rattle.base.{specs.Base.{◌<◌, file_slots, link_slots, stream_slots}, proofs.Laws.{refl, arith}}
use Rattle.image.specs.Blocks.{preface, place_of}
use Rattle.image_write.proofs.{Blocks.{Within, named-within}}
use Rattle.image_write.specs.Kept.{kept_size, kept_content}
use Rattle.image_write.proofs.write_content.Goals as goal
use Rattle.image_write.proofs.write_content.Goals.{In-FileSlot, In-LinkSlot, In-StreamSlot}

-- a slot that the record names is one that there is
file_slot_lem : (c : In-FileSlot) → c.in-FileSlot.k < file_slots
unfolding Within
file_slot_lem c = named-within _ c.record_of.ensures c.in-FileSlot.is

link_slot_lem : (c : In-LinkSlot) → c.in-LinkSlot.k < link_slots
unfolding Within
link_slot_lem c = named-within _ c.record_of.ensures c.in-LinkSlot.is

stream_slot_lem : (c : In-StreamSlot) → c.in-StreamSlot.k < stream_slots
unfolding Within
stream_slot_lem c = named-within _ c.record_of.ensures c.in-StreamSlot.is

pub returns-in-Header : goal.returns-in-Header
returns-in-Header c =
    rw (← c.record_of.ensures, c.in-Header.is) c.write_header.ensures

pub returns-in-FileSlot : goal.returns-in-FileSlot
unfolding kept_content preface place_of kept_size
returns-in-FileSlot c =
    rw (← c.record_of.ensures, c.in-FileSlot.is) c.copy_part.ensures

pub returns-in-LinkSlot : goal.returns-in-LinkSlot
unfolding kept_content preface place_of kept_size
returns-in-LinkSlot c =
    rw (← c.record_of.ensures, c.in-LinkSlot.is) c.copy_part-in-LinkSlot.ensures

pub returns-in-StreamSlot : goal.returns-in-StreamSlot
unfolding kept_content preface place_of kept_size
returns-in-StreamSlot c =
    rw (← c.record_of.ensures, c.in-StreamSlot.is) c.copy_part-in-StreamSlot.ensures

pub returns-in-Past : goal.returns-in-Past
unfolding kept_content preface place_of kept_size
returns-in-Past c = rw (← c.record_of.ensures, c.in-Past.is) (record { is = refl; kept = refl })

pub overflow_mul-k : goal.overflow_mul-k
overflow_mul-k c = let k = file_slot_lem (goal.at.overflow_mul-k c).In-FileSlot in record { fits = omega arith }

pub overflow_add-k : goal.overflow_add-k
overflow_add-k c = let k = file_slot_lem (goal.at.overflow_add-k c).In-FileSlot in record { fits = omega arith }

pub copy_part-requires : goal.copy_part-requires
copy_part-requires c = let k = file_slot_lem (goal.at.copy_part-requires c).In-FileSlot in (omega arith, omega arith)

pub overflow_mul-k-in-LinkSlot : goal.overflow_mul-k-in-LinkSlot
overflow_mul-k-in-LinkSlot c = let k = link_slot_lem (goal.at.overflow_mul-k-in-LinkSlot c).In-LinkSlot in record { fits = omega arith }

pub overflow_add-k-in-LinkSlot : goal.overflow_add-k-in-LinkSlot
overflow_add-k-in-LinkSlot c = let k = link_slot_lem (goal.at.overflow_add-k-in-LinkSlot c).In-LinkSlot in record { fits = omega arith }

pub copy_part-requires-in-LinkSlot : goal.copy_part-requires-in-LinkSlot
copy_part-requires-in-LinkSlot c = let k = link_slot_lem (goal.at.copy_part-requires-in-LinkSlot c).In-LinkSlot in (omega arith, omega arith)

pub overflow_mul-k-in-StreamSlot : goal.overflow_mul-k-in-StreamSlot
overflow_mul-k-in-StreamSlot c = let k = stream_slot_lem (goal.at.overflow_mul-k-in-StreamSlot c).In-StreamSlot in record { fits = omega arith }

pub overflow_add-k-in-StreamSlot : goal.overflow_add-k-in-StreamSlot
overflow_add-k-in-StreamSlot c = let k = stream_slot_lem (goal.at.overflow_add-k-in-StreamSlot c).In-StreamSlot in record { fits = omega arith }

pub copy_part-requires-in-StreamSlot : goal.copy_part-requires-in-StreamSlot
copy_part-requires-in-StreamSlot c = let k = stream_slot_lem (goal.at.copy_part-requires-in-StreamSlot c).In-StreamSlot in (omega arith, omega arith)
