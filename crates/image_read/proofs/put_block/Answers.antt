-- The record that the block holds is written at its place.
use Rattle.base.{specs.Base.{◌+◌, ◌*◌, ◌≤◌, ℕ, ◌≡◌, replicate}, proofs.Laws.{refl, sym, ap, ◌∙◌, rules}}
use Rattle.layout.specs.Layout.{tables_size, files_at, file_size, links_at, link_size, streams_at, stream_size}
use Rattle.little_endian.specs.LittleEndian.{to_bytes}
use Rattle.image.specs.{declared.BlockRecord.TheVariants.{FileSlot, LinkSlot, StreamSlot}, Blocks.{record_of, place_of, size_of, preface, record_at}, Alone.record_in, Image.{spare_for, put_block}}
use Rattle.image_read.proofs.Puts.{found_fits, found_put}
use Rattle.image_read.proofs.put_block.Goals as goal
use Rattle.image_read.proofs.put_block.Goals.{In-FileSlot, In-LinkSlot, In-StreamSlot}

-- the record found, and its place in the tables
module _ (c : In-FileSlot) where
  file_found : record_of c.args.n ≡ FileSlot c.in-FileSlot.k
  file_found = sym c.record_of.ensures ∙ c.in-FileSlot.is

  file_fits : files_at + file_size * c.in-FileSlot.k + file_size ≤ tables_size
  unfolding place_of size_of
  file_fits = found_fits _ file_found

module _ (c : In-LinkSlot) where
  link_found : record_of c.args.n ≡ LinkSlot c.in-LinkSlot.k
  link_found = sym c.record_of.ensures ∙ c.in-LinkSlot.is

  link_fits : links_at + link_size * c.in-LinkSlot.k + link_size ≤ tables_size
  unfolding place_of size_of
  link_fits = found_fits _ link_found

module _ (c : In-StreamSlot) where
  stream_found : record_of c.args.n ≡ StreamSlot c.in-StreamSlot.k
  stream_found = sym c.record_of.ensures ∙ c.in-StreamSlot.is

  stream_fits : streams_at + stream_size * c.in-StreamSlot.k + stream_size ≤ tables_size
  unfolding place_of size_of
  stream_fits = found_fits _ stream_found

pub returns-in-Header : goal.returns-in-Header
unfolding place_of record_in record_at size_of preface spare_for to_bytes
returns-in-Header c =
    let a = c.args in
    found_put a.n (sym c.record_of.ensures ∙ c.in-Header.is) a.block.now a.spare.now
    (c.clear.ensures ∙ ap (λ (n : ℕ). replicate {A = ℕ} n 0) c.told-spare) c.copy_part.ensures

pub returns-in-FileSlot : goal.returns-in-FileSlot
unfolding place_of record_in record_at size_of preface spare_for
returns-in-FileSlot c =
    let a = c.args in
    found_put a.n (file_found (goal.at.returns-in-FileSlot c).In-FileSlot) a.block.now a.spare.now refl c.copy_part-in-FileSlot.ensures

pub returns-in-LinkSlot : goal.returns-in-LinkSlot
unfolding place_of record_in record_at size_of preface spare_for
returns-in-LinkSlot c =
    let a = c.args in
    found_put a.n (link_found (goal.at.returns-in-LinkSlot c).In-LinkSlot) a.block.now a.spare.now refl c.copy_part-in-LinkSlot.ensures

pub returns-in-StreamSlot : goal.returns-in-StreamSlot
unfolding place_of record_in record_at size_of preface spare_for
returns-in-StreamSlot c =
    let a = c.args in
    found_put a.n (stream_found (goal.at.returns-in-StreamSlot c).In-StreamSlot) a.block.now a.spare.now refl c.copy_part-in-StreamSlot.ensures

pub returns-in-Past : goal.returns-in-Past
unfolding put_block place_of record_in record_at size_of preface spare_for
returns-in-Past c = rw (← c.record_of.ensures, c.in-Past.is)

pub overflow_mul-k : goal.overflow_mul-k
overflow_mul-k c = let f = file_fits (goal.at.overflow_mul-k c).In-FileSlot in search rules

pub overflow_add-k : goal.overflow_add-k
overflow_add-k c = let f = file_fits (goal.at.overflow_add-k c).In-FileSlot in search rules

pub copy_part-requires-in-FileSlot : goal.copy_part-requires-in-FileSlot
copy_part-requires-in-FileSlot c = let f = file_fits (goal.at.copy_part-requires-in-FileSlot c).In-FileSlot in search rules

pub overflow_mul-k-in-LinkSlot : goal.overflow_mul-k-in-LinkSlot
overflow_mul-k-in-LinkSlot c = let f = link_fits (goal.at.overflow_mul-k-in-LinkSlot c).In-LinkSlot in search rules

pub overflow_add-k-in-LinkSlot : goal.overflow_add-k-in-LinkSlot
overflow_add-k-in-LinkSlot c = let f = link_fits (goal.at.overflow_add-k-in-LinkSlot c).In-LinkSlot in search rules

pub copy_part-requires-in-LinkSlot : goal.copy_part-requires-in-LinkSlot
copy_part-requires-in-LinkSlot c = let f = link_fits (goal.at.copy_part-requires-in-LinkSlot c).In-LinkSlot in search rules

pub overflow_mul-k-in-StreamSlot : goal.overflow_mul-k-in-StreamSlot
overflow_mul-k-in-StreamSlot c = let f = stream_fits (goal.at.overflow_mul-k-in-StreamSlot c).In-StreamSlot in search rules

pub overflow_add-k-in-StreamSlot : goal.overflow_add-k-in-StreamSlot
overflow_add-k-in-StreamSlot c = let f = stream_fits (goal.at.overflow_add-k-in-StreamSlot c).In-StreamSlot in search rules

pub copy_part-requires-in-StreamSlot : goal.copy_part-requires-in-StreamSlot
copy_part-requires-in-StreamSlot c = let f = stream_fits (goal.at.copy_part-requires-in-StreamSlot c).In-StreamSlot in search rules
