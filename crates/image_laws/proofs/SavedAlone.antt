-- Each record of tables that can be restored is right by itself.
use Rattle.base.{specs.Base.{ℕ, ◌+◌, ◌*◌, ◌<◌, ◌≡◌, ◌≢◌, true, false, not, ◌||◌, List, eqb, length, get_or, take, drop, any, map, same, file_slots, link_slots, stream_slots, zero_file, zero_link, zero_stream, zero_bare, zero_counts, is_used, is_directory, link_used, open_used, bare, bare_used, bare_at, namespace, Data, Directory, BareStream, FileType, Handle, StreamNo, OpenTable, Volume}, proofs.Laws.{length-map, refl, sym, ◌∙◌, ap, arith, not_is, and_both, guard, ne_eqb, eqb-true}}
use lib.Seq.{take-take}
use Rattle.audit.specs.Sound.{sound_bytes}
use Rattle.little_endian.{specs.LittleEndian.part, proofs.Parts.drop-take}
use Rattle.tables.specs.Tables.{file_at, stream_at}
use Rattle.consistency.{specs.{Slots.slot_test, Good.{good_file, is_zero_file, good_link, is_zero_link, good_stream, is_zero_stream}, Consistent.Consistent}, proofs.{Files.file_decides, Streams.stream_decides, Counts.same_counts_of, Derived.bare_at_lem}}
use Rattle.layout.{specs.{Records.{mark_codec, handle_codec}, Layout.{tables_codec, tables_size, file_size, link_size, stream_size, next_at, files_at, links_at, streams_at, decode}}, proofs.{Tables.{stands_length, stands_codec}, InPlace.in_place, Fields.{mark_field, next_field, file-field, link_field, stream-field}}}
use Rattle.image.{specs.{Blocks.{image_blocks, record_of, place_of, size_of}, Alone.{header_alone, file_alone, link_alone, stream_alone, stream_placed, record_alone}, Image.restorable, declared.{BlockRecord.{BlockRecord, TheVariants.{Header, FileSlot, LinkSlot, StreamSlot}}}}}
use Rattle.image_laws.proofs.{Places.each_record, SavedSound.{sound_stands, sound_consistent, restorable_sound, restorable_unopened}, SavedSlots.slot_passes, SavedUnopened.{file-bare, stream-bare, stream_uncounted}, SavedPlaced.{link_placed_lem, stream_placed_lem}}

-- the records of consistent tables without a used open
module _ {v : Volume} {t : OpenTable} (c : Consistent v t) (none : any open_used t.rows ≡ false) (k : ℕ) where
  file_alone_lem : file_alone k (get_or v.files k zero_file) ≡ true
  unfolding file_alone file_at is_zero_file same
  file_alone_lem =
      and_both
      (and_both (slot_passes c.files.slots good_file is_zero_file (λ f u. (file_decides.decides_good f u).1) refl k)
      (not_is (file-bare c none (record { 0 = k }))))
      (guard (eqb k 0) _
      (λ e. ap (λ (n : ℕ). is_directory (get_or v.files n zero_file).file_type) (eqb-true k 0 e) ∙ c.files.root_directory))

  link_alone_lem : link_alone (get_or v.links k zero_link) ≡ true
  unfolding link_alone good_link is_zero_link same is_used is_directory
  link_alone_lem =
      and_both
      (slot_passes c.links.slots (good_link Data Directory) is_zero_link
      (λ l u g. and_both (and_both (and_both g.name_stored g.name_valid) refl) refl) refl k)
      (guard (link_used (get_or v.links k zero_link)) _ (link_placed_lem c.files c.links k))

  -- streams, without their counts
  abbrev stream_here : BareStream
  stream_here = get_or (map bare v.streams) k zero_bare

  stream_tests : (slot_test bare_used (good_stream stream_here.stream_type) is_zero_stream stream_here ≡ true)
      × ((not (bare_used stream_here) || stream_placed stream_here) ≡ true)
  unfolding namespace good_stream is_zero_stream same
  stream_tests = (
    slot_passes c.streams.slots (λ s. good_stream s.stream_type s) is_zero_stream
        (λ s u g. ap (λ (file : FileType). good_stream file s) g.type_agrees ∙ ((stream_decides v.files).decides_good s u).1 g) refl k,
    guard (bare_used stream_here) _ (stream_placed_lem c.files c.streams k),
  )

  stream_alone_lem : k < stream_slots → stream_alone (get_or v.streams k zero_stream) ≡ true
  unfolding stream_alone stream_at bare_at bare namespace
  stream_alone_lem h =
      let n : StreamNo = record { 0 = k } in
      let tests = rw (bare_at_lem v.streams n) at stream_tests in
      let inside : k < length v.streams = omega (arith, length-map v.streams bare, c.streams.slots.size) in
      and_both
      (and_both (and_both tests.0 tests.1) (same_counts_of _ zero_counts (stream_uncounted c none n inside)))
      (not_is (stream-bare c none n))

-- the bytes of each record of tables that can be restored
module _ (bs : List ℕ) (ok : restorable bs ≡ true) where
  sound : sound_bytes bs ≡ true
  sound = restorable_sound bs ok

  stand : tables_codec.stands bs ≡ true
  stand = stands_codec bs (sound_stands bs sound)

  long : length bs ≡ tables_size
  long = stands_length bs (sound_stands bs sound)

  tables : Consistent (decode bs).volume (decode bs).opens
  tables = sound_consistent bs sound

  unopened : any open_used (decode bs).opens.rows ≡ false
  unopened = restorable_unopened bs ok

  mark_bytes : mark_codec.stands (take next_at (part bs 0 files_at)) ≡ true
  mark_bytes =
      ap mark_codec.stands (take-take next_at files_at bs (omega arith)) ∙ mark_field.held bs long stand

  next_bytes_lem : handle_codec.decode (drop next_at (part bs 0 files_at)) ≡ (decode bs).volume.next_handle
  next_bytes_lem = ap handle_codec.decode (drop-take next_at files_at bs) ∙ sym (in_place next_field bs long)

  handle_given : (handle_codec.decode (drop next_at (part bs 0 files_at))).0 ≢ 0
  handle_given e = omega (arith, ap (λ (h : Handle). h.0) next_bytes_lem, tables.opens.next_at_least)

  header_bytes : record_alone Header (part bs 0 files_at) ≡ true
  unfolding record_alone header_alone
  header_bytes =
      and_both mark_bytes
      (not_is (ne_eqb (handle_codec.decode (drop next_at (part bs 0 files_at))).0 0 handle_given))

  file_bytes : (k : ℕ) → k < file_slots → record_alone (FileSlot k) (part bs (files_at + file_size * k) file_size) ≡ true
  unfolding record_alone
  file_bytes k h =
      let f = file-field k h in
      and_both (f.held bs long stand) (rw (← in_place f bs long) (file_alone_lem tables unopened k))

  link_bytes : (k : ℕ) → k < link_slots → record_alone (LinkSlot k) (part bs (links_at + link_size * k) link_size) ≡ true
  unfolding record_alone
  link_bytes k h = rw (← in_place (link_field k h) bs long) (link_alone_lem tables unopened k)

  stream_bytes : (k : ℕ) → k < stream_slots → record_alone (StreamSlot k) (part bs (streams_at + stream_size * k) stream_size) ≡ true
  unfolding record_alone
  stream_bytes k h =
      let f = stream-field k h in
      and_both (f.held bs long stand) (rw (← in_place f bs long) (stream_alone_lem tables unopened k h))

  abbrev Alone : BlockRecord → Type 0
  Alone r = record_alone r (part bs (place_of r) (size_of r)) ≡ true

  pub restorable_alone : (n : ℕ) → n < image_blocks → record_alone (record_of n) (part bs (place_of (record_of n)) (size_of (record_of n))) ≡ true
  unfolding place_of size_of
  restorable_alone n b =
      each_record Alone n b (λ e. header_bytes) (λ k h e. file_bytes k h) (λ k h e. link_bytes k h) (λ k h e. stream_bytes k h)
