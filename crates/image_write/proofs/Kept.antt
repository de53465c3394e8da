-- A block of what is kept is the image's: a mark and counts that are not saved are zeros at the end of their record.
use lib.Seq.{take-take, take-add}
use mathlib.Core.List.{append_assoc, append-nil}
use Rattle.base.{specs.Base.{ℕ, ◌+◌, ◌-◌, ◌*◌, ◌≤◌, ◌<◌, ◌≡◌, false, true, List, ◌++◌, length, drop, replicate, file_slots, link_slots, stream_slots, zero_file, zero_stream, zero_counts, bare, with_counts}, proofs.Laws.{refl, sym, ◌∙◌, ap, ap₂, arith, length-take, get_or_map}}
use Rattle.image.specs.{Blocks.{block, block_of, number_size, check_at, record_of, place_of, size_of, preface, unmarked_file, unmarked_bare, unopened_stream, without_opens}, declared.BlockRecord.{BlockRecord, TheVariants.{Header, FileSlot, LinkSlot, StreamSlot, Past}}}
use Rattle.image_laws.proofs.SavedFits.{saved_fits}
use Rattle.layout.{specs.{Kinds.mark_number, Records.{mark_codec, counts_codec}, Layout.{tables_codec, encode, decode, stands_for_tables, file_size, link_size, stream_size, files_at, links_at, streams_at, file_mark_in, counts_in}, Fits.CountsFit}, proofs.{Records.{mark_lawful, handle_lawful, file_lawful, link_lawful, counts_lawful, stream_lawful}, Fields.{mark_field, next_field, file-field, link_field, stream-field, file_mark_in_lem, counts_in_lem, stream_mark_in_lem}, Tables.{decode-encode, encode_stands, stands_length, stands_codec}}}
use Rattle.little_endian.{specs.LittleEndian.{to_bytes, part, Bytes}, proofs.Parts.sets_append}
use Rattle.image_write.proofs.{Spelled.{Spells, spelled_once, spelled_part, spelled_zeros, encode_bytes}, Blocks.{sets_end, block_zeros, Within, record_within}}
use Rattle.image_write.specs.Kept.{kept_size, kept_content, kept_block}

counts_fit : CountsFit zero_counts
counts_fit =
    record {
      opens = omega arith;
      readers = omega arith;
      writers = omega arith;
      deleters = omega arith;
      shared_read = omega arith;
      shared_write = omega arith;
      shared_delete = omega arith;
    }

-- what isn't saved is zeros
mark_zeros : mark_codec.encode false ≡ replicate 2 0
unfolding mark_number to_bytes
mark_zeros = refl

counts_zeros : counts_codec.encode zero_counts ≡ replicate counts_codec.size 0
unfolding to_bytes
counts_zeros = refl

-- a content leaves room for the check
part_short : (bs : List ℕ) (at n : ℕ) → length (part bs at n) ≤ n
part_short bs at n = rw length-take (omega arith)

pub content_room : (bs : List ℕ) (r : BlockRecord) → number_size + length (kept_content bs r) + (size_of r - kept_size r) ≤ check_at
unfolding kept_content kept_size size_of preface place_of to_bytes
content_room bs Header = omega (arith, part_short bs 0 files_at)
content_room bs (FileSlot k) = omega (arith, part_short bs (files_at + file_size * k) file_mark_in)
content_room bs (LinkSlot k) = omega (arith, part_short bs (links_at + link_size * k) link_size)
content_room bs (StreamSlot k) = omega (arith, part_short bs (streams_at + stream_size * k) counts_in)
content_room bs Past = omega arith

module _ (bs : List ℕ) (bytes : Bytes bs) (stands : stands_for_tables bs ≡ true) where
  -- the tables' bytes, and those of the tables that an image keeps
  spelled : Spells tables_codec (decode bs) bs
  unfolding decode
  spelled = record { bytes = bytes; long = stands_length bs stands; stands = stands_codec bs stands; is = refl }

  abbrev kept : List ℕ
  kept = encode (without_opens (decode bs))

  kept_spelled : Spells tables_codec (without_opens (decode bs)) kept
  unfolding decode
  kept_spelled =
      let t = without_opens (decode bs) in
      let fits = saved_fits bs bytes (stands_length bs stands) in
      let s = encode_stands t fits in
      record { bytes = encode_bytes t; long = stands_length kept s; stands = stands_codec kept s; is = decode-encode t fits }

  -- each record's bytes in the image: what is kept of them, and zeros
  header_kept : part kept 0 files_at ≡ part bs 0 files_at
  unfolding without_opens
  header_kept =
      let mark = spelled_once mark_lawful (spelled_part mark_field kept_spelled) (spelled_part mark_field spelled) in
      let next = spelled_once handle_lawful (spelled_part next_field kept_spelled) (spelled_part next_field spelled) in
      take-add 2 8 kept ∙ ap₂ {A = List ℕ} {B = List ℕ} {C = List ℕ} ◌++◌ mark next ∙ sym (take-add 2 8 bs)

  module _ (k : ℕ) where
    file-kept : k < file_slots → part kept (files_at + file_size * k) file_size ≡ part bs (files_at + file_size * k) file_mark_in ++ replicate 2 0
    unfolding without_opens unmarked_file
    file-kept h =
        let at = files_at + file_size * k in
        let p = spelled_part (file-field k h) spelled in
        let q = rw (get_or_map unmarked_file (decode bs).volume.files k zero_file) at (spelled_part (file-field k h) kept_spelled) in
        spelled_once file_lawful q (spelled_zeros file_mark_in_lem p mark_lawful false tt mark_zeros)
        ∙ sets_end (part bs at file_size) (replicate 2 0) file_mark_in p.long
        ∙ ap (λ (l : List ℕ). l ++ replicate 2 0) (take-take file_mark_in file_size (drop at bs) (omega arith))

    link_kept : k < link_slots → part kept (links_at + link_size * k) link_size ≡ part bs (links_at + link_size * k) link_size
    unfolding without_opens
    link_kept h = spelled_once link_lawful (spelled_part (link_field k h) kept_spelled) (spelled_part (link_field k h) spelled)

    stream-kept : k < stream_slots → part kept (streams_at + stream_size * k) stream_size ≡ part bs (streams_at + stream_size * k) counts_in ++ replicate 16 0
    unfolding without_opens unopened_stream unmarked_bare bare with_counts
    stream-kept h =
        let at = streams_at + stream_size * k in
        let p = spelled_part (stream-field k h) spelled in
        let q = rw (get_or_map unopened_stream (decode bs).volume.streams k zero_stream) at (spelled_part (stream-field k h) kept_spelled) in
        let z = spelled_zeros counts_in_lem p counts_lawful zero_counts counts_fit counts_zeros in
        spelled_once stream_lawful q (spelled_zeros stream_mark_in_lem z mark_lawful false tt mark_zeros)
        ∙ sym (sets_append (part bs at stream_size) counts_in (replicate 14 0) (replicate 2 0))
        ∙ sets_end (part bs at stream_size) (replicate 16 0) counts_in p.long
        ∙ ap (λ (l : List ℕ). l ++ replicate 16 0) (take-take counts_in stream_size (drop at bs) (omega arith))

  record_kept : (r : BlockRecord) → Within r
      → part kept (place_of r) (size_of r) ≡ part bs (place_of r) (kept_size r) ++ replicate (size_of r - kept_size r) 0
  unfolding Within place_of size_of kept_size
  record_kept Header w = header_kept ∙ sym (append-nil (part bs 0 files_at))
  record_kept (FileSlot k) w = file-kept k w
  record_kept (LinkSlot k) w = link_kept k w ∙ sym (append-nil (part bs (links_at + link_size * k) link_size))
  record_kept (StreamSlot k) w = stream-kept k w
  record_kept Past w = refl

  pub kept_block_lem : (n : ℕ) → kept_block bs n ≡ block_of (encode (without_opens (decode bs))) n
  unfolding block_of kept_content
  kept_block_lem n =
      let r = record_of n in
      sym
      (ap (block n)
      (ap (λ (l : List ℕ). preface r ++ l) (record_kept r (record_within n))
      ∙ sym (append_assoc (preface r) (part bs (place_of r) (kept_size r)) (replicate (size_of r - kept_size r) 0)))
      ∙ block_zeros n (size_of r - kept_size r) (kept_content bs r) (content_room bs r))
