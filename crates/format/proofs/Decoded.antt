-- Format of as many bytes as the tables have is format of the tables that they stand for.
use Rattle.base.{specs.Base.{ℕ, ◌≡◌, Bool, true, false, List, length, replicate, eqb, accounts, file_slots, link_slots, stream_slots, open_slots, file_name_limit, stream_name_limit, all_access, zero_file, zero_link, zero_stream, within, refuse_if, ◌>>◌, concluded, refused_reply, done, InvalidParameter}, proofs.Laws.{◌∙◌, arith, eq-eqb, and_both, and_right, by_cases, all_of, all_at, length-replicate}}
use Rattle.bits.proofs.Sets.{within_le}
use Rattle.codecs.{specs.Codec.{Each, Below, RowFits}, proofs.{Laws.{each_from, set_fits}, Zeros.replicate_zeros}}
use Rattle.consistency.specs.Relations.{valid_masks}
use Rattle.layout.{specs.{Layout.{tables_size, decode, stands_for_tables}, Fits.{FileFits, StreamFits, TablesFit}}, proofs.{Lengths.{files_count, links_count, streams_count, opens_count, masks_count, link_names_count, stream_names_count}, Tables.{decode-encode, encode_stands}, Zeros.{zero_tables, zeros_fit}}}
use Rattle.format.proofs.Bytes.{valid-count, invalid_masks, formatted}
use Rattle.format.specs.{Format.{right_lengths, root_file, root_stream, fresh_volume, fresh_tables, checked_masks, format}, Bytes.format_bytes}

-- whatever the bytes
pub decoded_lengths : (bs : List ℕ) → right_lengths (decode bs).volume (decode bs).opens ≡ true
unfolding right_lengths
decoded_lengths bs =
    and_both
    (and_both
    (and_both
    (and_both
    (and_both
    (and_both (eq-eqb _ file_slots (files_count bs)) (eq-eqb _ link_slots (links_count bs)))
    (eq-eqb _ stream_slots (streams_count bs)))
    (eq-eqb _ open_slots (opens_count bs)))
    (all_of (λ f. eqb (length f.masks) accounts) zero_file _ (λ i h. eq-eqb _ accounts (masks_count bs i))))
    (all_of (λ l. eqb (length l.name) file_name_limit) zero_link _ (λ i h. eq-eqb _ file_name_limit (link_names_count bs i))))
    (all_of (λ s. eqb (length s.name) stream_name_limit) zero_stream _ (λ i h. eq-eqb _ stream_name_limit (stream_names_count bs i)))

-- valid masks fit a file's field
masks_fit : (masks : List ℕ) → valid_masks masks ≡ true → RowFits accounts (Below 4) masks
unfolding valid_masks
masks_fit masks v =
    record {
      count = valid-count masks v;
      each =
          each_from (Below 4) 0 masks
          (λ i h.
          omega
          (arith, within_le _ all_access (all_at (λ m. within m all_access) 0 masks (and_right (eqb (length masks) accounts) _ v) i h)));
    }

module _ (bs masks : List ℕ) (read_only : Bool) (long : length bs ≡ tables_size) where
  zero_fit : TablesFit zero_tables
  zero_fit = zeros_fit (replicate (length bs) 0) (replicate_zeros (length bs)) (length-replicate {A = ℕ} (length bs) 0 ∙ long)

  root_stream_fits : StreamFits root_stream
  unfolding Each
  root_stream_fits =
      let s = zero_fit.streams.each.0 in
      record { file = s.file; name = s.name; counts = s.counts }

  fresh_fits : valid_masks masks ≡ true → TablesFit (fresh_tables masks read_only)
  unfolding fresh_tables fresh_volume root_file
  fresh_fits v =
      record {
        next = omega arith;
        files = set_fits FileFits (root_file masks) (record { attributes = omega arith; masks = masks_fit masks v }) 0 zero_fit.files;
        links = zero_fit.links;
        streams = set_fits StreamFits root_stream root_stream_fits 0 zero_fit.streams;
        opens = zero_fit.opens;
      }

  -- format of the tables, by its cases
  tables-invalid : valid_masks masks ≡ false
      → format (decode bs) masks read_only ≡ record { reply = refused_reply InvalidParameter; state = decode bs }
  unfolding format checked_masks concluded refuse_if ◌>>◌
  tables-invalid v = rw (decoded_lengths bs, v)

  pub tables-formatted : valid_masks masks ≡ true → format (decode bs) masks read_only ≡ done (fresh_tables masks read_only)
  unfolding format checked_masks concluded refuse_if ◌>>◌
  tables-formatted v = rw (decoded_lengths bs, v)

  pub same_reply_lem : (format_bytes bs masks read_only).reply ≡ (format (decode bs) masks read_only).reply
  same_reply_lem =
      by_cases (valid_masks masks) (λ v. rw (formatted bs masks read_only long v, tables-formatted v))
      (λ v. rw (invalid_masks bs masks read_only long v, tables-invalid v))

  -- a refusal leaves the bytes, and with them the tables
  pub decoded_tables : decode (format_bytes bs masks read_only).state ≡ (format (decode bs) masks read_only).state
  decoded_tables =
      by_cases (valid_masks masks)
      (λ v. rw (formatted bs masks read_only long v, tables-formatted v) (decode-encode (fresh_tables masks read_only) (fresh_fits v)))
      (λ v. rw (invalid_masks bs masks read_only long v, tables-invalid v))

  pub refusal_leaves : valid_masks masks ≡ false → (format_bytes bs masks read_only).state ≡ bs
  refusal_leaves v = rw (invalid_masks bs masks read_only long v)

  -- what success leaves stands for tables
  pub success_stands : valid_masks masks ≡ true → stands_for_tables (format_bytes bs masks read_only).state ≡ true
  success_stands v = rw (formatted bs masks read_only long v) (encode_stands (fresh_tables masks read_only) (fresh_fits v))
