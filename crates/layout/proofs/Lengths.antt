-- Tables that bytes stand for have the right lengths, whatever the bytes: the tables, and the arrays in their records.
use Rattle.base.{specs.Base.{ℕ, ◌≡◌, List, length, get_or, accounts, file_name_limit, stream_name_limit, file_slots, link_slots, stream_slots, open_slots, zero_file, zero_link, zero_stream}, proofs.Laws.refl}
use Rattle.codecs.{specs.Codec.number, proofs.Laws.{row_count, decoded}}
use Rattle.layout.specs.{Records.{file_codec, link_codec, stream_codec, open_codec}, Layout.decode}

module _ (bs : List ℕ) where
  pub files_count : length (decode bs).volume.files ≡ file_slots
  unfolding decode
  files_count = row_count file_codec file_slots _

  pub links_count : length (decode bs).volume.links ≡ link_slots
  unfolding decode
  links_count = row_count link_codec link_slots _

  pub streams_count : length (decode bs).volume.streams ≡ stream_slots
  unfolding decode
  streams_count = row_count stream_codec stream_slots _

  pub opens_count : length (decode bs).opens.rows ≡ open_slots
  unfolding decode
  opens_count = row_count open_codec open_slots _

  pub masks_count : (k : ℕ) → length (get_or (decode bs).volume.files k zero_file).masks ≡ accounts
  unfolding decode
  masks_count k =
      decoded file_codec zero_file (λ f. length f.masks ≡ accounts) (λ cs. row_count (number 4) accounts _) refl file_slots k _

  pub link_names_count : (k : ℕ) → length (get_or (decode bs).volume.links k zero_link).name ≡ file_name_limit
  unfolding decode
  link_names_count k =
      decoded link_codec zero_link (λ l. length l.name ≡ file_name_limit) (λ cs. row_count (number 2) file_name_limit _) refl link_slots k _

  pub stream_names_count : (k : ℕ) → length (get_or (decode bs).volume.streams k zero_stream).name ≡ stream_name_limit
  unfolding decode
  stream_names_count k =
      decoded stream_codec zero_stream (λ s. length s.name ≡ stream_name_limit) (λ cs. row_count (number 2) stream_name_limit _) refl stream_slots k _
