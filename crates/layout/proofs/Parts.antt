-- Each record's fields by their places.
use Rattle.base.specs.Base.{ℕ, ◌+◌, ◌*◌, ◌≡◌, List, accounts, file_name_limit, stream_name_limit}
use lib.Seq.{drop-drop}
use native.Mathlib.Nat.{add_assoc}
use Rattle.codecs.specs.Codec.{number, decode_row}
use Rattle.little_endian.{specs.LittleEndian.{from_bytes, part}, proofs.Parts.{take_min, drop-take}}
use Rattle.layout.specs.{Kinds.{kind_of, mark_of}, Records.{file_codec, link_codec, counts_codec, stream_codec, open_codec}, Layout.{file_size, link_size, stream_size, open_size, file_mark_in, stream_mark_in, open_mark_in, counts_in}}

module _ (l : List ℕ) (at : ℕ) where
  pub file-parts : file_codec.decode (part l at file_size)
      ≡ record {
        file_type = kind_of (from_bytes (part l at 2));
        attributes = from_bytes (part l (at + 2) 4);
        masks = decode_row (number 4) accounts (part l (at + 6) (4 * accounts));
        delete_pending = mark_of (from_bytes (part l (at + file_mark_in) 2));
      }
  file-parts = simp (take_min, drop-take, drop-drop, add_assoc)

  pub link_parts : link_codec.decode (part l at link_size)
      ≡ record {
        parent = record { 0 = from_bytes (part l at 2) };
        file = record { 0 = from_bytes (part l (at + 2) 2) };
        name = decode_row (number 2) file_name_limit (part l (at + 4) (2 * file_name_limit));
      }
  link_parts = simp (take_min, drop-take, drop-drop, add_assoc)

  pub counts-parts : counts_codec.decode (part l at counts_codec.size)
      ≡ record {
        opens = from_bytes (part l at 2);
        readers = from_bytes (part l (at + 2) 2);
        writers = from_bytes (part l (at + 4) 2);
        deleters = from_bytes (part l (at + 6) 2);
        shared_read = from_bytes (part l (at + 8) 2);
        shared_write = from_bytes (part l (at + 10) 2);
        shared_delete = from_bytes (part l (at + 12) 2);
      }
  counts-parts = simp (take_min, drop-take, drop-drop, add_assoc)

  pub stream-parts : stream_codec.decode (part l at stream_size)
      ≡ record {
        stream_type = kind_of (from_bytes (part l at 2));
        file = record { 0 = from_bytes (part l (at + 2) 2) };
        name = decode_row (number 2) stream_name_limit (part l (at + 4) (2 * stream_name_limit));
        counts = counts_codec.decode (part l (at + counts_in) counts_codec.size);
        delete_pending = mark_of (from_bytes (part l (at + stream_mark_in) 2));
      }
  stream-parts = simp (take_min, drop-take, drop-drop, add_assoc)

  pub open_parts : open_codec.decode (part l at open_size)
      ≡ record {
        handle = record { 0 = from_bytes (part l at 8) };
        file = record { 0 = from_bytes (part l (at + 8) 2) };
        stream = record { 0 = from_bytes (part l (at + 10) 2) };
        granted = from_bytes (part l (at + 12) 4);
        share = from_bytes (part l (at + 16) 4);
        delete_on_close = mark_of (from_bytes (part l (at + open_mark_in) 2));
      }
  open_parts = simp (take_min, drop-take, drop-drop, add_assoc)
