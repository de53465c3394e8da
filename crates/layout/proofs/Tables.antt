-- The tables lose nothing in bytes, either way.
use Rattle.base.{specs.Base.{◌≡◌, true, List, ℕ, eqb, length, file_slots, link_slots, stream_slots, open_slots, Tables}, proofs.Laws.{refl, eqb-true, eq-eqb}}
use mathlib.Core.Bool.{and-eq-true_iff}
use Rattle.codecs.{specs.Codec.Lawful, proofs.Laws.{both_lawful, via_lawful, row_lawful, same_bytes}}
use Rattle.little_endian.specs.LittleEndian.{Bytes}
use Rattle.layout.proofs.Records.{mark_lawful, handle_lawful, file_lawful, link_lawful, stream_lawful, open_lawful}
use Rattle.layout.specs.{Layout.{tables_codec, tables_size, files_at, links_at, streams_at, opens_at, encode, decode, stands_for_tables}, Fits.TablesFit}

pub tables_lawful : Lawful tables_codec TablesFit
tables_lawful =
    via_lawful _ _ (λ b. refl) (λ a. refl)
    (λ b h. (tt, (h.next, (h.files, (h.links, (h.streams, h.opens))))))
    (λ a h.
    record {
      next = h.1.0;
      files = h.1.1.0;
      links = h.1.1.1.0;
      streams = h.1.1.1.1.0;
      opens = h.1.1.1.1.1;
    })
    (both_lawful mark_lawful
    (both_lawful handle_lawful
    (both_lawful (row_lawful file_lawful file_slots)
    (both_lawful (row_lawful link_lawful link_slots)
    (both_lawful (row_lawful stream_lawful stream_slots) (row_lawful open_lawful open_slots))))))

-- tables written and read back are the same
pub decode-encode : (t : Tables) → TablesFit t → decode (encode t) ≡ t
unfolding decode encode
decode-encode t h = tables_lawful.back t h

pub encode-length : (t : Tables) → TablesFit t → length (encode t) ≡ tables_size
unfolding encode
encode-length t h = tables_lawful.long t h

pub stands_length : (bs : List ℕ) → stands_for_tables bs ≡ true → length bs ≡ tables_size
unfolding stands_for_tables
stands_length bs s = eqb-true _ _ ((and-eq-true_iff _ _).0 s).0

pub stands_codec : (bs : List ℕ) → stands_for_tables bs ≡ true → tables_codec.stands bs ≡ true
unfolding stands_for_tables
stands_codec bs s = ((and-eq-true_iff (eqb (length bs) tables_size) _).0 s).1

pub stands_both : (bs : List ℕ) → length bs ≡ tables_size → tables_codec.stands bs ≡ true → stands_for_tables bs ≡ true
unfolding stands_for_tables
stands_both bs l s = (and-eq-true_iff _ _).1 (eq-eqb _ _ l, s)

-- the bytes of tables stand for tables
pub encode_stands : (t : Tables) → TablesFit t → stands_for_tables (encode t) ≡ true
unfolding encode
encode_stands t h = stands_both (tables_codec.encode t) (tables_lawful.long t h) (tables_lawful.stand t h)

-- bytes that stand for tables are the bytes of those tables
pub encode-decode : (bs : List ℕ) → Bytes bs → stands_for_tables bs ≡ true → encode (decode bs) ≡ bs
unfolding decode encode
encode-decode bs b s = tables_lawful.forth bs b (stands_length bs s) (stands_codec bs s)

-- two lists of bytes that stand for the same tables are equal
pub same_tables : (xs ys : List ℕ) → Bytes xs → Bytes ys → stands_for_tables xs ≡ true → stands_for_tables ys ≡ true
    → decode xs ≡ decode ys → xs ≡ ys
unfolding decode
same_tables xs ys a b s t e =
    same_bytes tables_lawful xs ys a b (stands_length xs s) (stands_length ys t) (stands_codec xs s) (stands_codec ys t) e

-- tables that the bytes of a slice stand for fit
pub decode_fits : (bs : List ℕ) → Bytes bs → length bs ≡ tables_size → TablesFit (decode bs)
unfolding decode
decode_fits bs b l = tables_lawful.fits bs b l

-- the sizes as docs/LAYOUT.md gives them
pub sizes : (tables_size ≡ 45322) × (files_at ≡ 10) × (links_at ≡ 5130) × (streams_at ≡ 18186) × (opens_at ≡ 39690)
sizes = (refl, refl, refl, refl, refl)
