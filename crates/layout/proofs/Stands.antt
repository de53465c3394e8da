-- What stands for tables, by its tests: the read-only mark, the kinds of files and streams, the marks of records.
use Rattle.base.{specs.Base.{ℕ, ◌+◌, ◌*◌, ◌<◌, ◌≡◌, Bool, true, ◌&&◌, List, eqb, ltb, length, take, drop, file_name_limit, file_slots, link_slots, stream_slots, open_slots}, proofs.Laws.{refl, ◌∙◌, ap, arith}}
use lib.Seq.{drop-drop}
use native.Mathlib.Nat.{add_assoc}
use Rattle.codecs.{specs.Codec.{number, row_stands}, proofs.{Fields.part-part, Standing.all_stand}}
use Rattle.little_endian.{specs.LittleEndian.{from_bytes, part}, proofs.Parts.{take_min, drop-take}}
use Rattle.layout.specs.{Kinds.{kinds, marks}, Records.{file_codec, link_codec, stream_codec, open_codec}, Layout.{tables_size, file_size, stream_size, open_size, files_codec, links_codec, streams_codec, files_at, links_at, streams_at, opens_at, file_mark_in, stream_mark_in, open_mark_in, stands_for_tables}}

numbers_stand : (w n : ℕ) (bs : List ℕ) → row_stands (number w) n bs ≡ true
numbers_stand w n bs = all_stand (number w) (λ cs. refl) n bs

-- a record, by the places of its kind and of its mark
module _ (l : List ℕ) (at : ℕ) where
  pub file_stands : file_codec.stands (part l at file_size)
      ≡ (ltb (from_bytes (part l at 2)) kinds && ltb (from_bytes (part l (at + file_mark_in) 2)) marks)
  file_stands = simp (numbers_stand, take_min, drop-take, drop-drop, add_assoc)

  pub stream_stands : stream_codec.stands (part l at stream_size)
      ≡ (ltb (from_bytes (part l at 2)) kinds && ltb (from_bytes (part l (at + stream_mark_in) 2)) marks)
  stream_stands = simp (numbers_stand, take_min, drop-take, drop-drop, add_assoc)

  open_stands : open_codec.stands (part l at open_size) ≡ ltb (from_bytes (part l (at + open_mark_in) 2)) marks
  open_stands = simp (drop-take, drop-drop, add_assoc)

link_stands : (cs : List ℕ) → link_codec.stands cs ≡ true
link_stands cs = numbers_stand 2 file_name_limit (drop 2 (drop 2 cs))

links_stand : (bs : List ℕ) → row_stands link_codec link_slots bs ≡ true
links_stand bs = all_stand link_codec link_stands link_slots bs

glued : (q m f l s o : Bool) → l ≡ true → (q && (m && (f && (l && (s && o))))) ≡ (q && (m && (f && (s && o))))
glued q m f l s o e = rw e

-- where the files, the streams and the opens begin
at_files : (bs : List ℕ) → drop 8 (drop 2 bs) ≡ drop files_at bs
at_files bs = drop-drop 8 2 bs

at_streams : (bs : List ℕ) → drop links_codec.size (drop files_codec.size (drop 8 (drop 2 bs))) ≡ drop streams_at bs
at_streams bs =
    ap (λ (l : List ℕ). drop links_codec.size (drop files_codec.size l)) (at_files bs)
    ∙ ap (drop links_codec.size) (drop-drop files_codec.size files_at bs)
    ∙ drop-drop links_codec.size links_at bs

at_opens : (bs : List ℕ)
    → drop streams_codec.size (drop links_codec.size (drop files_codec.size (drop 8 (drop 2 bs)))) ≡ drop opens_at bs
at_opens bs = ap (drop streams_codec.size) (at_streams bs) ∙ drop-drop streams_codec.size streams_at bs

pub tables_stand : (bs : List ℕ)
    → stands_for_tables bs
    ≡ (eqb (length bs) tables_size
    && (ltb (from_bytes (part bs 0 2)) marks
    && (row_stands file_codec file_slots (part bs files_at files_codec.size)
    && (row_stands stream_codec stream_slots (part bs streams_at streams_codec.size)
    && row_stands open_codec open_slots (drop opens_at bs)))))
unfolding stands_for_tables
tables_stand bs =
    let files = drop 8 (drop 2 bs) in
    let links = drop files_codec.size files in
    let streams = drop links_codec.size links in
    glued (eqb (length bs) tables_size) (ltb (from_bytes (part bs 0 2)) marks)
    (row_stands file_codec file_slots (take files_codec.size files))
    (row_stands link_codec link_slots (take links_codec.size links))
    (row_stands stream_codec stream_slots (take streams_codec.size streams))
    (row_stands open_codec open_slots (drop streams_codec.size streams))
    (links_stand (take links_codec.size links))
    ∙ (λ i.
    eqb (length bs) tables_size
    && (ltb (from_bytes (part bs 0 2)) marks
    && (row_stands file_codec file_slots (take files_codec.size (at_files bs i))
    && (row_stands stream_codec stream_slots (take streams_codec.size (at_streams bs i))
    && row_stands open_codec open_slots (at_opens bs i)))))

-- record i of a table, among the table's bytes and among all
module _ (b : List ℕ) (i : ℕ) where
  pub file_stands_at : i < file_slots
      → file_codec.stands (part (part b files_at files_codec.size) (file_size * i) file_size)
      ≡ file_codec.stands (part b (files_at + file_size * i) file_size)
  file_stands_at h =
      ap file_codec.stands (part-part b files_at files_codec.size (file_size * i) file_size (omega arith))

  pub stream_stands_at : i < stream_slots
      → stream_codec.stands (part (part b streams_at streams_codec.size) (stream_size * i) stream_size)
      ≡ stream_codec.stands (part b (streams_at + stream_size * i) stream_size)
  stream_stands_at h =
      ap stream_codec.stands (part-part b streams_at streams_codec.size (stream_size * i) stream_size (omega arith))

  pub open_stands_at : open_codec.stands (part (drop opens_at b) (open_size * i) open_size)
      ≡ ltb (from_bytes (part b (opens_at + open_size * i + open_mark_in) 2)) marks
  open_stands_at =
      ap (λ (l : List ℕ). open_codec.stands (take open_size l)) (drop-drop (open_size * i) opens_at b)
      ∙ open_stands b (opens_at + open_size * i)
