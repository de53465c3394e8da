-- What code over the lent bytes shows: a record read is that of the tables, a record written is put, and past a table's
-- end nothing stands and nothing is written.
use Rattle.base.{specs.Base.{ℕ, ◌≤◌, ◌≡◌, List, length, get_or, file_slots, link_slots, stream_slots, open_slots, zero_file, zero_link, zero_stream, zero_open, Tables, File, Link, ShareCounts, Stream, Open}, proofs.Laws.◌∙◌}
use Rattle.codecs.{specs.{Codec.{Codec, Lawful}, Field.Field}, proofs.Fields.{written, written_stands, row_past, row_out}}
use Rattle.little_endian.specs.{LittleEndian.part, Writes.Wrote}
use Rattle.layout.proofs.Tables.{stands_codec, stands_both}
use Rattle.layout.specs.{Records.{file_codec, link_codec, stream_codec, open_codec}, Layout.{tables_codec, tables_size, decode, Changed}, Puts.{put_file, put_link, put_stream, put_open, put_counts}}

module _ {B : Type 0} {d : Codec B} {at : ℕ} {get : Tables → B} {put : Tables → B → Tables} (f : Field tables_codec d at get put)
    (bs : List ℕ) (long : length bs ≡ tables_size) where
  pub in_place : get (decode bs) ≡ d.decode (part bs at d.size)
  unfolding decode
  in_place = f.reads bs long

  pub changed : {F : B → Type 0} → Lawful d F → (x : B) {m : List ℕ} → F x → Wrote bs at (d.encode x) m
      → Changed bs m (put (decode bs) x)
  unfolding decode
  changed law x {m} h w =
      record {
        is = written f law bs x long h w;
        long = w.kept ∙ long;
        stays = λ s. stands_both m (w.kept ∙ long) (written_stands f law bs x long h w (stands_codec bs s));
      }

module _ (bs : List ℕ) (k : ℕ) where
  pub file_past : file_slots ≤ k → get_or (decode bs).volume.files k zero_file ≡ zero_file
  unfolding decode
  file_past h = row_past file_codec zero_file file_slots k _ h

  pub link_past : link_slots ≤ k → get_or (decode bs).volume.links k zero_link ≡ zero_link
  unfolding decode
  link_past h = row_past link_codec zero_link link_slots k _ h

  pub stream_past : stream_slots ≤ k → get_or (decode bs).volume.streams k zero_stream ≡ zero_stream
  unfolding decode
  stream_past h = row_past stream_codec zero_stream stream_slots k _ h

  pub open_past : open_slots ≤ k → get_or (decode bs).opens.rows k zero_open ≡ zero_open
  unfolding decode
  open_past h = row_past open_codec zero_open open_slots k _ h

module _ (bs : List ℕ) (long : length bs ≡ tables_size) (k : ℕ) where
  pub file_out : (f : File) → file_slots ≤ k → Changed bs bs (put_file (decode bs) (record { 0 = k }) f)
  unfolding decode
  file_out f h = record { is = rw (row_out file_codec f file_slots k _ h); long = long; stays = λ s. s }

  pub link_out : (l : Link) → link_slots ≤ k → Changed bs bs (put_link (decode bs) (record { 0 = k }) l)
  unfolding decode
  link_out l h = record { is = rw (row_out link_codec l link_slots k _ h); long = long; stays = λ s. s }

  pub stream_out : (s : Stream) → stream_slots ≤ k → Changed bs bs (put_stream (decode bs) (record { 0 = k }) s)
  unfolding decode
  stream_out s h = record { is = rw (row_out stream_codec s stream_slots k _ h); long = long; stays = λ s. s }

  pub open_out : (o : Open) → open_slots ≤ k → Changed bs bs (put_open (decode bs) k o)
  unfolding decode
  open_out o h = record { is = rw (row_out open_codec o open_slots k _ h); long = long; stays = λ s. s }

  pub counts_out : (c : ShareCounts) → stream_slots ≤ k → Changed bs bs (put_counts (decode bs) (record { 0 = k }) c)
  counts_out c h = stream_out _ h
