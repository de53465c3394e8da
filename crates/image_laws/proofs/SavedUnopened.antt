-- Consistent tables without a used open have no mark and no counts, and are as an image keeps them.
use Rattle.base.{specs.Base.{◌<◌, ◌≡◌, false, [], map, length, get_or, any, open_slots, zero_file, zero_stream, zero_counts, zero_open, open_used, BareStream, bare, with_counts, namespace, FileNo, StreamNo, OpenTable, Volume, Tables}, proofs.Laws.{refl, sym, ◌∙◌, ap, length-map, length-replicate, refuted, not_both, any_fails, keep_none}}
use lib.Seq.{ext_get_or}
use Rattle.sharing.{specs.Sharing.counts_of, proofs.Counts.counts_none}
use Rattle.tables.specs.Tables.{file_at, stream_at, live, any_on_file, any_on_stream}
use Rattle.consistency.{specs.Consistent.Consistent, proofs.Derived.bare_at_lem}
use Rattle.format.specs.Format.{fresh_opens}
use Rattle.image.specs.Blocks.{unmarked_file, unmarked_bare, unopened_stream, without_opens}
use Rattle.image_laws.proofs.SavedSlots.{map_at, free_at}

module _ {v : Volume} {t : OpenTable} (c : Consistent v t) (none : any open_used t.rows ≡ false) where
  no_live : live t.rows ≡ []
  unfolding live
  no_live = keep_none open_used t.rows none

  -- a mark is held by a live open
  pub file-bare : (f : FileNo) → (file_at v.files f).delete_pending ≡ false
  unfolding any_on_file any
  file-bare f = refuted _ (λ m. not_both (c.held.files f m) (ap (any_on_file f) no_live))

  pub stream-bare : (s : StreamNo) → (stream_at v.streams s).delete_pending ≡ false
  unfolding any_on_stream any namespace bare
  stream-bare s =
      refuted _
      (λ m.
      not_both (c.held.streams s (ap (λ (b : BareStream). b.delete_pending) (bare_at_lem v.streams s) ∙ m))
      (ap (any_on_stream s) no_live))

  -- the counts are those of the live opens
  pub stream_uncounted : (s : StreamNo) → s.0 < length v.streams → (stream_at v.streams s).counts ≡ zero_counts
  unfolding any
  stream_uncounted s b =
      c.counts s b ∙ ap (counts_of s) no_live ∙ counts_none s [] refl

  files_bare : map unmarked_file v.files ≡ v.files
  unfolding file_at unmarked_file
  files_bare =
      let fs = v.files in
      ext_get_or zero_file (map unmarked_file fs) fs (length-map fs unmarked_file)
      (λ i b.
      map_at unmarked_file zero_file refl fs i
      ∙ (λ j.
      let f = get_or fs i zero_file in
      record {
        file_type = f.file_type;
        attributes = f.attributes;
        masks = f.masks;
        delete_pending = sym (file-bare (record { 0 = i })) j;
      }))

  streams_bare : map unopened_stream v.streams ≡ v.streams
  unfolding stream_at unopened_stream unmarked_bare with_counts bare
  streams_bare =
      let ss = v.streams in
      ext_get_or zero_stream (map unopened_stream ss) ss (length-map ss unopened_stream)
      (λ i b.
      let n : StreamNo = record { 0 = i } in
      let inside : i < length ss = rw (length-map ss unopened_stream) at b in
      map_at unopened_stream zero_stream refl ss i
      ∙ (λ j.
      let s = get_or ss i zero_stream in
      record {
        file = s.file;
        stream_type = s.stream_type;
        name = s.name;
        counts = sym (stream_uncounted n inside) j;
        delete_pending = sym (stream-bare n) j;
      }))

  rows_free : fresh_opens.rows ≡ t.rows
  rows_free =
      let os = t.rows in
      ext_get_or zero_open fresh_opens.rows os (length-replicate open_slots zero_open ∙ sym c.opens.slots.size)
      (λ i b.
      let inside : i < length os = rw (length-replicate open_slots zero_open ∙ sym c.opens.slots.size) at b in
      free_at zero_open open_slots i ∙ sym (c.opens.slots.free_zero i (any_fails open_used zero_open os none i inside)))

pub unopened_same : (t : Tables) → Consistent t.volume t.opens → any open_used t.opens.rows ≡ false → without_opens t ≡ t
unfolding without_opens
unopened_same t c none = λ i.
    record {
      volume =
          record {
            read_only = t.volume.read_only;
            next_handle = t.volume.next_handle;
            files = files_bare c none i;
            links = t.volume.links;
            streams = streams_bare c none i;
          };
      opens = record { rows = rows_free c none i };
    }
