-- A stream that a data file gains: its placing leaves consistent names.
use Rattle.base.{specs.Base.{ℕ, ◌≡◌, true, false, List, [], ◌∷◌, set, is_empty, writes, is_used, is_directory, file_used, Namespace, BareStream, zero_bare, bare_used, bare_at, Data, FileNo, StreamNo, File}, proofs.Laws.{refl, sym, ◌∙◌, ap, arith, refuted, empty_is, count_none, FreeSlot, Ends, ends_bind, goes}}
use Rattle.consistency.{specs.Relations.unnamed_of, proofs.Relations.{stream_of_iff, unnamed_iff}}
use Rattle.paths.specs.Paths.{Leaf}
use Rattle.tables.specs.Tables.{file_at}
use Rattle.store.proofs.Sequences.{Facts.{NamespaceConsistent, StreamFits, PlacedWell, Early}, Changes.{Types.is_data_lem, Attributes.{attributes_kept, attributes_unmarked, not_root_lem, same_types}, Free.stream_free, Relations.stream_name_new, Streams.{streams_with, stream-kept, stream_there}, NewStream.{StreamMade, made_used, named_sound}}}
use Rattle.store.specs.{Prepare.new_stream, Complete.{changed, attribute_change, with_attributes, stream_new, place}}

module _ (ns : Namespace) (f : FileNo) (leaf : Leaf) (a : ℕ) (h : NamespaceConsistent ns) (fit : StreamFits ns f a leaf.stream) where
  is_used_lem : file_used (file_at ns.files f) ≡ true
  unfolding file_used is_used
  is_used_lem = ap is_used (is_data_lem _ fit.attributes.data_file)

  -- the file's unnamed stream would match an empty leaf.stream
  named : is_empty leaf.stream ≡ false
  unfolding bare_at
  named =
      refuted (is_empty leaf.stream)
      (λ e.
      let none-unnamed =
      count_none (unnamed_of f) zero_bare ns.streams
      (λ i q.
      let u = (unnamed_iff f _).0 q in
      let s = (stream_of_iff f _).0 u.0 in
      stream_name_new fit.fold f leaf.stream ns.streams fit.name_new (record { 0 = i }) s.0 s.1
      (u.1 ∙ sym (empty_is leaf.stream e))) in
      let z : ⊥ = omega (arith, none-unnamed, h.streams.one_unnamed f is_used_lem) in
      z)

  module _ (s : StreamNo) (slot : FreeSlot bare_used zero_bare ns.streams s.0) where
    new : BareStream
    new = stream_new f Data leaf.stream

    files_after_lem : List File
    files_after_lem = set ns.files f.0 (with_attributes a (file_at ns.files f))

    made : StreamMade files_after_lem ns.streams f Data leaf.stream
    unfolding files_after_lem is_used with_attributes
    made =
        record {
          used = refl;
          agrees =
              sym
              (same_types ns.files f _ refl f
              ∙ is_data_lem _ fit.attributes.data_file);
          valid = fit.name_valid;
          name_new = stream_name_new fit.fold f leaf.stream ns.streams fit.name_new;
        }

    well : PlacedWell ns
        (record {
          change =
              record {
                files = (f, with_attributes a (file_at ns.files f)) ∷ [];
                links = [];
                streams = (s, stream_new f Data leaf.stream) ∷ [];
              };
          file = f;
          stream = s;
        })
    unfolding new files_after_lem changed attribute_change writes is_directory bare_at stream_new
    well =
        let kept = attributes_kept ns f a h fit.attributes in
        let there = stream_there ns.streams s new slot in
        record {
          after =
              record {
                files = kept.files;
                links = kept.links;
                streams =
                    streams_with ns.streams s new slot files_after_lem files_after_lem (λ g u. refl) kept.streams
                    (named_sound files_after_lem ns.streams f Data leaf.stream made kept.streams named refl);
                marks = kept.marks;
              };
          kept = stream-kept ns.streams s new slot refl;
          marks_kept = attributes_unmarked ns f a h fit.attributes;
          was_free = slot.free;
          stream_used = ap bare_used there ∙ made_used files_after_lem ns.streams f Data leaf.stream made;
          stream_file = ap (λ (x : BareStream). x.file) there;
          not_root = λ e. not_root_lem ns f a h fit.attributes (ap (λ (g : FileNo). g.0) e);
        }

  pub stream_placed_lem : Ends Early (PlacedWell ns) (place ns (new_stream f leaf a))
  unfolding place
  stream_placed_lem = ends_bind (stream_free ns 0) (λ s q. goes (well s q.1))
