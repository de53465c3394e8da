-- A file that a directory gains: its placing leaves consistent names.
use Rattle.base.{specs.Base.{◌≤◌, suc, all, is_empty, writes, BareStream, Namespace, bare_at, bare_used, zero_bare, file_name_limit, stream_name_limit, file_used, is_directory, link_used, root, zero_file, zero_link, File, FileNo, LinkNo, StreamNo, set, false, true, List, [], ◌∷◌, ◌≢◌, ◌≡◌}, proofs.Laws.{refuted, not_both, not_is, none_set, set-each, FreeSlot, free_stays, Ends, ends_bind, ends_cond, goes, ne_eqb, ◌∙◌, ap, refl, sym, arith}}
use Rattle.consistency.{proofs.{Numbered.directory-file, Relations.child_of_iff}, specs.{Consistent.StreamsConsistent, Relations.{child_of, has_children, type_at}}}
use Rattle.names.{specs.{Names.{valid_units, valid_file_name}, declared.NameKind.TheVariants.{FileName, StreamName}}, proofs.ValidNames.file_name_units}
use Rattle.paths.specs.Paths.{Leaf}
use Rattle.stored_names.{proofs.Padded.{padded_begins, padded-stored, units-padded}, specs.StoredNames.units}
use Rattle.tables.specs.Tables.{file_at}
use Rattle.store.proofs.Sequences.{Changes.{Files.{FileAdded, file_at_new, file_at_other, files_with, not_added, used_kept_lem}, Free.{file_free, link_free, stream_free}, Links.{LinkSound, links_with}, Marks.{marks-kept, marks_with}, NewStream.{StreamMade, named_sound, no_stream, unnamed_sound}, Relations.link_name_new, Streams.{kept_both, stream-kept, stream_there, streams_with}}, Facts.{Early, FileFits, MarksKept, NamespaceConsistent, PlacedWell, StreamsKept}}
use Rattle.store.specs.{Complete.{changed, link_new, place, place_file, place_streams, stream_new}, Prepare.new_file}

-- the files with one more
abbrev grown : Namespace → FileNo → File → List File
grown ns f file = set ns.files f.0 file

module _ (ns : Namespace) (dir : FileNo) (leaf : Leaf) (file : File) (h : NamespaceConsistent ns)
    (fit : FileFits ns dir leaf file)
  where
    link_sound : (gs : List File) (f : FileNo) → file_used (file_at gs f) ≡ true → LinkSound ns.files gs ns.links (link_new dir leaf.file f)
    unfolding link_used file_used link_new
    link_sound gs f u =
        let valid = file_name_units file_name_limit leaf.file fit.name_valid in
        let same = units-padded FileName file_name_limit leaf.file valid in
        record {
          used = not_is (ne_eqb _ 0 (padded_begins file_name_limit file_name_limit leaf.file fit.name_valid));
          good =
              record {
                name_stored = padded-stored FileName file_name_limit leaf.file valid;
                name_valid = ap (valid_file_name file_name_limit) same ∙ fit.name_valid;
                names_used_file = u;
                parent_directory = fit.parent;
              };
          name_new = λ m u e n. link_name_new fit.fold dir leaf.file ns.links fit.name_new m u e (n ∙ same);
        }

    -- the free slots that the file, its link and its unnamed stream take
    module _ (f : FileNo) (l : LinkNo) (s : StreamNo) (file_slot : FreeSlot file_used zero_file ns.files f.0)
        (link_slot : FreeSlot link_used zero_link ns.links l.0)
        (slot : FreeSlot bare_used zero_bare ns.streams s.0)
      where
        there : file_at (grown ns f file) f ≡ file
        there = file_at_new ns.files f file file_slot.below

        added : FileAdded ns.files (grown ns f file) f
        unfolding file_at
        added =
            record {
              was_free = file_slot.free;
              there = ap file_used there ∙ fit.used;
              others = file_at_other ns.files f file file_slot.below;
            }

        not_root_lem : f.0 ≢ 0
        not_root_lem e = not_added added root (directory-file ns.files root h.files.root_directory) (sym e)

        agrees : file.file_type ≡ type_at (grown ns f file) f
        agrees = ap (λ (x : File). x.file_type) (sym there)

        unnamed : BareStream
        unnamed = stream_new f file.file_type []

        with_unnamed : StreamsConsistent (grown ns f file) (set ns.streams s.0 unnamed)
        unfolding unnamed
        with_unnamed =
            streams_with ns.streams s unnamed slot ns.files (grown ns f file)
            (λ g u. ap (λ (x : File). x.file_type) (used_kept_lem added g u))
            h.streams
            (unnamed_sound ns.files (grown ns f file) ns.streams f file.file_type h.streams added agrees)

        -- no mark comes, and the parent, which gets a child, has none
        unmarked : MarksKept ns.files (grown ns f file)
        unmarked = marks-kept ns.files f file (λ u. absurd (not_both u fit.unmarked))

        childless : (g : FileNo) → (file_at ns.files g).delete_pending ≡ true → has_children ns.links g ≡ false
            → has_children (set ns.links l.0 (link_new dir leaf.file f)) g ≡ false
        unfolding has_children link_new
        childless g u =
            none_set (child_of g) ns.links l.0 _
            (refuted _
            (λ c.
            not_both u
            (ap (λ (n : FileNo). (file_at ns.files n).delete_pending) (sym ((child_of_iff g _).0 c).1) ∙ fit.parent_stays)))

        -- the file and its link, with the streams that are written
        well : (streams : List (StreamNo × BareStream)) (opened : StreamNo)
            → let ss = writes (λ (n : StreamNo). n.0) streams ns.streams in
            StreamsConsistent (grown ns f file) ss → StreamsKept ns.streams ss
            → bare_used (bare_at ns.streams opened) ≡ false → bare_used (bare_at ss opened) ≡ true
            → (bare_at ss opened).file ≡ f
            → PlacedWell ns (place_file (f, file) (l, link_new dir leaf.file f) streams opened)
        unfolding changed writes place_file link_new
        well streams opened consistent kept was_free used own =
            record {
              after =
                  record {
                    files =
                        files_with ns.files f file file_slot.below h.files fit.used fit.good not_root_lem;
                    links =
                        links_with ns.files (grown ns f file) ns.links f l (link_new dir leaf.file f) h.links
                        added
                        link_slot
                        (link_sound (grown ns f file) f added.there)
                        refl
                        not_root_lem;
                    streams = consistent;
                    marks = marks_with h.marks unmarked childless;
                  };
              kept = kept;
              marks_kept = unmarked;
              was_free = was_free;
              stream_used = used;
              stream_file = own;
              not_root = λ e. not_root_lem (ap (λ (g : FileNo). g.0) e);
            }

        well_unnamed : PlacedWell ns (place_file (f, file) (l, link_new dir leaf.file f) ((s, stream_new f file.file_type []) ∷ []) s)
        unfolding unnamed bare_at bare_used writes stream_new file_used
        well_unnamed =
            let new = stream_there ns.streams s unnamed slot in
            well ((s, unnamed) ∷ []) s with_unnamed (stream-kept ns.streams s unnamed slot refl) slot.free
            (ap bare_used new ∙ fit.used)
            (ap (λ (x : BareStream). x.file) new)

        -- and the slot that a named stream takes
        module _ (t : StreamNo) (above : suc s.0 ≤ t.0) (free : FreeSlot bare_used zero_bare ns.streams t.0)
            (given : is_empty leaf.stream ≡ false)
          where
            slot_still : FreeSlot bare_used zero_bare (set ns.streams s.0 unnamed) t.0
            slot_still = free_stays slot unnamed t.0 (λ e. let z : ⊥ = omega arith in z) free

            made : StreamMade (grown ns f file) (set ns.streams s.0 unnamed) f file.file_type leaf.stream
            unfolding unnamed stream_new file_used is_empty valid_units all bare_at
            made =
                record {
                  used = fit.used;
                  agrees = agrees;
                  valid = fit.stream_valid;
                  name_new =
                      λ t.
                      set-each zero_bare (λ (x : BareStream). bare_used x ≡ true → x.file ≡ f → units x.name ≢ leaf.stream)
                      ns.streams
                      s.0
                      unnamed
                      (λ u e n. not_both (ap is_empty (sym n ∙ units-padded StreamName stream_name_limit [] refl)) given)
                      (λ j u e.
                      absurd
                      (no_stream ns.files (grown ns f file) ns.streams f file.file_type h.streams added
                      agrees
                      (record { 0 = j })
                      u
                      e))
                      t.0;
                }

            no_directory_lem : is_directory file.file_type ≡ false
            unfolding is_empty
            no_directory_lem = refuted _ (λ d. not_both (ap is_empty (fit.directory_unnamed d)) given)

            well_named : PlacedWell ns
                (place_file (f, file) (l, link_new dir leaf.file f)
                ((s, stream_new f file.file_type []) ∷ (t, stream_new f file.file_type leaf.stream) ∷ []) t)
            unfolding unnamed bare_at bare_used writes stream_new file_used
            well_named =
                let before = set ns.streams s.0 unnamed in
                let named = stream_new f file.file_type leaf.stream in
                let new = stream_there before t named slot_still in
                well ((s, unnamed) ∷ (t, named) ∷ []) t
                (streams_with before t named slot_still (grown ns f file) (grown ns f file) (λ g u. refl) with_unnamed
                (named_sound (grown ns f file) before f file.file_type leaf.stream made with_unnamed given no_directory_lem))
                (kept_both (stream-kept ns.streams s unnamed slot refl) (stream-kept before t named slot_still refl))
                free.free
                (ap bare_used new ∙ fit.used)
                (ap (λ (x : BareStream). x.file) new)

        streams_placed : Ends Early (PlacedWell ns) (place_streams ns (f, file) (l, link_new dir leaf.file f) leaf.stream s)
        unfolding place_streams
        streams_placed =
            ends_cond (is_empty leaf.stream) (λ e. goes well_unnamed)
            (λ e. ends_bind (stream_free ns (suc s.0)) (λ t q. goes (well_named t q.0 q.1 e)))

    pub file_placed : Ends Early (PlacedWell ns) (place ns (new_file dir leaf file))
    unfolding place
    file_placed =
        ends_bind (file_free ns)
        (λ f a.
        ends_bind (link_free ns)
        (λ l b. ends_bind (stream_free ns 0) (λ s c. streams_placed f l s a.1 b.1 c.1)))
