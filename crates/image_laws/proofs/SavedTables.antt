-- Consistent tables without their opens are consistent.
use Rattle.base.{specs.Base.{ℕ, ◌≤◌, ◌≡◌, Bool, false, List, [], ◌∷◌, map, any, root, open_slots, zero_file, zero_stream, zero_bare, zero_open, is_directory, is_used, file_used, open_used, BareStream, bare, bare_used, bare_at, with_counts, namespace, FileNo, StreamNo, File, Link, Stream, Open, Tables}, proofs.Laws.{refl, sym, ◌∙◌, ap, not_both, false≢true, none_kept_of}}
use Rattle.sharing.{specs.Sharing.on_stream, proofs.Counts.counts_none}
use Rattle.tables.specs.Tables.{file_at, stream_at, live}
use Rattle.consistency.{specs.{Relations.{type_at, stream_of, unnamed_of}, Good.StreamNamesDiffer, Consistent.{FilesConsistent, LinksConsistent, StreamsConsistent, OpensConsistent, CountsTrue, NoConflicts, MarksConsistent, MarksHeld, Consistent}}, proofs.Slots.slots_good}
use Rattle.format.specs.Format.{fresh_opens}
use Rattle.image.specs.Blocks.{unmarked_file, unmarked_bare, unopened_stream, without_opens}
use Rattle.image_laws.proofs.SavedSlots.{map_at, map-count, slots_changed, two_changed, none_used, free_slots}

-- a file at its number
pub unmarked_at : (fs : List File) (f : FileNo) → file_at (map unmarked_file fs) f ≡ unmarked_file (file_at fs f)
unfolding file_at unmarked_file
unmarked_at fs f = map_at unmarked_file zero_file refl fs f.0

unmarked_type : (fs : List File) (f : FileNo) → type_at (map unmarked_file fs) f ≡ type_at fs f
unfolding unmarked_file
unmarked_type fs f = ap (λ (g : File). g.file_type) (unmarked_at fs f)

unmarked_used : (fs : List File) (f : FileNo) → file_used (file_at (map unmarked_file fs) f) ≡ file_used (file_at fs f)
unfolding file_used
unmarked_used fs f = ap is_used (unmarked_type fs f)

files_saved : (fs : List File) → FilesConsistent fs → FilesConsistent (map unmarked_file fs)
unfolding unmarked_file file_used
files_saved fs c =
    record {
      slots =
          slots_changed zero_file unmarked_file refl fs file_used (λ f. refl)
          (λ f u g. record { attributes = g.attributes; masks_within = g.masks_within }) c.slots;
      root_directory = ap is_directory (unmarked_type fs root) ∙ c.root_directory;
    }

links_saved : (fs : List File) (ls : List Link) → LinksConsistent fs ls → LinksConsistent (map unmarked_file fs) ls
links_saved fs ls c =
    record {
      slots =
          slots_good
          (λ l u g.
          record {
            name_stored = g.name_stored;
            name_valid = g.name_valid;
            names_used_file = ap is_used (unmarked_type fs l.file) ∙ g.names_used_file;
            parent_directory = ap is_directory (unmarked_type fs l.parent) ∙ g.parent_directory;
          })
          c.slots;
      root_has_none = c.root_has_none;
      others_have_one = λ f n u. c.others_have_one f n (sym (unmarked_used fs f) ∙ u);
      parents_lead_to_root = λ f u. c.parents_lead_to_root f (sym (unmarked_used fs f) ∙ u);
      names_differ = c.names_differ;
    }

streams_saved : (fs : List File) (ss : List BareStream) → StreamsConsistent fs ss
    → StreamsConsistent (map unmarked_file fs) (map unmarked_bare ss)
unfolding unmarked_bare bare_used stream_of unnamed_of
streams_saved fs ss c =
    record {
      slots =
          slots_changed zero_bare unmarked_bare refl ss bare_used (λ s. refl)
          (λ s u g.
          record {
            name_stored = g.name_stored;
            name_valid = g.name_valid;
            names_used_file = ap is_used (unmarked_type fs s.file) ∙ g.names_used_file;
            type_agrees = g.type_agrees ∙ sym (unmarked_type fs s.file);
            marked_named = λ m. absurd (false≢true m);
          })
          c.slots;
      one_unnamed =
          λ f u.
          map-count zero_bare unmarked_bare refl ss (unnamed_of f) (λ s. refl)
          ∙ c.one_unnamed f (sym (unmarked_used fs f) ∙ u);
      directories_have_one =
          λ f d.
          map-count zero_bare unmarked_bare refl ss (stream_of f) (λ s. refl)
          ∙ c.directories_have_one f (sym (ap is_directory (unmarked_type fs f)) ∙ d);
      names_differ =
          two_changed zero_bare unmarked_bare refl ss bare_used (λ s. refl) StreamNamesDiffer (λ s t d. d) c.names_differ;
    }

-- no open is live
none_live : (q : Open → Bool) → any q (live fresh_opens.rows) ≡ false
unfolding live open_used
none_live q =
    none_kept_of open_used q zero_open fresh_opens.rows (λ i u. absurd (none_used open_used zero_open refl open_slots i u))

no_opens : (ss : List BareStream) (next : ℕ) → 1 ≤ next → OpensConsistent ss next fresh_opens.rows
unfolding open_used
no_opens ss next h =
    record {
      slots = free_slots open_used zero_open refl open_slots;
      next_at_least = h;
      handles_differ = λ i j b u w. absurd (none_used open_used zero_open refl open_slots i u);
    }

no_conflicts : NoConflicts fresh_opens.rows
unfolding open_used
no_conflicts i j b u w = absurd (none_used open_used zero_open refl open_slots i u)

-- a stream at its number, with the counts of no open
unopened_at : (ss : List Stream) (s : StreamNo) → stream_at (map unopened_stream ss) s ≡ unopened_stream (stream_at ss s)
unfolding stream_at unopened_stream unmarked_bare with_counts bare
unopened_at ss s = map_at unopened_stream zero_stream refl ss s.0

counts_saved : (ss : List Stream) → CountsTrue (map unopened_stream ss) fresh_opens.rows
unfolding unopened_stream with_counts
counts_saved ss s b =
    ap (λ (t : Stream). t.counts) (unopened_at ss s)
    ∙ sym (counts_none s (live fresh_opens.rows) (none_live (on_stream s)))

-- the streams without their counts
bare_saved : (ss : List Stream) → map bare (map unopened_stream ss) ≡ map unmarked_bare (map bare ss)
unfolding unopened_stream unmarked_bare with_counts bare
bare_saved [] = refl
bare_saved (s ∷ ss) = ap (λ (rest : List BareStream). unmarked_bare (bare s) ∷ rest) (bare_saved ss)

-- no mark is left
file_unmarked : (fs : List File) (f : FileNo) → (file_at (map unmarked_file fs) f).delete_pending ≡ false
unfolding unmarked_file
file_unmarked fs f = ap (λ (g : File). g.delete_pending) (unmarked_at fs f)

stream_unmarked : (ss : List BareStream) (s : StreamNo) → (bare_at (map unmarked_bare ss) s).delete_pending ≡ false
unfolding bare_at unmarked_bare
stream_unmarked ss s = ap (λ (b : BareStream). b.delete_pending) (map_at unmarked_bare zero_bare refl ss s.0)

no_marks : (fs : List File) (ls : List Link) → MarksConsistent (map unmarked_file fs) ls
no_marks fs ls =
    record {
      root_unmarked = file_unmarked fs root;
      marked_childless = λ f m. absurd (not_both m (file_unmarked fs f));
    }

none_held : (fs : List File) (ss : List BareStream) (os : List Open) → MarksHeld (map unmarked_file fs) (map unmarked_bare ss) os
none_held fs ss os =
    record {
      files = λ f m. absurd (not_both m (file_unmarked fs f));
      streams = λ s m. absurd (not_both m (stream_unmarked ss s));
    }

pub saved_consistent : (t : Tables) → Consistent t.volume t.opens
    → Consistent (without_opens t).volume (without_opens t).opens
unfolding without_opens namespace
saved_consistent t c =
    let fs = t.volume.files in
    let ss = t.volume.streams in
    record {
      files = files_saved fs c.files;
      links = links_saved fs t.volume.links c.links;
      streams = rw (bare_saved ss) (streams_saved fs (map bare ss) c.streams);
      opens = no_opens (map bare (map unopened_stream ss)) t.volume.next_handle.0 c.opens.next_at_least;
      counts = counts_saved ss;
      conflicts = no_conflicts;
      marks = no_marks fs t.volume.links;
      held = rw (bare_saved ss) (none_held fs (map bare ss) fresh_opens.rows);
    }
