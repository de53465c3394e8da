-- A close marks its file: it has no children, is not the root, and has an open still.
use Rattle.base.{specs.Base.{ℕ, ◌≡◌, true, false, not, ◌&&◌, List, ◌≢◌, set, root, file_used, Namespace, FileNo, File, Open}, proofs.Laws.{refl, sym, ◌∙◌, ap, or_right}}
use Rattle.consistency.{specs.{Good.GoodFile, Relations.has_children, Consistent.MarksConsistent}, proofs.{Derived.file_good, Numbered.same-file}}
use Rattle.tables.specs.Tables.{file_at, file_has_open, stream_has_open}
use Rattle.store.proofs.Sequences.{Changes.{Attributes.same_types, Files.{file_at_other, files_with}, Types.{SameType, links_kept, streams_kept}}, Closing.Facts.{AfterStrike, Settled, file_goes, stream_goes, file-cases, file_used_lem, file_below, goes_not_root, goes_childless, marked-held, streams_held}}
use Rattle.store.specs.Close.{file_marked, marks_file, marked_file, namespace_after, files_after, links_after, streams_after}

module _ {ns : Namespace} {next : ℕ} {os : List Open} {o : Open} (a : AfterStrike ns next os o)
    (file_stays : (file_goes ns o && not (file_has_open os o.file)) ≡ false)
    (stream_stays : (stream_goes ns o && not (stream_has_open os o.stream)) ≡ false)
    (marks : marks_file ns o ≡ true)
  where
    goes : file_goes ns o ≡ true
    goes = or_right (file_at ns.files o.file).delete_pending marks

    abbrev marked : File
    marked = marked_file (file_at ns.files o.file)

    abbrev after : List File
    after = set ns.files o.file.0 marked

    good : GoodFile marked
    unfolding marked_file
    good =
        let g = file_good a.names.files o.file (file_used_lem a) in
        record { attributes = g.attributes; masks_within = g.masks_within }

    is_used_lem : file_used marked ≡ true
    unfolding marked_file file_used
    is_used_lem = file_used_lem a

    -- the other files are as they were, and this one has its type
    other : (f : FileNo) → f ≢ o.file → file_at after f ≡ file_at ns.files f
    other f n = file_at_other ns.files o.file marked (file_below a) f (λ e. n (same-file f o.file e))

    same : (f : FileNo) → SameType ns.files after f
    unfolding marked_file
    same = same_types ns.files o.file marked refl

    mark_stays : (f : FileNo) → f ≢ o.file → (file_at after f).delete_pending ≡ (file_at ns.files f).delete_pending
    mark_stays f n = ap (λ (x : File). x.delete_pending) (other f n)

    marks-after : MarksConsistent after ns.links
    marks-after =
        record {
          root_unmarked = mark_stays root (λ e. goes_not_root a goes (sym e)) ∙ a.names.marks.root_unmarked;
          marked_childless =
              λ f p.
              file-cases f o.file (λ e. ap (has_children ns.links) e ∙ goes_childless a goes)
              (λ n. a.names.marks.marked_childless f (sym (mark_stays f n) ∙ p));
        }

    pub file-marked : Settled (namespace_after (file_marked o.file) ns) next os
    unfolding namespace_after files_after links_after streams_after
    file-marked =
        record {
          names =
              record {
                files =
                    files_with ns.files o.file marked (file_below a) a.names.files is_used_lem good
                    (λ e. goes_not_root a goes (same-file o.file root e));
                links = links_kept ns.files after same ns.links a.names.links;
                streams = streams_kept ns.files after same ns.streams a.names.streams;
                marks = marks-after;
              };
          opens = a.opens;
          held =
              record {
                files =
                    λ f p.
                    file-cases f o.file (λ e. ap (file_has_open os) e ∙ marked-held a file_stays goes)
                    (λ n. a.other_files f n (sym (mark_stays f n) ∙ p));
                streams = streams_held a stream_stays;
              };
        }
