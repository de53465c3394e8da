-- A close removes its file, with the link and the streams: no open is on it any more.
use Rattle.base.{specs.Base.{ℕ, ◌≡◌, true, false, List, Namespace, BareStream, bare_used, bare_at, zero_bare, eqb, open_used, zero_open, FileNo, StreamNo, File, Open}, proofs.Laws.{sym, ◌∙◌, ap, not_both, refuted, by_cases, fails_iff, none_kept_of}}
use Rattle.consistency.{specs.{Relations.stream_of, Consistent.{open_at, OpensConsistent}}, proofs.{Numbered.stream_iff, Relations.stream_of_iff}}
use Rattle.tables.specs.Tables.{file_at, live, any_on_stream, file_has_open, stream_has_open}
use Rattle.store.proofs.Sequences.Closing.{Facts.{AfterStrike, Settled, file_goes, file_below, goes_not_root, goes_childless}, Opens.{opens_still, unopened_file}, FileGone.{files_left, file-gone, marked_before, files_left_lem, links_left_lem, marks-left, streams_left, streams_clear, streams_left_lem}}
use Rattle.store.specs.Close.{file_removed, namespace_after, files_after, links_after, streams_after}

module _ {ns : Namespace} {next : ℕ} {os : List Open} {o : Open} (a : AfterStrike ns next os o)
    (goes : file_goes ns o ≡ true)
    (unopened : file_has_open os o.file ≡ false)
  where
    abbrev after : List BareStream
    after = streams_left o.file ns.streams

    -- a stream of another file stays, and one of this file goes
    stays : (s : StreamNo) → stream_of o.file (bare_at ns.streams s) ≡ false → bare_at after s ≡ bare_at ns.streams s
    unfolding bare_at
    stays s e = (streams_clear ns.streams o.file).stays s.0 e

    gone : (s : StreamNo) → stream_of o.file (bare_at ns.streams s) ≡ true → bare_at after s ≡ zero_bare
    unfolding bare_at
    gone s e = (streams_clear ns.streams o.file).goes s.0 e

    -- no open is on one of its streams, the closed one's among them
    other_file : (i : ℕ) → open_used (open_at os i) ≡ true → stream_of o.file (bare_at ns.streams (open_at os i).stream) ≡ false
    other_file i u =
        refuted _
        (λ e.
        unopened_file os o.file unopened i u
        ((a.opens.slots.used_good i u).names_its_file ∙ ((stream_of_iff o.file (bare_at ns.streams (open_at os i).stream)).0 e).1))

    pub unopened_streams : (s : StreamNo) → stream_of o.file (bare_at ns.streams s) ≡ true → stream_has_open os s ≡ false
    unfolding any_on_stream live
    unopened_streams s t =
        none_kept_of open_used (λ q. eqb q.stream.0 s.0) zero_open os
        (λ i u.
        (fails_iff (stream_iff (open_at os i).stream s)).1
        (λ e. not_both t (ap (λ (x : StreamNo). stream_of o.file (bare_at ns.streams x)) (sym e) ∙ other_file i u)))

    opens_after : OpensConsistent after next os
    opens_after =
        opens_still after a.opens
        (λ i u.
        let same = stays (open_at os i).stream (other_file i u) in
        (ap bare_used same ∙ (a.opens.slots.used_good i u).names_used_stream, ap (λ (x : BareStream). x.file) same))

    own : stream_of o.file (bare_at ns.streams o.stream) ≡ true
    own = (stream_of_iff o.file (bare_at ns.streams o.stream)).1 (a.good.names_used_stream, sym a.good.names_its_file)

    files_held_after : (f : FileNo) → (file_at (files_left o.file ns.files) f).delete_pending ≡ true → file_has_open os f ≡ true
    files_held_after f p =
        let unmarked : (f ≡ o.file → (file_at (files_left o.file ns.files) f).delete_pending ≡ false) =
        λ e. ap (λ (x : File). x.delete_pending) (file-gone ns.files o.file (file_below a) f e) in
        a.other_files f (λ e. not_both p (unmarked e)) (marked_before ns.files o.file (file_below a) f p)

    streams_held_after : (s : StreamNo) → (bare_at after s).delete_pending ≡ true → stream_has_open os s ≡ true
    streams_held_after s p =
        by_cases (stream_of o.file (bare_at ns.streams s))
        (λ e. absurd (not_both p (ap (λ (x : BareStream). x.delete_pending) (gone s e))))
        (λ e.
        a.other_streams s (λ q. not_both (ap (λ (t : StreamNo). stream_of o.file (bare_at ns.streams t)) q ∙ own) e)
        (ap (λ (x : BareStream). x.delete_pending) (sym (stays s e)) ∙ p))

    pub file_removed_lem : Settled (namespace_after (file_removed o.file) ns) next os
    unfolding namespace_after files_after links_after streams_after
    file_removed_lem =
        let r = goes_not_root a goes in
        let childless = goes_childless a goes in
        record {
          names =
              record {
                files = files_left_lem ns.files o.file (file_below a) a.names.files r;
                links = links_left_lem ns.files ns.links o.file (file_below a) childless a.names.links r;
                streams = streams_left_lem ns.files ns.streams o.file (file_below a) a.names.streams;
                marks = marks-left ns.files ns.links o.file (file_below a) childless a.names.marks r;
              };
          opens = opens_after;
          held = record { files = files_held_after; streams = streams_held_after };
        }
