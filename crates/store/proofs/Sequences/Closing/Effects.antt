-- Whatever becomes of the file and stream of an open that was struck, the tables are consistent then.
use Rattle.base.{specs.Base.{ℕ, ◌<◌, ◌≡◌, true, false, not, ◌&&◌, List, length, map, Namespace, namespace, BareStream, bare, bare_used, bare_at, zero_stream, Stream, Open, Tables}, proofs.Laws.{refl, sym, ◌∙◌, ap, and_left, and_right, not-true, cond_cases, set_clears, map_clears}}
use Rattle.consistency.{specs.{Relations.stream_of, Consistent.{Consistent, CountsTrue, NoConflicts}}, proofs.{Derived.bare_at_lem, Numbered.stream_iff}}
use Rattle.tables.specs.Tables.{stream_at, file_has_open, stream_has_open}
use Rattle.store.proofs.Sequences.{Opens.Names.used_below, Related.consistent_with, Closing.{Facts.{AfterStrike, Settled, file_goes, stream_goes, files_held, streams_held}, FileMarked.file-marked, StreamMarked.stream-marked, FileRemoved.{file_removed_lem, unopened_streams}, StreamRemoved.stream_removed_lem, Counts.{counts_clear, counts-marked}, Names.names_after}}
use Rattle.store.specs.{Close.{CloseEffect, unchanged, file_marked, file_removed, stream_marked, stream_removed, marks_file, marks_stream, removes_file, removes_stream, close_effect, cleared, namespace_after, files_after, links_after, streams_after}, Store.{store_view, marked_stream, volume_after, settled}}

-- what an effect leaves: names, opens and marks, and true counts
record Leaves (ns : Namespace) (next : ℕ) (ss : List Stream) (os : List Open) (e : CloseEffect) : Type 0 where
  settled : Settled (namespace_after e ns) next os
  counts : CountsTrue (streams_after bare zero_stream marked_stream e ss) os

module _ {ns : Namespace} {next : ℕ} {os : List Open} {o : Open} (a : AfterStrike ns next os o)
    (ss : List Stream) (same : map bare ss ≡ ns.streams) (c : CountsTrue ss os)
  where
    below : o.stream.0 < length ss
    below =
        used_below ss o.stream (ap (λ (bs : List BareStream). bare_used (bare_at bs o.stream)) same ∙ a.good.names_used_stream)

    leaves_file_removed : (file_goes ns o && not (file_has_open os o.file)) ≡ true → Leaves ns next ss os (file_removed o.file)
    unfolding streams_after cleared stream_at
    leaves_file_removed h =
        let goes = and_left (file_goes ns o) (not (file_has_open os o.file)) h in
        let unopened = not-true (file_has_open os o.file) (and_right (file_goes ns o) (not (file_has_open os o.file)) h) in
        record {
          settled = file_removed_lem a goes unopened;
          counts =
              counts_clear ss os c (map_clears zero_stream ss (λ s. stream_of o.file (bare s)))
              (λ s e.
              unopened_streams a goes unopened s
              (ap (λ (bs : List BareStream). stream_of o.file (bare_at bs s)) (sym same) ∙ ap (stream_of o.file) (bare_at_lem ss s) ∙ e));
        }

    module _ (file_stays : (file_goes ns o && not (file_has_open os o.file)) ≡ false) where
      leaves_stream_removed : (stream_goes ns o && not (stream_has_open os o.stream)) ≡ true
          → Leaves ns next ss os (stream_removed o.stream)
      unfolding streams_after
      leaves_stream_removed h =
          let goes = and_left (stream_goes ns o) (not (stream_has_open os o.stream)) h in
          let unopened = not-true (stream_has_open os o.stream) (and_right (stream_goes ns o) (not (stream_has_open os o.stream)) h) in
          record {
            settled = stream_removed_lem a file_stays goes unopened;
            counts =
                counts_clear ss os c (set_clears zero_stream ss o.stream.0 below)
                (λ s e. ap (stream_has_open os) ((stream_iff s o.stream).0 e) ∙ unopened);
          }

      module _ (stream_stays : (stream_goes ns o && not (stream_has_open os o.stream)) ≡ false) where
        leaves_file_marked : marks_file ns o ≡ true → Leaves ns next ss os (file_marked o.file)
        unfolding streams_after
        leaves_file_marked m = record { settled = file-marked a file_stays stream_stays m; counts = c }

        leaves_stream_marked : marks_stream ns o ≡ true → Leaves ns next ss os (stream_marked o.stream)
        unfolding streams_after stream_at
        leaves_stream_marked m =
            record { settled = stream-marked a file_stays stream_stays m; counts = counts-marked ss os c o.stream below }

        leaves_unchanged : Leaves ns next ss os unchanged
        unfolding namespace_after files_after links_after streams_after
        leaves_unchanged =
            record {
              settled =
                  record {
                    names = a.names;
                    opens = a.opens;
                    held = record { files = files_held a file_stays; streams = streams_held a stream_stays };
                  };
              counts = c;
            }

-- the effect that the tables decide
module _ (t : Tables) (o : Open)
    (a : AfterStrike (namespace t.volume) t.volume.next_handle.0 t.opens.rows o)
    (c : CountsTrue t.volume.streams t.opens.rows)
  where
    leaves : Leaves (namespace t.volume) t.volume.next_handle.0 t.volume.streams t.opens.rows
        (close_effect (store_view t) (namespace t.volume) o)
    unfolding close_effect removes_file removes_stream store_view namespace
    leaves =
        let ns = namespace t.volume in
        let ss = t.volume.streams in
        let P = Leaves ns t.volume.next_handle.0 ss t.opens.rows in
        cond_cases P (removes_file (store_view t) ns o) _ _ (leaves_file_removed a ss refl c)
        (λ f.
        cond_cases P (removes_stream (store_view t) ns o) _ _ (leaves_stream_removed a ss refl c f)
        (λ s.
        cond_cases P (marks_file ns o) _ _ (leaves_file_marked a ss refl c f s)
        (λ m.
        cond_cases P (marks_stream ns o) _ _ (leaves_stream_marked a ss refl c f s)
        (λ n. leaves_unchanged a ss refl c f s))))

    pub settled-consistent : NoConflicts t.opens.rows → Consistent (settled t o).volume (settled t o).opens
    unfolding settled namespace volume_after
    settled-consistent conflicts =
        let e = close_effect (store_view t) (namespace t.volume) o in
        let s = leaves.settled in
        consistent_with (settled t o) (namespace_after e (namespace t.volume)) (names_after e t.volume) s.names s.opens
        leaves.counts conflicts s.held
