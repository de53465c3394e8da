-- A close removes its stream: a named one, which no open is on any more.
use Rattle.base.{specs.Base.{ℕ, ◌≡◌, Bool, true, false, not, ◌&&◌, List, ◌≢◌, eqb, get_or, set, count, is_empty, zero_bare, is_directory, is_used, Namespace, BareStream, bare_used, bare_at, StreamNo, FileNo, Open}, proofs.Laws.{refl, sym, ◌∙◌, ap, arith, eqb-true, ltb-true, not_both, not_is, refuted, and_both, any_of, fails_iff, count_fewer, Clears, set_clears, count_clear}}
use Rattle.consistency.{specs.{Good.StreamNamesDiffer, Relations.{type_at, stream_of, unnamed_of}, Consistent.{open_at, OpensConsistent, StreamsConsistent}}, proofs.{Numbered.{directory-file, stream_iff}, Relations.{stream_of_iff, unnamed_iff}}}
use Rattle.tables.specs.Tables.{file_has_open, stream_has_open}
use Rattle.store.proofs.Sequences.Closing.{Facts.{AfterStrike, Settled, file_goes, stream_goes, stream-cases, stream_below, goes_named, files_held}, Opens.{opens_still, unopened_stream_lem}, Slots.{slots_clear, two_clear}}
use Rattle.store.specs.Close.{stream_removed, namespace_after, files_after, links_after, streams_after}

module _ {ns : Namespace} {next : ℕ} {os : List Open} {o : Open} (a : AfterStrike ns next os o)
    (file_stays : (file_goes ns o && not (file_has_open os o.file)) ≡ false)
    (goes : stream_goes ns o ≡ true)
    (unopened : stream_has_open os o.stream ≡ false)
  where
    abbrev was : BareStream
    was = get_or ns.streams o.stream.0 zero_bare

    abbrev after : List BareStream
    after = set ns.streams o.stream.0 zero_bare

    clears : Clears zero_bare (λ i. eqb i o.stream.0) ns.streams after
    clears = set_clears zero_bare ns.streams o.stream.0 (stream_below a)

    -- it is its file's, and not the unnamed one
    own : stream_of o.file was ≡ true
    unfolding bare_at
    own = (stream_of_iff o.file was).1 (a.good.names_used_stream, sym a.good.names_its_file)

    named : (f : FileNo) → unnamed_of f was ≡ false
    unfolding bare_at is_empty
    named f = refuted (unnamed_of f was) (λ e. not_both (ap is_empty ((unnamed_iff f was).0 e).1) (goes_named a goes))

    -- so its file is no directory, which has the unnamed stream alone
    no_directory_lem : is_directory (type_at ns.files o.file) ≡ true → ⊥
    no_directory_lem d =
        let fewer =
        count_fewer (stream_of o.file) (unnamed_of o.file) (λ x e. ((unnamed_iff o.file x).0 e).0) ns.streams
        ∙ any_of (λ x. stream_of o.file x && not (unnamed_of o.file x)) zero_bare ns.streams o.stream.0 (stream_below a)
        (and_both own (not_is (named o.file))) in
        omega (
          arith,
          ltb-true (count (unnamed_of o.file) ns.streams) (count (stream_of o.file) ns.streams) fewer,
          a.names.streams.one_unnamed o.file (directory-file ns.files o.file d),
          a.names.streams.directories_have_one o.file d,
        )

    -- a test that the stream fails counts as before
    counts : (q : BareStream → Bool) → q zero_bare ≡ false → q was ≡ false → count q after ≡ count q ns.streams
    counts q free fails =
        count_clear clears q free (λ i e. ap (λ (j : ℕ). q (get_or ns.streams j zero_bare)) (eqb-true i o.stream.0 e) ∙ fails)

    streams_after_lem : StreamsConsistent ns.files after
    unfolding bare_used is_used stream_of unnamed_of
    streams_after_lem =
        record {
          slots = slots_clear bare_used refl clears a.names.streams.slots (λ i e u g. g);
          one_unnamed = λ f u. counts (unnamed_of f) refl (named f) ∙ a.names.streams.one_unnamed f u;
          directories_have_one =
              λ f d.
              counts (stream_of f) refl
              (refuted (stream_of f was)
              (λ e.
              let file : o.file ≡ f = sym ((stream_of_iff o.file was).0 own).1 ∙ ((stream_of_iff f was).0 e).1 in
              no_directory_lem (ap (λ (g : FileNo). is_directory (type_at ns.files g)) file ∙ d)))
              ∙ a.names.streams.directories_have_one f d;
          names_differ = two_clear bare_used refl clears StreamNamesDiffer a.names.streams.names_differ;
        }

    other : (s : StreamNo) → s ≢ o.stream → bare_at after s ≡ bare_at ns.streams s
    unfolding bare_at
    other s n = clears.stays s.0 ((fails_iff (stream_iff s o.stream)).1 n)

    gone : (s : StreamNo) → s ≡ o.stream → bare_at after s ≡ zero_bare
    unfolding bare_at
    gone s e = clears.goes s.0 ((stream_iff s o.stream).1 e)

    opens_after : OpensConsistent after next os
    opens_after =
        opens_still after a.opens
        (λ i u.
        let same = other (open_at os i).stream (unopened_stream_lem os o.stream unopened i u) in
        (ap bare_used same ∙ (a.opens.slots.used_good i u).names_used_stream, ap (λ (x : BareStream). x.file) same))

    pub stream_removed_lem : Settled (namespace_after (stream_removed o.stream) ns) next os
    unfolding namespace_after files_after links_after streams_after
    stream_removed_lem =
        record {
          names = record { files = a.names.files; links = a.names.links; streams = streams_after_lem; marks = a.names.marks };
          opens = opens_after;
          held =
              record {
                files = files_held a file_stays;
                streams =
                    λ s p.
                    stream-cases s o.stream (λ e. absurd (not_both p (ap (λ (x : BareStream). x.delete_pending) (gone s e))))
                    (λ n. a.other_streams s n (ap (λ (x : BareStream). x.delete_pending) (sym (other s n)) ∙ p));
              };
        }
