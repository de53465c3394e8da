-- A close marks its stream: a named one, which has an open still.
use Rattle.base.{specs.Base.{ℕ, ◌≡◌, Bool, true, false, not, ◌&&◌, List, ◌≢◌, get_or, set, count, zero_bare, Namespace, BareStream, bare_used, bare_at, StreamNo, Open}, proofs.Laws.{refl, sym, ◌∙◌, ap, ⊎_elim, not_both, or_right, length-set, count_places, set_cases}}
use lib.Seq.{get_or-set_other}
use Rattle.consistency.{specs.{Good.StreamNamesDiffer, Relations.{stream_of, unnamed_of}, Slots.EveryTwo, Consistent.{open_at, GoodStreamOf, OpensConsistent, StreamsConsistent}}, proofs.{Derived.stream_good, Numbered.same-stream, Slots.slots_set}}
use Rattle.stored_names.specs.StoredNames.{units}
use Rattle.tables.specs.Tables.{file_has_open, stream_has_open}
use Rattle.store.proofs.Sequences.Closing.{Facts.{AfterStrike, Settled, file_goes, stream_goes, stream-cases, stream_below, goes_named, marked_stream_held, files_held}, Opens.opens_still}
use Rattle.store.specs.Close.{stream_marked, marks_stream, marked_bare, namespace_after, files_after, links_after, streams_after}

module _ {ns : Namespace} {next : ℕ} {os : List Open} {o : Open} (a : AfterStrike ns next os o)
    (file_stays : (file_goes ns o && not (file_has_open os o.file)) ≡ false)
    (stream_stays : (stream_goes ns o && not (stream_has_open os o.stream)) ≡ false)
    (marks : marks_stream ns o ≡ true)
  where
    goes : stream_goes ns o ≡ true
    goes = or_right (bare_at ns.streams o.stream).delete_pending marks

    abbrev was : BareStream
    was = get_or ns.streams o.stream.0 zero_bare

    abbrev after : List BareStream
    after = set ns.streams o.stream.0 (marked_bare was)

    -- what is read of each stream, but for the mark, stays
    each : {B : Type 0} (q : BareStream → B) → ((x : BareStream) → q (marked_bare x) ≡ q x) → (i : ℕ)
        → q (get_or after i zero_bare) ≡ q (get_or ns.streams i zero_bare)
    each q stays i =
        ⊎_elim (λ c. ap q c.1 ∙ stays was ∙ ap (λ (j : ℕ). q (get_or ns.streams j zero_bare)) (sym c.0))
        (λ c. ap q c.1) (set_cases ns.streams o.stream.0 i (marked_bare was) zero_bare (stream_below a))

    counts : (q : BareStream → Bool) → ((x : BareStream) → q (marked_bare x) ≡ q x) → count q after ≡ count q ns.streams
    counts q stays =
        count_places q zero_bare after ns.streams (length-set ns.streams o.stream.0 (marked_bare was)) (each q stays)

    used : (x : BareStream) → bare_used (marked_bare x) ≡ bare_used x
    unfolding marked_bare bare_used
    used x = refl

    file : (x : BareStream) → (marked_bare x).file ≡ x.file
    unfolding marked_bare
    file x = refl

    name : (x : BareStream) → units (marked_bare x).name ≡ units x.name
    unfolding marked_bare
    name x = refl

    good : GoodStreamOf ns.files (marked_bare was)
    unfolding marked_bare bare_at
    good =
        let g = stream_good a.names.streams o.stream a.good.names_used_stream in
        record {
          name_stored = g.name_stored;
          name_valid = g.name_valid;
          names_used_file = g.names_used_file;
          type_agrees = g.type_agrees;
          marked_named = λ p. goes_named a goes;
        }

    is_used_lem : bare_used (marked_bare was) ≡ true
    unfolding bare_at
    is_used_lem = used was ∙ a.good.names_used_stream

    names_differ_lem : EveryTwo bare_used zero_bare StreamNamesDiffer after
    names_differ_lem i j l u w e n =
        a.names.streams.names_differ i j l (sym (each bare_used used i) ∙ u) (sym (each bare_used used j) ∙ w)
        (sym (each (λ x. x.file) file i) ∙ e ∙ each (λ x. x.file) file j)
        (sym (each (λ x. units x.name) name i) ∙ n ∙ each (λ x. units x.name) name j)

    streams_after_lem : StreamsConsistent ns.files after
    unfolding marked_bare stream_of unnamed_of bare_used
    streams_after_lem =
        record {
          slots = slots_set a.names.streams.slots o.stream.0 (marked_bare was) (λ u. good) (λ u. absurd (not_both is_used_lem u));
          one_unnamed = λ f u. counts (unnamed_of f) (λ x. refl) ∙ a.names.streams.one_unnamed f u;
          directories_have_one = λ f d. counts (stream_of f) (λ x. refl) ∙ a.names.streams.directories_have_one f d;
          names_differ = names_differ_lem;
        }

    opens_after : OpensConsistent after next os
    unfolding bare_at
    opens_after =
        opens_still after a.opens
        (λ i u.
        let s : StreamNo = (open_at os i).stream in
        (each bare_used used s.0 ∙ (a.opens.slots.used_good i u).names_used_stream, each (λ x. x.file) file s.0))

    other : (s : StreamNo) → s ≢ o.stream → bare_at after s ≡ bare_at ns.streams s
    unfolding bare_at
    other s n = get_or-set_other ns.streams o.stream.0 s.0 (marked_bare was) zero_bare (λ e. n (same-stream s o.stream e))

    pub stream-marked : Settled (namespace_after (stream_marked o.stream) ns) next os
    unfolding namespace_after files_after links_after streams_after
    stream-marked =
        record {
          names = record { files = a.names.files; links = a.names.links; streams = streams_after_lem; marks = a.names.marks };
          opens = opens_after;
          held =
              record {
                files = files_held a file_stays;
                streams =
                    λ s p.
                    stream-cases s o.stream (λ e. ap (stream_has_open os) e ∙ marked_stream_held a stream_stays goes)
                    (λ n. a.other_streams s n (ap (λ (x : BareStream). x.delete_pending) (sym (other s n)) ∙ p));
              };
        }
