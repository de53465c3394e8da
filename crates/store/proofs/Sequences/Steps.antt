-- Each kind of call keeps tables and model related, and is answered alike.
use Rattle.base.{specs.Base.{◌<◌, suc, ℕ, Permutation, any, both, find, skip, Checked, Refusal, ◌>>=◌, ◌>>◌, passed, refuse_if, refused, some_or, share_read, Namespace, bare_at, bare_used, namespace, seen, status_number, open_used, Step, Tables, concluded, Terms, terms_of, Handle, Open, Request, FileCorruptError, InvalidHandle, StreamNo, length, Bool, ◌&&◌, false, not, true, List, ◌∷◌, ◌⊎◌, inl, inr, Option, none, some, ◌≡◌, done}, proofs.Laws.{none_too, or_right, perm_any, Ends, goes, stops, ⊎_elim, ◌∙◌, refl, subst, sym, ap}}
use Rattle.consistency.{proofs.{Derived.free_unopened, Equivalence.consistent_iff}, specs.Consistent.{Consistent, CountsTrue, MarksHeld, OpensConsistent}}
use Rattle.sharing.{proofs.Check.any_conflict_perm, specs.Sharing.{any_conflict, conflict, on_stream}}
use Rattle.tables.specs.Tables.{live, any_on_file, any_on_stream}
use Rattle.store.proofs.Sequences.{Closed.close_related, Completed.{DecisionFits, Unopposed, decide_ends}, Facts.{Joins, Other, namespace_of}, Opens.{Close.struck, Conflicts.share_more, Counts.{counts-joined, counts_written}, Join.{conflicts-joined, joined, joined-live, joins_used}, Names.{changed_names, used_below, with_open_names}, Table.opens_kept}, Related.{Related, closing_alike, consistent_with}, Views.{decided_alike, room_same}}
use Rattle.store.specs.{Calls.{Call, closes, model_step, opens, sets_read_only, store_step}, Close.decide_close, Complete.{Decision, changed, decide, new_open, with_share_read}, Model.{Model, model_close, model_closed, model_open, model_opened, model_set_read_only, model_settled, model_struck, model_view, namespace_marked}, Sequences.{handle_of, is_corrupt}, Store.{changed_volume, closed, has_handle, opened, store_close, store_open, store_set_read_only, store_view, volume_marked, volume_with_open, when_consistent}}

-- a step of the model from m issues the next handle, or none
abbrev pub Issues : Model → Step Model → Type 0
Issues m s =
    (((hs : List ℕ) → handle_of s.reply.outcome hs ≡ hs) × (s.state.count ≡ m.count))
    ⊎ (((hs : List ℕ) → handle_of s.reply.outcome hs ≡ suc m.count ∷ hs) × (s.state.count ≡ suc m.count))

-- two steps, the model's from m, that answer alike and lead to related states
pub record Together (m : Model) (s : Step Tables) (s' : Step Model) : Type 0 where
  pub same_reply : s.reply ≡ s'.reply
  pub related_after : Related s.state s'.state
  pub never_corrupt : is_corrupt s'.reply ≡ false
  pub issues : Issues m s'

-- no open on a stream, none that conflicts there
none_on_stream : (s : StreamNo) (t : Terms) (os : List Open) → any (on_stream s) os ≡ false → any_conflict s t os ≡ false
unfolding any_conflict
none_on_stream s t os h = none_too _ _ (λ q e. ap (λ (b : Bool). b && conflict (terms_of q) t) e) os h

-- consistent tables answer as if there were no test
pub when_consistent_lem : (t : Tables) → Consistent t.volume t.opens → (c : Checked (Step Tables)) → when_consistent t c ≡ concluded t c
unfolding when_consistent refuse_if ◌>>◌
when_consistent_lem t ok c = rw ((consistent_iff t.volume t.opens).1 ok)

-- an accepted open, decided by the model's view
module _ {t : Tables} {m : Model} (related : Related t m) (d : Decision) (fits : DecisionFits (namespace t.volume) (model_view m) d) where
  abbrev o : Open
  o = new_open d

  abbrev after : Tables
  after = (opened t d).state

  was : OpensConsistent (namespace t.volume).streams t.volume.next_handle.0 t.opens.rows
  was = related.consistent_tables.opens

  roomy : any (λ q. not (open_used q)) t.opens.rows ≡ true
  unfolding store_view
  roomy = room_same related ∙ fits.room

  unopposed_now : Unopposed (namespace t.volume) (model_view m) o → any_conflict o.stream (terms_of o) (live t.opens.rows) ≡ false
  unfolding model_view with_share_read
  unopposed_now (inl q) =
      let s = any_conflict_perm related.opens_are_entries o.stream q.0 ∙ q.1 in
      ⊎_elim (λ e. ap (λ (u : Terms). any_conflict o.stream u (live t.opens.rows)) e ∙ s)
      (λ e.
      ap (λ (u : Terms). any_conflict o.stream u (live t.opens.rows)) e
      ∙ share_more share_read o.stream q.0 (live t.opens.rows) s)
      q.2
  unopposed_now (inr f) = none_on_stream o.stream (terms_of o) (live t.opens.rows) (free_unopened was o.stream f)

  -- the namespace, the next handle and the share counts after it
  namespace-after : namespace after.volume ≡ changed d.placed.change (namespace t.volume)
  unfolding opened
  namespace-after = with_open_names _ _ ∙ changed_names d.placed.change t.volume

  next_after : after.volume.next_handle.0 ≡ suc t.volume.next_handle.0
  unfolding opened volume_with_open changed_volume
  next_after = refl

  joins_next : Joins (changed d.placed.change (namespace t.volume)).streams t.volume.next_handle.0 o
  unfolding model_view
  joins_next = subst (λ (n : ℕ). Joins (changed d.placed.change (namespace t.volume)).streams n o) (sym related.next_handle) fits.joins

  counts-after : CountsTrue after.volume.streams after.opens.rows
  unfolding opened volume_with_open changed_volume namespace
  counts-after =
      counts-joined o (changed_volume d.placed.change t.volume).streams t.opens.rows below (joins_used joins_next was.next_at_least) roomy
      (counts_written d.placed.change.streams t.volume.streams t.opens.rows related.consistent_tables.counts)
    where
      below : o.stream.0 < length (changed_volume d.placed.change t.volume).streams
      below =
          used_below (changed_volume d.placed.change t.volume).streams o.stream
          (ap (λ (ns : Namespace). bare_used (bare_at ns.streams o.stream)) (changed_names d.placed.change t.volume)
          ∙ fits.joins.good.names_used_stream)

  live-after : Permutation (live after.opens.rows) (o ∷ live t.opens.rows)
  unfolding opened
  live-after = joined-live o t.opens.rows roomy (joins_used joins_next was.next_at_least)

  -- no mark has come, and the opens that hold the marks are still there
  still_open : (p : Open → Bool) → any p (live t.opens.rows) ≡ true → any p (live after.opens.rows) ≡ true
  unfolding any
  still_open p h = perm_any p live-after ∙ or_right (p o) h

  held_after : let ns = changed d.placed.change (namespace t.volume) in
      MarksHeld ns.files ns.streams after.opens.rows
  unfolding namespace any_on_file any_on_stream
  held_after =
      let held = related.consistent_tables.held in
      record {
        files = λ f u. still_open _ (held.files f (fits.marks_kept f u));
        streams = λ s u. still_open _ (held.streams s (fits.kept.marks_kept s u));
      }

  pub open_related : Related after (model_opened m d).state
  unfolding opened model_opened
  open_related =
      let opens = joined (opens_kept was fits.kept) joins_next roomy in
      let conflicts = conflicts-joined o t.opens.rows related.consistent_tables.conflicts (unopposed_now fits.unopposed) roomy in
      record {
        consistent_tables =
            consistent_with after (changed d.placed.change (namespace t.volume)) namespace-after fits.after
            (rw next_after opens) counts-after conflicts held_after;
        opens_are_entries = both live-after (skip o related.opens_are_entries);
        same_namespace = namespace-after ∙ ap (changed d.placed.change) related.same_namespace;
        next_handle = next_after ∙ ap suc related.next_handle;
      }

module _ {t : Tables} {m : Model} (related : Related t m) where
  -- a refusal with another status than FILE_CORRUPT_ERROR leaves both as they were
  pub refused_together : (r : Refusal) → Other FileCorruptError r → Together m (concluded t (refused r)) (concluded m (refused r))
  unfolding concluded is_corrupt seen handle_of
  refused_together r p = record { same_reply = refl; related_after = related; never_corrupt = p; issues = inl (λ hs. refl, refl) }

  unhindered : (c : Checked (Step Tables)) (s : Step Model) → Together m (concluded t c) s → Together m (when_consistent t c) s
  unhindered c s h =
      subst (λ (x : Step Tables). Together m x s) (sym (when_consistent_lem t related.consistent_tables c)) h

  decided_together : {c : Checked Decision} → Ends (Other FileCorruptError) (DecisionFits (namespace t.volume) (model_view m)) c
      → Together m (concluded t (c >>= (λ d. passed (opened t d)))) (concluded m (c >>= (λ d. passed (model_opened m d))))
  unfolding ◌>>=◌ concluded opened model_opened model_view is_corrupt seen status_number handle_of
  decided_together (stops {r} q) = refused_together r q
  decided_together (goes {a = d} f) = accepted_together d f
    where
      accepted_together : (d : Decision) → DecisionFits (namespace t.volume) (model_view m) d
          → Together m (concluded t (passed (opened t d))) (concluded m (passed (model_opened m d)))
      accepted_together d f =
          record {
            same_reply = refl;
            related_after = open_related related d f;
            never_corrupt = refl;
            issues = inr (λ hs. ap {B = List ℕ} (λ n. n ∷ hs) f.joins.handle, refl);
          }

  open_together : (r : Request) (units : List ℕ) → Together m (store_step t (opens r units)) (model_step m (opens r units))
  unfolding store_step model_step store_open model_open
  open_together r units =
      unhindered _ _
      (subst
      (λ (c : Checked Decision).
      Together m (concluded t (c >>= (λ d. passed (opened t d)))) (concluded m (decide (model_view m) m.namespace r units >>= (λ d. passed (model_opened m d)))))
      (sym (decided_alike related r units))
      (decided_together
      (subst (λ (ns : Namespace). Ends (Other FileCorruptError) (DecisionFits (namespace t.volume) (model_view m)) (decide (model_view m) ns r units))
      related.same_namespace
      (decide_ends (model_view m) (namespace t.volume) r units (namespace_of related.consistent_tables)))))

  close_together : (h : Handle) → Together m (store_step t (closes h)) (model_step m (closes h))
  unfolding store_step model_step store_close model_close decide_close store_view some_or ◌>>=◌ concluded closed model_closed
      model_settled model_struck is_corrupt seen status_number handle_of
  close_together h =
      unhindered _ _
      (subst
      (λ (c : Checked Open). Together m (concluded t (decide_close (store_view t) h >>= (λ q. passed (closed t q)))) (concluded m (c >>= (λ q. passed (model_closed m q)))))
      (closing_alike related h) (struck_together (find (has_handle h) t.opens.rows) refl))
    where
      struck_together : (o : Option Open) → find (has_handle h) t.opens.rows ≡ o
          → Together m (concluded t (decide_close (store_view t) h >>= (λ q. passed (closed t q))))
          (concluded m (decide_close (store_view t) h >>= (λ q. passed (model_closed m q))))
      struck_together none e = rw (e, decide_close) (refused_together (record { status = InvalidHandle }) refl)
      struck_together (some o) e =
          rw (e, decide_close)
          (record {
            same_reply = refl;
            related_after = close_related related h o (struck h o t.opens.rows e);
            never_corrupt = refl;
            issues = inl (λ hs. refl, refl);
          })

  mark_together : (b : Bool) → Together m (store_step t (sets_read_only b)) (model_step m (sets_read_only b))
  unfolding store_step model_step store_set_read_only model_set_read_only volume_marked namespace_marked namespace concluded is_corrupt seen status_number handle_of
  mark_together b =
      let was = related.consistent_tables in
      unhindered (passed (done (record { volume = volume_marked b t.volume; opens = t.opens }))) (model_set_read_only m b)
      (record {
        same_reply = refl;
        related_after =
            record {
              consistent_tables =
                  record {
                    files = was.files;
                    links = was.links;
                    streams = was.streams;
                    opens = was.opens;
                    counts = was.counts;
                    conflicts = was.conflicts;
                    marks = was.marks;
                    held = was.held;
                  };
              opens_are_entries = related.opens_are_entries;
              same_namespace = ap (namespace_marked b) related.same_namespace;
              next_handle = related.next_handle;
            };
        never_corrupt = refl;
        issues = inl (λ hs. refl, refl);
      })

-- every call
pub together : {t : Tables} {m : Model} → Related t m → (c : Call) → Together m (store_step t c) (model_step m c)
together related (opens r units) = open_together related r units
together related (closes h) = close_together related h
together related (sets_read_only b) = mark_together related b
