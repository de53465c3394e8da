-- Demand 3 across restarts, and that a restart forgets the tables before it (restarts/specs/Sequences.antt has the statements).
use Rattle.base.{specs.Base.{ℕ, ◌≡◌, true, any, List, [], ◌∷◌, Checked, refused, passed, ◌>>=◌, Tables, done, concluded, Done}, proofs.Laws.{refl, arith, and_left, and_right, false≢true}}
use Rattle.format.specs.Format.{format}
use Rattle.store.{specs.{Calls.Run, Model.{Model, fresh_model}}, proofs.Sequences.Theorem.{Ran, ran_none, ran_next, agree, formatted, model_formatted, fresh_related, refused≢done}}
use Rattle.restarts.proofs.Kept.{Kept, call_kept, write_kept, restart_kept, restart_count}
use Rattle.restarts.specs.{Events.{Event, calls, writes, restarts, restored, store_event, model_event, answered, run_events, written_after, own_restart, own_restarts}, Sequences.{EverySequenceWithRestarts, RestartForgets}}

-- a run depends on the model that it starts from only by its count
same_count : {m n : Model} {s : Run Tables} {r : Run Model} → n.count ≡ m.count → Ran n s r → Ran m s r
same_count e q =
    record {
      same_replies = q.same_replies;
      related_after = q.related_after;
      never_corrupt = q.never_corrupt;
      handles_in_order = rw e at q.handles_in_order;
    }

ran : (t : Tables) (m : Model) (written : List (List ℕ)) → Kept t m written → (events : List Event) → own_restarts t written events ≡ true
    → Ran m (run_events store_event t events) (run_events model_event m events)
unfolding run_events answered own_restarts written_after own_restart
ran t m written kept [] own = ran_none kept.related
ran t m written kept (calls c ∷ es) own = let q = call_kept kept c in
    ran_next q.0 (ran (store_event t (calls c)).state (model_event m (calls c)).state (written_after t (calls c) written) q.1 es own)
ran t m written kept (writes first long ∷ es) own = let q = write_kept kept first long in
    ran_next q.0
    (ran (store_event t (writes first long)).state (model_event m (writes first long)).state (written_after t (writes first long) written) q.1 es own)
ran t m written kept (restarts rows ∷ es) own =
    same_count (restart_count m rows)
    (ran (store_event t (restarts rows)).state (model_event m (restarts rows)).state written (restart_kept kept rows (and_left _ _ own)) es (and_right (own_restart written (restarts rows)) _ own))

pub every_sequence_with_restarts : EverySequenceWithRestarts
unfolding fresh_model any
every_sequence_with_restarts t m masks read_only accepted events own =
    let f = formatted t masks read_only accepted in
    let g = model_formatted m masks read_only f.0 in
    let kept : Kept (format t masks read_only).state (fresh_model masks read_only) [] =
    record { related = rw f.1 (fresh_related masks read_only f.0); below = omega arith; fresh = λ b h. absurd (false≢true h) } in
    rw g (agree (fresh_model masks read_only) refl _ _ (ran _ _ [] kept events own))

pub restart_forgets : RestartForgets
unfolding store_event concluded ◌>>=◌
restart_forgets t u rows h = go (restored rows) h
  where
    go : (c : Checked Tables) → (concluded t (c >>= (λ v. passed (done v)))).reply.outcome ≡ Done
        → concluded u (c >>= (λ v. passed (done v))) ≡ concluded t (c >>= (λ v. passed (done v)))
    go (refused r) h = absurd (refused≢done h)
    go (passed v) h = refl
