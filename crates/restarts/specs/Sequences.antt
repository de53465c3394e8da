-- Demand 3 across restarts (request L4): the statement about every list of events from a freshly formatted volume.
use Rattle.std.specs.Prelude.{◌≡◌}
use Rattle.base.specs.Base.{ℕ, true, Bool, List, [], Tables, Done}
use Rattle.format.specs.Format.{format}
use Rattle.store.specs.{Model.{Model, model_format}, Sequences.Agree}
use Rattle.restarts.specs.Events.{Event, restarts, store_event, model_event, run_events, own_restarts}

-- whatever the tables and the model held before, and whatever the events ask: if format succeeded and each restart that succeeds is
-- own, every clause of demand 3 holds, the handles issued across restarts among them
abbrev pub EverySequenceWithRestarts : Type 0
EverySequenceWithRestarts =
    (t : Tables) (m : Model) (masks : List ℕ) (read_only : Bool)
    → (format t masks read_only).reply.outcome ≡ Done
    → (events : List Event)
    → own_restarts (format t masks read_only).state [] events ≡ true
    → Agree
    (run_events store_event (format t masks read_only).state events)
    (run_events model_event (model_format m masks read_only).state events)

-- the tables before a restart are lost: what it leaves does not depend on them
abbrev pub RestartForgets : Type 0
RestartForgets =
    (t u : Tables) (rows : List (List ℕ))
    → (store_event t (restarts rows)).reply.outcome ≡ Done
    → store_event u (restarts rows) ≡ store_event t (restarts rows)
