-- Demand 3: the statement about every sequence of calls from a freshly formatted volume.
use Rattle.std.specs.Prelude.{◌<◌, ◌≡◌, ◌∷◌, ◌↔◌}
use Rattle.base.specs.Base.{ℕ, zero, suc, Bool, true, false, not, List, [], eqb, length, any, pairs, Permutation, Reply, seen, status_number, Tables, namespace, passed, FileCorruptError, SharingViolation, Outcome, Success, Done, Refused, StreamNo, Request}
use Rattle.consistency.specs.{Consistent.Consistent, Good.opens_agree}
use Rattle.format.specs.Format.{format}
use Rattle.sharing.specs.Sharing.{any_conflict, counts_of, share_check}
use Rattle.tables.specs.Tables.{stream_at, live}
use Rattle.store.specs.{Prepare.{Existing, existing, prepare}, Store.store_open, Model.{Model, model_format}, Calls.{Call, Run, run, store_step, model_step}}

-- the reply that the tables contradict themselves
unfoldable pub is_corrupt : Reply → Bool
is_corrupt r = eqb (seen r).status (status_number FileCorruptError)

-- the handles of the accepted opens, in order
unfoldable pub handle_of : Outcome → List ℕ → List ℕ
handle_of (Success a h) hs = h.0 ∷ hs
handle_of Done hs = hs
handle_of (Refused s) hs = hs

unfoldable pub issued : List Reply → List ℕ
issued [] = []
issued (r ∷ rs) = handle_of r.outcome (issued rs)

-- n numbers from k on
unfoldable pub numbers_from : ℕ → ℕ → List ℕ
numbers_from k zero = []
numbers_from k (suc n) = k ∷ numbers_from (suc k) n

-- what holds after a sequence of calls, made to the tables and to the model alike
pub record Agree (store : Run Tables) (model : Run Model) : Type 0 where
  -- no call is told that the tables contradict themselves, and each reply is the model's
  pub never_corrupt : any is_corrupt store.replies ≡ false
  pub same_replies : store.replies ≡ model.replies
  -- the opens table holds just the live opens, which are the model's entries, one record each
  pub tables_consistent : Consistent store.state.volume store.state.opens
  pub opens_are_entries : Permutation (live store.state.opens.rows) model.state.entries
  -- the share counts are theirs
  pub counts_are_theirs : (s : StreamNo) → s.0 < length store.state.volume.streams
      → (stream_at store.state.volume.streams s).counts ≡ counts_of s model.state.entries
  -- all else in the tables is as in the model
  pub same_namespace : namespace store.state.volume ≡ model.state.namespace
  pub next_handle : store.state.volume.next_handle.0 ≡ suc model.state.count
  -- any two on one stream pass the pair rule
  pub no_conflict : pairs opens_agree model.state.entries ≡ true
  -- for every further open that reaches the sharing check, the share check from the counts says the same as comparing it
  -- with each live open there
  pub share_check_right : (r : Request) (units : List ℕ) (e : Existing)
      → prepare (namespace store.state.volume) r units ≡ passed (existing e)
      → share_check (stream_at store.state.volume.streams e.stream).counts e.terms
      ≡ any_conflict e.stream e.terms model.state.entries
  -- and SHARING_VIOLATION comes exactly when one conflicts
  pub violation_exactly : (r : Request) (units : List ℕ) (e : Existing)
      → prepare (namespace store.state.volume) r units ≡ passed (existing e)
      → ((store_open store.state r units).reply.outcome ≡ Refused SharingViolation)
      ↔ (any_conflict e.stream e.terms model.state.entries ≡ true)
  -- and never from an open that does not reach the sharing check
  pub violation_only_there : (r : Request) (units : List ℕ)
      → (store_open store.state r units).reply.outcome ≡ Refused SharingViolation
      → (e : Existing) × (prepare (namespace store.state.volume) r units ≡ passed (existing e))
  -- accepted opens got the handles 1, 2, 3 and so on in order
  pub handles_in_order : issued store.replies ≡ numbers_from 1 (length (issued store.replies))
  -- so that none is issued twice
  pub handles_differ : pairs (λ h k. not (eqb h k)) (issued store.replies) ≡ true

-- whatever the tables and the model held before, and whatever the calls ask: if format succeeded, all of that holds
abbrev pub EverySequence : Type 0
EverySequence =
    (t : Tables) (m : Model) (masks : List ℕ) (read_only : Bool)
    → (format t masks read_only).reply.outcome ≡ Done
    → (calls : List Call)
    → Agree
    (run store_step (format t masks read_only).state calls)
    (run model_step (model_format m masks read_only).state calls)
