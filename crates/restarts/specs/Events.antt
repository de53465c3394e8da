-- Events: a call, blocks of the image written, a restart from an image. Each as a step of the object store and of the model.
use Rattle.std.specs.Prelude.{◌&&◌, ◌||◌, ◌∷◌, ◌++◌}
use Rattle.base.specs.Base.{ℕ, zero, suc, Bool, true, false, not, List, [], take, drop, length, all, any, same, Reply, Checked, refused, passed, ◌>>=◌, ◌>>◌, Tables, Step, done, concluded, namespace, Outcome, Success, Done, Refused}
use Rattle.image.specs.{Blocks.{block_size, image_part}, Image.{unread, blocks_in, checked_row, read_rows, checked_image}}
use Rattle.layout.specs.Layout.{decode}
use Rattle.store.specs.{Store.when_consistent, Model.Model, Calls.{Call, store_step, model_step, Run}}

-- the first block and the bytes of the row that a write is given; the rows of blocks that a restart reads in turn
pub data Event : Type 0 where
  calls : Call → Event
  writes : ℕ → ℕ → Event
  restarts : List (List ℕ) → Event

-- what a restart leaves: the rows read in turn into a second set, then the closing call. The tables before it are lost
unfoldable pub restored : List (List ℕ) → Checked Tables
restored rows = read_rows unread rows >>= checked_image >>= (λ bs. passed (decode bs))

-- a write leaves the tables
unfoldable pub store_event : Tables → Event → Step Tables
store_event t (calls c) = store_step t c
store_event t (writes first long) = when_consistent t (checked_row first long >> passed (done t))
store_event t (restarts rows) = concluded t (restored rows >>= (λ u. passed (done u)))

-- the model has no tables to write from, and answers by the row alone. On a restart that succeeds it takes the image's read-only
-- mark, files, links and streams, strikes its entries and keeps its count
unfoldable pub model_restarted : Model → Tables → Model
model_restarted m u = record { namespace = namespace u.volume; count = m.count; entries = [] }

unfoldable pub model_event : Model → Event → Step Model
model_event m (calls c) = model_step m c
model_event m (writes first long) = concluded m (checked_row first long >> passed (done m))
model_event m (restarts rows) = concluded m (restored rows >>= (λ u. passed (done (model_restarted m u))))

-- the replies to calls and writes. That of a restart is not among them: FILE_CORRUPT_ERROR for a bad image is no contradiction of
-- the tables
unfoldable pub answered : Event → Reply → List Reply → List Reply
answered (calls c) r rs = r ∷ rs
answered (writes first long) r rs = r ∷ rs
answered (restarts rows) r rs = rs

unfoldable pub run_events : {S : Type 0} → (S → Event → Step S) → S → List Event → Run S
run_events step s [] = record { replies = []; state = s }
run_events step s (e ∷ es) =
    let now = step s e in
    let later = run_events step now.state es in
    record { replies = answered e now.reply later.replies; state = later.state }

-- a row cut into k blocks
unfoldable pub cut : ℕ → List ℕ → List (List ℕ)
cut zero row = []
cut (suc k) row = take block_size row ∷ cut k (drop block_size row)

-- the blocks that a write gives, by its outcome: one that is answered SUCCESS fills its row
unfoldable pub blocks_given : Tables → ℕ → ℕ → Outcome → List (List ℕ)
blocks_given t first long (Success a h) = []
blocks_given t first long Done = cut (blocks_in long) (image_part t first (blocks_in long))
blocks_given t first long (Refused s) = []

-- an accepted open makes the blocks written before it stale
unfoldable pub unless_opened : Outcome → List (List ℕ) → List (List ℕ)
unless_opened (Success a h) bs = []
unless_opened Done bs = bs
unless_opened (Refused s) bs = bs

-- the blocks written since the format by writes with no open accepted after them
unfoldable pub written_after : Tables → Event → List (List ℕ) → List (List ℕ)
written_after t (calls c) bs = unless_opened (store_event t (calls c)).reply.outcome bs
written_after t (writes first long) bs = blocks_given t first long (store_event t (writes first long)).reply.outcome ++ bs
written_after t (restarts rows) bs = bs

-- each block of the rows is one of those written
unfoldable pub all_written : List (List ℕ) → List (List ℕ) → Bool
all_written written rows = all (λ row. all (λ b. any (same b) written) (cut (blocks_in (length row)) row)) rows

unfoldable pub succeeds : {A : Type 0} → Checked A → Bool
succeeds (refused r) = false
succeeds (passed a) = true

-- a restart is own if each of its blocks was written so. One that doesn't succeed need not be
unfoldable pub own_restart : List (List ℕ) → Event → Bool
own_restart written (calls c) = true
own_restart written (writes first long) = true
own_restart written (restarts rows) = not (succeeds (restored rows)) || all_written written rows

-- every restart of a list of events that succeeds is own, from these tables and the blocks written so far
unfoldable pub own_restarts : Tables → List (List ℕ) → List Event → Bool
own_restarts t written [] = true
own_restarts t written (e ∷ es) =
    own_restart written e && own_restarts (store_event t e).state (written_after t e written) es
