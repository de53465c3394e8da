-- Demand 3 of the calls on lent bytes: the statement about every sequence of calls from a format that succeeded.
use Rattle.std.specs.Prelude.{◌≡◌, ◌∷◌}
use Rattle.base.specs.Base.{ℕ, Bool, List, [], map, seen, Answers, Answer, Tables, Done}
use Rattle.format.specs.{Format.format, Bytes.format_bytes}
use Rattle.layout.specs.Layout.{decode}
use Rattle.reply_numbers.specs.Numbers.{answer_seen}
use Rattle.store.specs.{Model.{Model, model_format}, Calls.{Call, Run, run, store_step, model_step}, Sequences.Agree}
use Rattle.call_contracts.specs.Performs.{StandFor, Performs}

-- calls made one after another, each on the bytes that the last one left: the bytes before, the calls with their
-- arguments, their answers, the bytes after
pub data Made : List ℕ → List Call → List Answer → List ℕ → Type 0 where
  no_call : {bytes : List ℕ} → Made bytes [] [] bytes
  next_call : {before between after : List ℕ} {c : Call} {calls : List Call} {a : Answer} {answers : List Answer}
      → Performs a before between (λ t. store_step t c) → Made between calls answers after
      → Made before (c ∷ calls) (a ∷ answers) after

-- the answers are the model's replies, and the bytes that are left stand for the tables that demand 3 speaks of
pub record AgreeInBytes (answers : List Answer) (after : List ℕ) (store : Run Tables) (model : Run Model) : Type 0 where
  pub same_answers : map answer_seen answers ≡ map seen model.replies
  pub bytes_stand_for : StandFor after store.state
  pub agree : Agree store model

-- whatever the bytes and the model held before, and whatever the calls ask: if format answered that it is done, all of
-- that holds
abbrev pub EverySequenceOfCalls : Type 0
EverySequenceOfCalls =
    (bytes : List ℕ) (m : Model) (masks : List ℕ) (read_only : Bool) (a : Answer) (formatted : List ℕ)
    → Answers a formatted (format_bytes bytes masks read_only)
    → a.outcome ≡ Done
    → (calls : List Call) (answers : List Answer) (after : List ℕ)
    → Made formatted calls answers after
    → AgreeInBytes answers after
    (run store_step (format (decode bytes) masks read_only).state calls)
    (run model_step (model_format m masks read_only).state calls)
