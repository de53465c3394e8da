-- Calls as data, and the run of a list of calls over the tables and over the model, each with its replies in order.
use Rattle.std.specs.Prelude.{◌∷◌}
use Rattle.base.specs.Base.{ℕ, Bool, List, [], Reply, Tables, Step, Handle, Request}
use Rattle.store.specs.{Store.{store_open, store_close, store_set_read_only}, Model.{Model, model_open, model_close, model_set_read_only}}

pub data Call : Type 0 where
  opens : Request → List ℕ → Call
  closes : Handle → Call
  sets_read_only : Bool → Call

unfoldable pub store_step : Tables → Call → Step Tables
store_step t (opens r units) = store_open t r units
store_step t (closes h) = store_close t h
store_step t (sets_read_only b) = store_set_read_only t b

unfoldable pub model_step : Model → Call → Step Model
model_step m (opens r units) = model_open m r units
model_step m (closes h) = model_close m h
model_step m (sets_read_only b) = model_set_read_only m b

-- the replies to a list of calls, each on the state that the last one left, and the last state
pub record Run (S : Type 0) : Type 0 where
  pub replies : List Reply
  pub state : S

unfoldable pub run : {S : Type 0} → (S → Call → Step S) → S → List Call → Run S
run step s [] = record { replies = []; state = s }
run step s (c ∷ cs) =
    let now = step s c in
    let later = run step now.state cs in
    record { replies = now.reply ∷ later.replies; state = later.state }
