-- Demand 3 of the exported calls: the statement about every sequence of them from a format that succeeded.
use Rattle.std.specs.Prelude.{◌≡◌, ◌∷◌, ◌++◌}
use Rattle.base.specs.Base.{ℕ, Bool, cond, List, [], Tables, Seen, seen, Step, Handle}
use Rattle.audit.specs.Sound.{sound_bytes}
use Rattle.call_contracts.specs.Performs.{StandFor}
use Rattle.consistency.specs.Relations.{valid_masks}
use Rattle.format.specs.{Format.fresh_tables, Bytes.format_bytes}
use Rattle.store.specs.{Model.{Model, model_format}, Calls.{Call, opens, closes, sets_read_only, Run, run, store_step, model_step}, Sequences.Agree}
use Rattle.exports.specs.{Interface.{flag, masks_of, path_of, request_of, status_alone, open_numbers, verdict}, Returns.{Returns, ReturnsOf}}

-- a call of open, close or set_read_only with the numbers and bytes of the interface, and what the host gets of its reply
pub data HostCall : Type 0 where
  host_opens : (account access share disposition options attributes fold : ℕ) → List ℕ → HostCall
  host_closes : ℕ → HostCall
  host_sets_read_only : ℕ → HostCall

unfoldable pub call_of : HostCall → Call
call_of (host_opens account access share disposition options attributes fold path) =
    opens (request_of account access share disposition options attributes fold) (path_of path)
call_of (host_closes h) = closes (record { 0 = h })
call_of (host_sets_read_only mark) = sets_read_only (flag mark)

unfoldable pub numbers_of : HostCall → Seen → List ℕ
numbers_of (host_opens account access share disposition options attributes fold path) = open_numbers
numbers_of (host_closes h) = status_alone
numbers_of (host_sets_read_only mark) = status_alone

-- an exported call, with its arguments
pub data Export : Type 0 where
  formats : List ℕ → ℕ → Export
  calls : HostCall → Export
  audits : Export

-- what an exported call promises, with the bytes before and after it
unfoldable pub Promises : Export → (got before after : List ℕ) → Type 0
Promises (formats masks mark) got before after = Returns status_alone got after (format_bytes before (masks_of masks) (flag mark))
Promises (calls c) got before after = ReturnsOf (numbers_of c) got before after (λ t. store_step t (call_of c))
Promises audits got before after = (got ≡ verdict (sound_bytes before) ∷ []) × (after ≡ before)

-- exported calls made one after another, each on the bytes that the last one left: the bytes before, the calls, what each
-- returned, the bytes after
pub data Made : List ℕ → List Export → List (List ℕ) → List ℕ → Type 0 where
  no_call : {bytes : List ℕ} → Made bytes [] [] bytes
  next_call : {before between after got : List ℕ} {e : Export} {es : List Export} {later : List (List ℕ)}
      → Promises e got before between → Made between es later after → Made before (e ∷ es) (got ∷ later) after

-- the same calls made to the model, which has no audit to fail: what each returns
unfoldable pub model_numbers : Model → List Export → List (List ℕ)
model_numbers m [] = []
model_numbers m (formats masks mark ∷ es) =
    let s = model_format m (masks_of masks) (flag mark) in
    status_alone (seen s.reply) ∷ model_numbers s.state es
model_numbers m (calls c ∷ es) =
    let s = model_step m (call_of c) in
    numbers_of c (seen s.reply) ∷ model_numbers s.state es
model_numbers m (audits ∷ es) = (1 ∷ []) ∷ model_numbers m es

-- the last format that succeeded, and the calls since
pub record Since : Type 0 where
  pub masks : List ℕ
  pub read_only : Bool
  pub calls : List Call

abbrev pub begun : List ℕ → ℕ → Since
begun masks mark = record { masks = masks_of masks; read_only = flag mark; calls = [] }

abbrev pub gone_on : Since → HostCall → Since
gone_on s c = record { masks = s.masks; read_only = s.read_only; calls = s.calls ++ (call_of c ∷ []) }

unfoldable pub since : Since → List Export → Since
since s [] = s
since s (formats masks mark ∷ es) = since (cond (valid_masks (masks_of masks)) (begun masks mark) s) es
since s (calls c ∷ es) = since (gone_on s c) es
since s (audits ∷ es) = since s es

-- those calls made to fresh tables, and to the model
abbrev pub store_run : Since → Run Tables
store_run s = run store_step (fresh_tables s.masks s.read_only) s.calls

abbrev pub model_run : Model → Since → Run Model
model_run m s = run model_step (model_format m s.masks s.read_only).state s.calls

-- each call returned what the model answers, and the bytes that are left stand for the tables that demand 3 speaks of
pub record AgreeInNumbers (got : List (List ℕ)) (after : List ℕ) (m : Model) (first : Since) (es : List Export) : Type 0 where
  pub same_numbers : got ≡ model_numbers (model_run m first).state es
  pub bytes_stand_for : StandFor after (store_run (since first es)).state
  pub agree : Agree (store_run (since first es)) (model_run m (since first es))

-- whatever the bytes and the model held before, and whatever the host calls: if its first format returned 0, all of that
-- holds
abbrev pub EverySequenceOfExports : Type 0
EverySequenceOfExports =
    (bytes : List ℕ) (m : Model) (masks : List ℕ) (mark : ℕ) (formatted : List ℕ)
    → Promises (formats masks mark) (0 ∷ []) bytes formatted
    → (es : List Export) (got : List (List ℕ)) (after : List ℕ)
    → Made formatted es got after
    → AgreeInNumbers got after m (begun masks mark) es
