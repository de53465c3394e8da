-- The code's answers as the definitions' (the sharing check, step 10's end and step 12).
use Rattle.std.specs.Prelude.{◌≡◌, Result, IfOk}
use Rattle.base.specs.Base.{ℕ, suc, Bool, cond, List, some, Namespace, Checked, passed, ◌>>=◌, as_checked, Terms, Tables, namespace, Status, CreateAction, StreamNo, Handle, Open}
use Rattle.free_slots.specs.Free.{free_file, free_link, free_stream}
use Rattle.open_steps.specs.{Decisions.as_accepted, declared.{FileSlots.FileSlots, AcceptedOpen.AcceptedOpen}}
use Rattle.open_table.specs.Rows.{free_row}
use Rattle.store.specs.{Complete.{View, Placed, Decision, next_handle, complete}, Store.store_view, Prepare.Pending}

-- the open's place: its handle is the definition's, and its row the lowest free one
pub record PlacesOpen (t : Tables) (x : Result (ℕ × Handle) Status) : Type 0 where
  pub is : as_checked (λ (p : ℕ × Handle). p.1) x ≡ next_handle (store_view t)
  pub row : IfOk x (λ (p : ℕ × Handle). free_row t.opens.rows ≡ some p.0)

-- the slots of a new file
unfoldable pub opened_slot : Namespace → StreamNo → Bool → Checked StreamNo
opened_slot ns s named = cond named (free_stream ns (suc s.0)) (passed s)

unfoldable pub file_slots : Namespace → Bool → Checked FileSlots
file_slots ns named = do
  f ← free_file ns
  l ← free_link ns
  s ← free_stream ns 0
  t ← opened_slot ns s named
  passed (record { file = f; link = l; unnamed = s; opened = t })

-- step 12's end
unfoldable pub finished : View → CreateAction → Placed → Terms → Bool → Checked Decision
finished view action placed terms deletes = do
  handle ← next_handle view
  passed
      (record { action = action; placed = placed; terms = terms; handle = handle; delete_on_close = deletes })

-- an accepted open's row is the lowest free one
abbrev pub TakesFreeRow : List Open → Result AcceptedOpen Status → Type 0
TakesFreeRow rows x = IfOk x (λ a. free_row rows ≡ some a.row)

-- the code decides as the definition does
pub record Decides (t : Tables) (path : List ℕ) (x : Result AcceptedOpen Status) (d : Checked Decision) : Type 0 where
  pub is : as_checked (as_accepted (namespace t.volume) path) x ≡ d
  pub row : TakesFreeRow t.opens.rows x

abbrev pub completed : View → Namespace → Bool → Checked Pending → Checked Decision
completed view ns deletes p = p >>= complete view ns deletes
