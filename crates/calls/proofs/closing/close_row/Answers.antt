-- The row, then what becomes of the file and stream of the open that it held.
use Rattle.base.{specs.Base.Tables}
use Rattle.layout.proofs.Changes.{changed_then}
use Rattle.store.specs.Store.{settled}
use Rattle.calls.proofs.closing.close_row.Goals as goal

pub returns : goal.returns
returns c =
    rw (c.read_open-o.ensures, c.change_row-free.ensures)
    at (changed_then (λ (t : Tables). settled t c.read_open-o.result) c.strike_open.ensures c.settle.ensures)
