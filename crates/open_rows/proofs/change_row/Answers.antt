-- A row has from then on what was stored there.
use Rattle.open_rows.proofs.{Row.held}
use Rattle.open_rows.proofs.change_row.Goals as goal

pub returns : goal.returns
returns c = rw (c.store_at.ensures, held) at c.open_at.ensures
