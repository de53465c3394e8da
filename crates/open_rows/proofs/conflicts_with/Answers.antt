-- The pair rule looks at the terms alone.
use Rattle.sharing.specs.Sharing.{conflicting}
use Rattle.open_rows.proofs.conflicts_with.Goals as goal

pub returns : goal.returns
unfolding conflicting
returns c = c.conflicting.ensures
