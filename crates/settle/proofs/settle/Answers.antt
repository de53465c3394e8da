-- What is written is what was decided.
use Rattle.store.specs.Store.{settled}
use Rattle.settle.specs.Settled.{tables_after}
use Rattle.settle.proofs.settle.Goals as goal

pub returns : goal.returns
unfolding settled tables_after
returns c =
    rw c.close_effect.ensures at c.write_effect.ensures
