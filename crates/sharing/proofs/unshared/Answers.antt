-- The code is the definition's two tests.
use Rattle.sharing.proofs.unshared.Goals as goal

pub returns : goal.returns
returns c = rw (c.has.ensures, c.has-2.ensures)
