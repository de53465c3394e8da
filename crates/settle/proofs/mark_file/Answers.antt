-- The file that is written is the one that was read, marked.
use Rattle.store.specs.Close.{marked_file}
use Rattle.settle.proofs.mark_file.Goals as goal

pub returns : goal.returns
unfolding marked_file
returns c =
    rw c.read_file.ensures at c.write_file.ensures
