-- The file that is written is the one that was read, with other attributes.
use Rattle.store.specs.Complete.{with_attributes}
use Rattle.apply.proofs.write_attributes.Goals as goal

pub returns : goal.returns
unfolding with_attributes
returns c =
    rw c.read_file.ensures at c.write_file.ensures
