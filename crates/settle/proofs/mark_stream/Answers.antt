-- The stream that is written is the one that was read, marked, with its counts.
use Rattle.base.{specs.Base.{bare, with_counts}}
use Rattle.store.specs.{Close.marked_bare, Store.marked_stream}
use Rattle.settle.proofs.mark_stream.Goals as goal

pub returns : goal.returns
unfolding bare with_counts marked_bare marked_stream
returns c =
    rw c.read_stream.ensures at c.write_stream.ensures
