-- It goes by the effect.
use Rattle.base.proofs.Laws.{arith}
use Rattle.layout.proofs.Changes.{unchanged}
use Rattle.store.specs.{Close.{files_after, links_after, streams_after}, Store.volume_after}
use Rattle.tables.specs.Tables.{stream_at}
use Rattle.settle.specs.Settled.{as_effect, tables_after}
use Rattle.settle.proofs.write_effect.Goals as goal

pub returns-in-Unchanged : goal.returns-in-Unchanged
unfolding as_effect tables_after volume_after files_after links_after streams_after
returns-in-Unchanged c = rw c.in-Unchanged.is (unchanged (omega arith))

pub returns-in-FileMarked : goal.returns-in-FileMarked
unfolding as_effect tables_after volume_after files_after links_after streams_after
returns-in-FileMarked c = rw c.in-FileMarked.is c.mark_file.ensures

pub returns-in-FileRemoved : goal.returns-in-FileRemoved
unfolding as_effect
returns-in-FileRemoved c = rw c.in-FileRemoved.is c.remove_file.ensures

pub returns-in-StreamMarked : goal.returns-in-StreamMarked
unfolding as_effect tables_after volume_after files_after links_after streams_after stream_at
returns-in-StreamMarked c = rw c.in-StreamMarked.is c.mark_stream.ensures

pub returns-in-StreamRemoved : goal.returns-in-StreamRemoved
unfolding as_effect tables_after volume_after files_after links_after streams_after
returns-in-StreamRemoved c = rw c.in-StreamRemoved.is c.write_stream.ensures
