-- The file, its links, its streams.
use Rattle.layout.proofs.Changes.{changed_then}
use Rattle.store.specs.{Close.{files_after, links_after, streams_after}, Store.volume_after}
use Rattle.settle.specs.{Settled.tables_after, Cleared.{cleared_from, without_links, without_streams}}
use Rattle.settle.proofs.remove_file.Goals as goal

pub returns : goal.returns
unfolding tables_after volume_after files_after links_after streams_after cleared_from
returns c =
    let f = c.args.f in
    changed_then (without_streams 0 f) (changed_then (without_links 0 f) c.write_file.ensures c.clear.ensures)
    c.clear-2.ensures
