-- The counts, then the row.
use Rattle.base.{specs.Base.{bare, with_counts, Tables}}
use Rattle.layout.specs.Puts.{put_open}
use Rattle.layout.proofs.Changes.{changed_then}
use Rattle.store.specs.Store.{recount}
use Rattle.tables.specs.Tables.{stream_at}
use Rattle.apply.specs.Applied.{struck_from}
use Rattle.apply.proofs.strike_open.Goals as goal

pub returns : goal.returns
unfolding bare with_counts stream_at recount struck_from
returns c =
    changed_then (λ (t : Tables). put_open t c.args.row c.args.free)
    (rw (c.without_open-counts.ensures, c.read_counts.ensures, c.read_open-o.ensures)
    at c.write_counts.ensures)
    c.write_open.ensures
