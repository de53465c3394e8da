-- The counts, the row, the next handle.
use Rattle.base.{specs.Base.{bare, with_counts, Tables}}
use Rattle.layout.specs.Puts.{put_open, put_next}
use Rattle.layout.proofs.Changes.{changed_then}
use Rattle.store.specs.Store.{recount}
use Rattle.tables.specs.Tables.{stream_at}
use Rattle.apply.specs.Applied.{raised, open_stored}
use Rattle.apply.proofs.store_open.Goals as goal

pub returns : goal.returns
unfolding bare with_counts stream_at recount open_stored
returns c =
    let a = c.args in
    changed_then (λ (t : Tables). put_next t (record { 0 = raised a.o.handle.0 }))
    (changed_then (λ (t : Tables). put_open t a.row a.o)
    (rw (c.with_open-counts.ensures, c.read_counts.ensures) at c.write_counts.ensures)
    (rw c.change_row-stored.ensures at c.write_open.ensures))
    (rw c.raised.ensures at c.write_next.ensures)
