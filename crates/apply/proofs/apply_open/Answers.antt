-- What is placed, then the open.
use Rattle.base.{specs.Base.{namespace, Tables}}
use Rattle.layout.specs.Layout.{decode}
use Rattle.open_steps.specs.Decisions.{as_accepted}
use Rattle.store.specs.Complete.{new_open}
use Rattle.apply.specs.Applied.{open_stored, applied}
use Rattle.apply.proofs.Chains.{always, if_room, writes_then}
use Rattle.apply.proofs.apply_open.Goals as goal

pub returns : goal.returns
unfolding as_accepted applied
returns c =
    let a = c.args in
    let ns = namespace (decode a.b.now).volume in
    if_room (λ room. (room, tt))
    (writes_then (λ (t : Tables). open_stored t a.a.row (new_open (as_accepted ns a.path.now a.a)))
    c.write_placed.ensures
    (always
    (rw (c.opened.ensures.file ns a.path.now, c.opened.ensures.stream ns a.path.now) at c.store_open.ensures)))
