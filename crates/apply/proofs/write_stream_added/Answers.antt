-- The attributes, then the stream.
use Rattle.base.{specs.Base.{writes, namespace, Data, Tables}}
use Rattle.codecs.specs.Codec.{Each}
use Rattle.components.specs.Positions.{part_of}
use Rattle.store.specs.{Complete.stream_new, Store.{changed_volume, write_streams}}
use Rattle.open_steps.specs.Decisions.{as_placed, placed_stream}
use Rattle.apply.specs.Applied.{put_bare}
use Rattle.apply.proofs.Chains.{always, if_room, writes_then}
use Rattle.apply.proofs.write_stream_added.Goals as goal

pub returns : goal.returns
unfolding Each stream_new namespace writes write_streams changed_volume as_placed placed_stream
returns c =
    let a = c.args in
    if_room (λ room. (tt, room.streams.0))
    (writes_then
    (λ (t : Tables). put_bare t a.n (stream_new a.s.file Data (part_of a.path.now a.s.leaf.stream)))
    (always c.write_attributes.ensures)
    (rw c.part_of.ensures at c.write_new_stream.ensures))
