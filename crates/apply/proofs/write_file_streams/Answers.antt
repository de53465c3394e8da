-- The stream without a name, then the named one if the path names one.
use Rattle.base.{specs.Base.{Tables}, proofs.Laws.{sym, ◌∙◌, empty_length}}
use Rattle.codecs.specs.Codec.{Each}
use Rattle.components.specs.Positions.{part_of}
use Rattle.store.specs.{Complete.stream_new, Store.write_streams}
use Rattle.open_steps.specs.Decisions.{streams_added}
use Rattle.apply.specs.Applied.{put_bare}
use Rattle.apply.proofs.Chains.{if_room, writes_then}
use Rattle.apply.proofs.write_file_streams.Goals as goal

pub returns-then-not-is_empty : goal.returns-then-not-is_empty
unfolding Each stream_new write_streams streams_added
returns-then-not-is_empty c =
    let a = c.args in
    let us = part_of a.path.now a.f.leaf.stream in
    let given = rw c.part_of-name.ensures at (sym c.is_empty.ensures ∙ c.if-not-is_empty.true) in
    rw (← empty_length us, given)
    (if_room (λ room. (room.0, room.1.0))
    (writes_then (λ (t : Tables). put_bare t a.at.opened (stream_new a.at.file a.f.file_type us))
    c.write_new_stream.ensures
    (rw c.part_of-name.ensures at c.write_new_stream-then-not-is_empty.ensures)))

pub returns-else-not-is_empty : goal.returns-else-not-is_empty
unfolding Each stream_new write_streams streams_added
returns-else-not-is_empty c =
    let a = c.args in
    let us = part_of a.path.now a.f.leaf.stream in
    let none = rw c.part_of-name.ensures at (sym c.is_empty.ensures ∙ c.if-not-is_empty.false) in
    rw (← empty_length us, none) (if_room (λ room. room.0) c.write_new_stream.ensures)
