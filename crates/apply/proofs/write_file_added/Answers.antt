-- The file, its link, its streams.
use Rattle.base.{specs.Base.{writes, namespace, Tables}}
use Rattle.codecs.specs.Codec.{Each}
use Rattle.components.specs.Positions.{part_of}
use Rattle.layout.specs.Puts.{put_link}
use Rattle.store.specs.{Complete.{link_new, place_file}, Store.changed_volume}
use Rattle.open_steps.specs.{Pendings.as_file, Decisions.{streams_added, as_placed}}
use Rattle.apply.specs.Applied.{put_streams}
use Rattle.apply.proofs.Chains.{always, if_room, writes_then}
use Rattle.apply.proofs.write_file_added.Goals as goal

pub returns : goal.returns
unfolding Each link_new namespace writes changed_volume place_file as_file as_placed
returns c =
    let a = c.args in
    if_room (λ room. ((tt, room.links.0), room.streams))
    (writes_then (λ (t : Tables). put_streams t (streams_added a.path.now a.f a.at))
    (writes_then
    (λ (t : Tables). put_link t a.at.link (link_new a.f.dir (part_of a.path.now a.f.leaf.file) a.at.file))
    (always (rw c.read_file.ensures at c.write_file.ensures))
    c.write_link_added.ensures)
    c.write_file_streams.ensures)
