-- It goes by what was placed; where nothing is, nothing changes.
use Rattle.base.{specs.Base.{writes, namespace, as_option}, proofs.Laws.{arith}}
use Rattle.layout.proofs.Changes.{unchanged}
use Rattle.store.specs.{Complete.attribute_change, Store.{write_streams, changed_volume}}
use Rattle.open_steps.specs.Decisions.{as_placed}
use Rattle.apply.proofs.Chains.{always, if_room}
use Rattle.apply.proofs.write_placed.Goals as goal

pub returns-in-Existing-default-default-Some : goal.returns-in-Existing-default-default-Some
unfolding namespace writes write_streams changed_volume attribute_change as_option as_placed
returns-in-Existing-default-default-Some c =
    let arm = c.in-Existing-default-default-Some in
    rw (arm.is, rw arm.is at arm.field-2-is)
    (if_room (λ room. tt) (always c.write_attributes.ensures))

pub returns-in-Existing-default-default-None : goal.returns-in-Existing-default-default-None
unfolding namespace writes write_streams changed_volume attribute_change as_option as_placed
returns-in-Existing-default-default-None c =
    let arm = c.in-Existing-default-default-None in
    rw (arm.is, rw arm.is at arm.field-2-is)
    (if_room (λ room. tt) (always (unchanged (omega arith))))

pub returns-in-NewStream : goal.returns-in-NewStream
returns-in-NewStream c = rw c.in-NewStream.is c.write_stream_added.ensures

pub returns-in-NewFile : goal.returns-in-NewFile
returns-in-NewFile c = rw c.in-NewFile.is c.write_file_added.ensures
