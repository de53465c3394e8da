-- A name with room is stored whole.
use Rattle.base.{specs.Base.file_name_limit}
use Rattle.store.specs.Complete.{link_new}
use Rattle.components.specs.Positions.{part_of}
use Rattle.stored_names.proofs.Padded.{places_all}
use Rattle.apply.proofs.write_link_added.Goals as goal

pub returns : goal.returns
unfolding link_new
returns c =
    let a = c.args in
    record {
      long = c.write_link.ensures.long;
      changed = λ room.
          rw (
            c.stored_name.ensures,
            c.part_of.ensures,
            places_all file_name_limit (part_of a.path.now a.f.leaf.file) room,
          )
          at c.write_link.ensures;
    }
