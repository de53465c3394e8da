-- A name with room is stored whole, and the counts are those that were read.
use Rattle.base.{specs.Base.{stream_name_limit, with_counts}}
use Rattle.store.specs.Complete.{stream_new}
use Rattle.stored_names.proofs.Padded.{places_all}
use Rattle.apply.proofs.write_new_stream.Goals as goal

pub returns : goal.returns
unfolding stream_new with_counts
returns c =
    record {
      long = c.write_stream.ensures.long;
      changed = λ room.
          rw (
            c.stored_name.ensures,
            places_all stream_name_limit c.args.name.now room,
            c.read_counts.ensures,
          )
          at c.write_stream.ensures;
    }
