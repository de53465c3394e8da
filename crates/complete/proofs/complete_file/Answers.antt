-- By the slots found.
use Rattle.base.specs.Base.{namespace, as_checked, ◌>>=◌}
use Rattle.store.specs.{Complete.{complete}}
use Rattle.complete.proofs.{NewFile.{named_is, place-file}}
use Rattle.complete.specs.Placing.{finished}
use Rattle.complete.proofs.complete_file.Goals as goal

pub returns-in-Err : goal.returns-in-Err
unfolding as_checked complete namespace ◌>>=◌
returns-in-Err c =
    record {
      is = rw (place-file, ← named_is, ← c.part_of.ensures, ← c.is_empty.ensures, ← c.in-Err.ensures);
      row = tt;
    }

pub returns-in-Ok : goal.returns-in-Ok
unfolding as_checked complete finished namespace ◌>>=◌
returns-in-Ok c =
    rw (place-file, ← named_is, ← c.part_of.ensures, ← c.is_empty.ensures, ← c.in-Ok.ensures) (c.finish.ensures c.args.path.now)
