-- Bytes of another number stand for no tables.
use Rattle.base.{proofs.Laws.{ne_eqb}, specs.Base.{length}}
use Rattle.layout.{specs.Layout.tables_size, proofs.Stands.tables_stand}
use Rattle.audit.specs.Sound.{sound_bytes}
use Rattle.audit.proofs.audit.Goals as goal

pub returns-in-None : goal.returns-in-None
unfolding sound_bytes
returns-in-None c =
    let b = c.args.b.now in
    rw (tables_stand b, ne_eqb (length b) tables_size c.in-None.ensures.cases)
