-- A name is empty exactly where its first place is zero.
use Rattle.base.{specs.Base.{bare, namespace}}
use Rattle.consistency.proofs.Derived.{bare_at_lem}
use Rattle.layout.specs.Layout.{decode}
use Rattle.stored_names.proofs.StoredUnits.{units_empty}
use Rattle.store.specs.Close.{of_named_stream}
use Rattle.settle.proofs.of_named_stream.Goals as goal

pub returns : goal.returns
unfolding of_named_stream namespace bare
returns c =
    let a = c.args in
    rw (
      bare_at_lem (decode a.b.now).volume.streams a.o.stream,
      ← c.read_stream.ensures,
      units_empty c.read_stream.result.name,
      ← c.unit_at.ensures,
    )
