--
use Rattle.base.{specs.Base.{bare, bare_used, stream_used}}
use Rattle.image.specs.Alone.{stream_alone}
use Rattle.image_alone.proofs.stream_alone.Goals as goal

pub returns : goal.returns
unfolding stream_alone bare_used bare stream_used
returns c =
    rw (
      ← c.slot_consistent.ensures,
      ← c.stream_used.ensures,
      ← c.stream_placed.ensures,
      ← c.same_counts.ensures,
    )
