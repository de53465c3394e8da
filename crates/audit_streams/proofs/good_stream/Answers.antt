-- Each test is one part of the definition.
use Rattle.base.{specs.Base.bare}
use Rattle.audit_streams.proofs.{Streams.stream-parts}
use Rattle.audit_streams.proofs.good_stream.Goals as goal

pub returns-then-good_stream_name : goal.returns-then-good_stream_name
unfolding bare
returns-then-good_stream_name c =
    rw (
      stream-parts c.args.of (bare c.args.s),
      ← c.good_stream_name.ensures,
      c.if-good_stream_name.true,
      ← c.is_used.ensures,
      ← c.is_directory.ensures,
      ← c.is_directory-then-good_stream_name.ensures,
      ← c.unit_at.ensures,
    )

pub returns-else-good_stream_name : goal.returns-else-good_stream_name
unfolding bare
returns-else-good_stream_name c =
    rw (stream-parts c.args.of (bare c.args.s), ← c.good_stream_name.ensures, c.if-good_stream_name.false)
