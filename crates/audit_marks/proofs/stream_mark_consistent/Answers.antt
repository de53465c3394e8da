-- The streams without their counts have the marks.
use Rattle.base.{specs.Base.{bare, namespace}}
use Rattle.consistency.{specs.Test.stream_mark_test, proofs.Derived.bare_at_lem}
use Rattle.layout.specs.Layout.{decode}
use Rattle.audit_marks.proofs.stream_mark_consistent.Goals as goal

pub returns-then-not-read_stream_mark : goal.returns-then-not-read_stream_mark
unfolding stream_mark_test namespace bare
returns-then-not-read_stream_mark c =
    rw (bare_at_lem (decode c.args.b.now).volume.streams c.args.n, stream_mark_test, ← c.read_stream_mark.ensures, c.if-not-read_stream_mark.true)

pub returns-else-not-read_stream_mark : goal.returns-else-not-read_stream_mark
unfolding stream_mark_test namespace bare
returns-else-not-read_stream_mark c =
    rw (bare_at_lem (decode c.args.b.now).volume.streams c.args.n, stream_mark_test, ← c.read_stream_mark.ensures, c.if-not-read_stream_mark.false)
    c.stream_has_open.ensures
