-- .
use Rattle.base.{specs.Base.bare}
use Rattle.consistency.specs.Good.{is_zero_stream}
use Rattle.records.proofs.Lengths.{stream_name_length}
use Rattle.audit_streams.proofs.is_zero_stream.Goals as goal

pub returns : goal.returns
unfolding is_zero_stream bare
returns c =
    let z = c in
    let a = z in
    let zero = rw (stream_name_length a.args.s _ a.well_formed.0) at z.zero_name.ensures in
    rw (is_zero_stream, ← zero)
