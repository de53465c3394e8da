use Rattle.std.proofs.Common.{rules}
use Rattle.base.specs.Base.{eqb}
use Rattle.tables.specs.Tables.{row_at, any_on_stream}
use Rattle.open_table.proofs.Asked.{asked_is}
use Rattle.open_table.proofs.stream_has_open.Goals as goal

pub returns : goal.returns
unfolding row_at any_on_stream
returns c = asked_is (λ o. eqb o.stream.0 c.args.s.0) _ _ (λ i b h. search rules) c.has_open.ensures
