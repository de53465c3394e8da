use Rattle.std.proofs.Common.{rules}
use Rattle.base.specs.Base.{eqb}
use Rattle.tables.specs.Tables.{row_at, any_on_file}
use Rattle.open_table.proofs.Asked.{asked_is}
use Rattle.open_table.proofs.file_has_open.Goals as goal

pub returns : goal.returns
unfolding row_at any_on_file
returns c = asked_is (λ o. eqb o.file.0 c.args.f.0) _ _ (λ i b h. search rules) c.has_open.ensures
