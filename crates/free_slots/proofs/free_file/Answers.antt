use Rattle.std.proofs.Common.{rules}
use Rattle.base.specs.Base.{not, namespace, file_used, zero_file}
use Rattle.layout.proofs.Lengths.{files_count}
use Rattle.tables.specs.Tables.{file_at}
use Rattle.free_slots.specs.Free.{free_file}
use Rattle.free_slots.proofs.Searched.{lowest_is}
use Rattle.free_slots.proofs.free_file.Goals as goal

pub returns : goal.returns
unfolding free_file namespace file_at file_used
returns c = lowest_is (λ f. not (file_used f)) zero_file _ _ _ (files_count c.args.b.now) (λ k b h. search rules) c.lowest.ensures (search rules)
