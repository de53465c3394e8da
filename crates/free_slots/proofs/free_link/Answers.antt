use Rattle.std.proofs.Common.{rules}
use Rattle.base.specs.Base.{not, namespace, link_used, zero_link}
use Rattle.layout.proofs.Lengths.{links_count}
use Rattle.tables.specs.Tables.{link_at}
use Rattle.free_slots.specs.Free.{free_link}
use Rattle.free_slots.proofs.Searched.{lowest_is}
use Rattle.free_slots.proofs.free_link.Goals as goal

pub returns : goal.returns
unfolding free_link namespace link_at
returns c = lowest_is (λ l. not (link_used l)) zero_link _ _ _ (links_count c.args.b.now) (λ k b h. search rules) c.lowest.ensures (search rules)
