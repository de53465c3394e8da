use Rattle.std.proofs.Common.{rules}
use Rattle.base.{specs.Base.{not, namespace, bare, bare_used, zero_stream}, proofs.Laws.{after_map}}
use Rattle.layout.proofs.Lengths.{streams_count}
use Rattle.tables.specs.Tables.{stream_at}
use Rattle.free_slots.specs.Free.{free_stream}
use Rattle.free_slots.proofs.Searched.{lowest_is}
use Rattle.free_slots.proofs.free_stream.Goals as goal

pub returns : goal.returns
unfolding free_stream namespace stream_at bare bare_used
returns c =
    rw after_map
    (lowest_is (λ s. not (bare_used (bare s))) zero_stream _ _ _ (streams_count c.args.b.now) (λ k b h. search rules)
    c.lowest.ensures (search rules))
