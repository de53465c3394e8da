-- Each kind's test is the definition's.
use Rattle.sharing.specs.Sharing.{share_check, counted, any_kind, holds, shares, access_bits, share_bit, holders, sharers}
use Rattle.sharing.proofs.share_check.Goals as goal

pub returns : goal.returns
unfolding share_check counted any_kind holds shares access_bits share_bit holders sharers
returns c =
    rw (
      c.kind_conflicts-deleting.ensures,
      c.kind_conflicts-writing.ensures,
      c.kind_conflicts-reading.ensures,
      c.has-shares_delete.ensures,
      c.has-shares_write.ensures,
      c.has-shares_read.ensures,
      c.has-deletes.ensures,
      c.has-writes.ensures,
      c.has-reads.ensures,
    )
