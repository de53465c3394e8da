-- Where the open is counted, each field is the kind's test; else all are zero.
use Rattle.base.{specs.Base.count}
use Rattle.sharing.specs.Sharing.{counts_of_all, is_holder, is_sharer, holds, shares, access_bits, share_bit}
use Rattle.sharing.proofs.counts_of_one.Goals as goal

pub returns-then-counted : goal.returns-then-counted
unfolding count counts_of_all is_holder is_sharer holds shares access_bits share_bit
returns-then-counted c =
    rw (
      c.one_if_has-then-counted-5.ensures,
      c.one_if_has-then-counted-4.ensures,
      c.one_if_has-then-counted-3.ensures,
      c.one_if_has-then-counted-2.ensures,
      c.one_if_has-then-counted.ensures,
      c.one_if_has.ensures,
      ← c.counted.ensures,
      c.if-counted.true,
    )

pub returns-else-counted : goal.returns-else-counted
unfolding count counts_of_all is_holder is_sharer holds shares access_bits share_bit
returns-else-counted c = rw (← c.counted.ensures, c.if-counted.false)
