-- The six tests of the kinds and the two of being counted are the definition's.
use Rattle.sharing.specs.Sharing.{conflict, conflicting, any_kind, holds, shares, access_bits, share_bit}
use Rattle.sharing.proofs.conflicting.Goals as goal

pub returns : goal.returns
unfolding conflict conflicting any_kind holds shares access_bits share_bit
returns c =
    rw (
      c.counted-2.ensures,
      c.counted.ensures,
      c.unshared-6.ensures,
      c.unshared-5.ensures,
      c.unshared-4.ensures,
      c.unshared-3.ensures,
      c.unshared-2.ensures,
      c.unshared.ensures,
    )
