-- What evaluation unfolds: a proof that names `computes` computes with all of these.
use Rattle.sharing.specs.Sharing.{access_bits, share_bit, any_kind, holds, shares, counted, conflict, conflicting, on_stream, any_conflict, is_holder, is_sharer, counts_of_all, counts_of, holders, sharers, share_check, changed_by, with_open, without_open}

unfoldable pub computes : Unit {0}
unfolding access_bits share_bit any_kind holds shares counted conflict conflicting on_stream any_conflict is_holder is_sharer
    counts_of_all counts_of holders sharers share_check changed_by with_open without_open
computes = tt
