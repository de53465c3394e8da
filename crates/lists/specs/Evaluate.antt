-- What evaluation unfolds: a proof that names `computes` computes with all of these.
use Rattle.lists.specs.Lists.{all, all_from, any, count, keep, pairs, first_from, find, first_after, writes, is_empty, same, one_of, padded}

unfoldable pub computes : Unit {0}
unfolding all all_from any count keep pairs first_from find first_after writes is_empty same one_of padded
computes = tt
