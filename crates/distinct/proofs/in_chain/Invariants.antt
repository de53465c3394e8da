-- The invariant, where a chain begins at `first`: `at` points into the key's bucket too,
-- and what is asked is whether the key stands before it. The measure is the pointer, which falls.
use Rattle.base.{specs.Base.{◌≡◌}}
use Rattle.distinct.specs.Buckets.{found, Chain}
use Rattle.distinct.proofs.in_chain.Given as goal

abbrev pub invariant-loop-at : goal.invariant-loop-at
invariant-loop-at l =
    Chain l.keys l.next l.first l.key → Chain l.keys l.next l.at l.key × (found l.keys l.key l.first ≡ found l.keys l.key l.at)

abbrev pub decreases-loop-at : goal.decreases-loop-at
decreases-loop-at l = l.at
