-- Adding an open in fields that end at a limit is adding it, where the counts are below the limit.
use Rattle.base.{specs.Base.{ℕ, ◌+◌, ◌≤◌, ◌<◌, ◌≡◌, Bool, true, false, cond, List, length, StreamNo, Open, ShareCounts}, proofs.Laws.arith}
use Rattle.sharing.proofs.Counts.{AtMost, same-counts, opens_changed, holders-changed, sharers-changed, counts_bound}
use Rattle.sharing.specs.{Sharing.{counted, is_holder, is_sharer, holders, sharers, counts_of, changed_by, with_open}, Saturating.{plus_up_to, with_open_up_to}}

-- one more than a number below the limit
plus_below : (limit n : ℕ) → n < limit → (b : Bool) → plus_up_to limit n (cond b 1 0) ≡ n + cond b 1 0
unfolding plus_up_to
plus_below limit n h true = omega arith
plus_below limit n h false = omega arith

module _ (limit n : ℕ) (below : n < limit) where
  pub up_to_same : (o : Open) (c : ShareCounts) → AtMost n c → with_open_up_to limit o c ≡ with_open o c
  unfolding with_open_up_to with_open
  up_to_same o c h =
      same-counts (changed_by (plus_up_to limit) o c) (changed_by ◌+◌ o c)
      (rw (opens_changed (plus_up_to limit) o c, opens_changed ◌+◌ o c)
      (plus_below limit c.opens (omega (arith, h.opens)) (counted o.granted)))
      (λ k.
      rw (holders-changed (plus_up_to limit) o c k, holders-changed ◌+◌ o c k)
      (plus_below limit (holders k c) (omega (arith, h.holders k)) (is_holder k o)))
      (λ k.
      rw (sharers-changed (plus_up_to limit) o c k, sharers-changed ◌+◌ o c k)
      (plus_below limit (sharers k c) (omega (arith, h.sharers k)) (is_sharer k o)))

  -- so it is for the counts of at most n opens
  pub up_to_counts : (o : Open) (s : StreamNo) (os : List Open) → length os ≤ n
      → with_open_up_to limit o (counts_of s os) ≡ with_open o (counts_of s os)
  up_to_counts o s os h = up_to_same o (counts_of s os) bounds
    where
      b : AtMost (length os) (counts_of s os)
      b = counts_bound s os

      bounds : AtMost n (counts_of s os)
      bounds =
          record {
            opens = omega (arith, b.opens);
            holders = λ k. omega (arith, b.holders k);
            sharers = λ k. omega (arith, b.sharers k);
          }
