-- The invariant: what is asked is what the pairs from i on say.
use Rattle.base.{specs.Base.{◌≡◌, drop, keep, pairs, link_used}}
use Rattle.consistency.specs.Good.{link_names_differ}
use Rattle.layout.{specs.Layout.decode}
use Rattle.audit_links.proofs.names_differ.Given as goal

abbrev pub invariant-loop-i : goal.invariant-loop-i
invariant-loop-i l =
    pairs link_names_differ (keep link_used (decode l.b).volume.links) ≡ pairs link_names_differ (keep link_used (drop l.i (decode l.b).volume.links))
