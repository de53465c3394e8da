-- The invariant: what is asked is what the links from j on say.
use Rattle.base.{specs.Base.{◌≡◌, not, ◌||◌, drop, all, keep, link_used}}
use Rattle.consistency.specs.Good.{link_names_differ}
use Rattle.layout.{specs.Layout.decode}
use Rattle.audit_links.proofs.differs_from.Given as goal

abbrev pub invariant-loop-j : goal.invariant-loop-j
invariant-loop-j l =
    all (link_names_differ l.l) (keep link_used (drop l.from (decode l.b).volume.links)) ≡ all (λ m. not (link_used m) || link_names_differ l.l m) (drop l.j (decode l.b).volume.links)
