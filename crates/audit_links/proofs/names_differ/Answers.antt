use Rattle.base.{specs.Base.{◌+◌, ◌≡◌, true, ◌&&◌, drop, all, keep, pairs, link_used, zero_link}, proofs.Laws.{sym, ap, ◌∙◌, arith, refl, kept_past, pairs-kept, pairs_kept_end}}
use Rattle.consistency.specs.Good.{link_names_differ}
use Rattle.layout.{specs.Layout.decode, proofs.Lengths.links_count}
use Rattle.tables.specs.Tables.{link_at}
use Rattle.audit_links.proofs.names_differ.Goals as goal
use Rattle.audit_links.proofs.names_differ.Goals.{After-link_used, else-link_used-via-then-link_used+else-not-differs_from, else-link_used-via-else-link_used}

-- what the used link at place i asks: that it differs from those after it, and what they ask
asked : (c : After-link_used) →
    let ls = (decode c.args.b.now).volume.links in
    c.link_used.result ≡ true
    → pairs link_names_differ (keep link_used ls)
    ≡ (all (link_names_differ c.read_link-l.result) (keep link_used (drop (c.loop-i.i + 1) ls))
    && pairs link_names_differ (keep link_used (drop (c.loop-i.i + 1) ls)))
unfolding link_at
asked c e =
    let b = c.args.b.now in
    let h = links_count b in
    rw c.read_link-l.ensures
    (c.loop-i.invariant
    ∙ pairs-kept (decode b).volume.links c.loop-i.i zero_link (omega arith) link_used link_names_differ
    (ap link_used (sym c.read_link-l.ensures) ∙ sym c.link_used.ensures ∙ e))

pub returns-then-not-differs_from : goal.returns-then-not-differs_from
returns-then-not-differs_from c =
    let u = (goal.at.returns-then-not-differs_from c).After-link_used in
    sym (asked u c.if-link_used.true ∙ rw (← c.differs_from.ensures, c.if-not-differs_from.true))

pub loop-i-preserved : goal.loop-i-preserved
unfolding link_at
loop-i-preserved c =
    let u = (goal.at.loop-i-preserved c).After-link_used in
    let b = c.args.b.now in
    let h = links_count b in
    elim c.else-link_used.branch [
      | else-link_used-via-then-link_used+else-not-differs_from w ↦ asked u w.if-link_used.true ∙ rw (← w.differs_from.ensures, w.if-not-differs_from.false)
      | else-link_used-via-else-link_used w ↦
          c.loop-i.invariant
          ∙ ap (pairs link_names_differ)
          (kept_past (decode b).volume.links c.loop-i.i zero_link (omega arith) link_used
          (ap link_used (sym c.read_link-l.ensures) ∙ sym c.link_used.ensures ∙ w.if-link_used.false))
    ]

pub returns : goal.returns
returns c =
    let b = c.args.b.now in
    let h = links_count b in
    sym (c.loop-i.invariant ∙ pairs_kept_end (decode b).volume.links c.loop-i.i (omega arith) link_used link_names_differ)

pub loop-i-init : goal.loop-i-init
loop-i-init c = refl
