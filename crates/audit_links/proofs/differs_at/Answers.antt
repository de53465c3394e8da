-- Each way through the tests is one case of the definition.
use Rattle.base.{specs.Base.{not, link_used}, proofs.Laws.{sym, ap, ◌∙◌, or_right, not-true, not-false}}
use Rattle.consistency.specs.Good.{link_names_differ}
use Rattle.layout.specs.Layout.{decode}
use Rattle.tables.specs.Tables.{link_at}
use Rattle.audit_links.proofs.differs_at.Goals as goal

pub returns-then-ne : goal.returns-then-ne
unfolding link_names_differ
returns-then-ne c =
    sym
    (or_right (not (link_used (link_at (decode c.args.b.now).volume.links c.args.n)))
    (rw (← c.read_parent.ensures, not-true _ (sym c.ne.ensures ∙ c.if-ne.true))))

pub returns-then-not-link_used : goal.returns-then-not-link_used
returns-then-not-link_used c = rw (← c.read_link-m.ensures, ← c.link_used.ensures, c.if-not-link_used.true)

pub returns-else-not-link_used : goal.returns-else-not-link_used
unfolding link_names_differ link_used
returns-else-not-link_used c =
    rw (
      ← c.read_parent.ensures,
      not-false _ (sym c.ne.ensures ∙ c.if-ne.false),
      ← c.read_link-m.ensures,
      ← c.link_used.ensures,
      c.if-not-link_used.false,
    )
    (ap not c.same_names.ensures)
