use Rattle.base.{specs.Base.{Bool, not, ◌||◌, drop, link_used, zero_link, Link}, proofs.Laws.{sym, ◌∙◌, arith, all_fails, all_next, all_end, all_keep}}
use Rattle.consistency.specs.Good.{link_names_differ}
use Rattle.layout.{specs.Layout.decode, proofs.Lengths.links_count}
use Rattle.tables.specs.Tables.{link_at}
use Rattle.audit_links.proofs.differs_from.Goals as goal

-- what is asked of each link, used or not
abbrev differs : Link → Link → Bool
differs l m = not (link_used m) || link_names_differ l m

pub returns-then-not-differs_at : goal.returns-then-not-differs_at
unfolding link_at
returns-then-not-differs_at c =
    let a = c.args in
    let ls = (decode a.b.now).volume.links in
    let h = links_count a.b.now in
    sym
    (c.loop-j.invariant
    ∙ all_fails (differs a.l) ls c.loop-j.j zero_link (omega arith) (sym c.differs_at.ensures ∙ c.if-not-differs_at.true))

pub loop-j-preserved : goal.loop-j-preserved
unfolding link_at
loop-j-preserved c =
    let a = c.args in
    let ls = (decode a.b.now).volume.links in
    let h = links_count a.b.now in
    c.loop-j.invariant
    ∙ all_next (differs a.l) ls c.loop-j.j zero_link (omega arith) (sym c.differs_at.ensures ∙ c.if-not-differs_at.false)

pub returns : goal.returns
returns c =
    let a = c.args in
    let h = links_count a.b.now in
    sym (c.loop-j.invariant ∙ all_end (differs a.l) (decode a.b.now).volume.links c.loop-j.j (omega arith))

pub loop-j-init : goal.loop-j-init
loop-j-init c = all_keep link_used (link_names_differ c.args.l) (drop c.args.from (decode c.args.b.now).volume.links)
