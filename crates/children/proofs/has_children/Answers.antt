use Rattle.base.{specs.Base.{ℕ, zero_link, link_slots}, proofs.Laws.{refl, rules}}
use borrow.Author.Tests.{tests}
use Rattle.std.proofs.lemmas.Iterator.{YieldsList-from_range}
use Rattle.std.proofs.lemmas.Iterator.Search.{any_from_yields_List}
use Rattle.consistency.specs.Relations.{child_of, has_children}
use Rattle.layout.{specs.Layout.decode, proofs.Lengths.links_count}
use Rattle.tables.specs.Tables.{link_at}
use Rattle.children.proofs.Ranges.{any_placed}
use Rattle.children.proofs.has_children.Goals as goal

pub returns : goal.returns
unfolding has_children link_at
returns c =
    let b = c.args.b.now in
    let links = (decode b).volume.links in
    any_placed zero_link _ (child_of c.args.f) links (links_count b) (λ i. refl)
    (any_from_yields_List (λ (i : ℕ). child_of c.args.f (link_at links (record { 0 = i }))) _ _ _ c.any.ensures.ran
    (YieldsList-from_range 0 link_slots link_slots refl refl) (λ x b q k. search (rules, tests)))
