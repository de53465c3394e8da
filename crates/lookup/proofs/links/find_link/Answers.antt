use Rattle.std.specs.Prelude.{None, Some, MatchOption}
use Rattle.std.specs.Option.{IsSomeAnd}
use Rattle.std.specs.Prelude as code
use Rattle.std.proofs.Common.{rules, tests}
use Rattle.std.proofs.lemmas.Iterator.{first_from_Range}
use Rattle.base.{specs.Base.{ℕ, ◌≡◌, true, false, some, namespace, zero_link, as_option, LinkNo}, proofs.Laws.{ap, ◌∙◌}}
use Rattle.layout.{specs.Layout.decode, proofs.Lengths.links_count}
use Rattle.tables.specs.Tables.{link_at}
use Rattle.lookup.specs.Lookup.{link_matches, link_number, find_link}
use Rattle.lookup.proofs.Lowest.{Answers, lowest_is}
use Rattle.lookup.proofs.links.find_link.Goals as goal

-- the place that is found, as a link's number
numbered : (r : code.Option ℕ) (s : code.Option LinkNo) {P : ℕ → LinkNo → Type 0} → MatchOption r (s ≡ None) (λ x. IsSomeAnd s (P x))
    → ((x : ℕ) (n : LinkNo) → P x n → n ≡ record { 0 = x }) → as_option s ≡ link_number (as_option r)
unfolding as_option link_number
numbered None s w f = rw w
numbered (Some x) None w f = absurd w
numbered (Some x) (Some n) w f = ap some (f x n w)

pub returns : goal.returns
unfolding find_link namespace link_at
returns c =
    let a = c.args in
    let p = link_matches a.fold a.dir a.name.now in
    let ls = (decode a.b.now).volume.links in
    let n = links_count a.b.now in
    let h = first_from_Range _ _ _ c.find.result (Answers p zero_link ls true) (Answers p zero_link ls false) c.find.ensures.ran (λ x q k. search (rules, tests)) (λ x q k. search (rules, tests)) in
    numbered c.find.result c.map.result c.map.ensures.cases (λ x n q. search rules)
    ∙ ap link_number (lowest_is p zero_link ls c.find.result (rw n h))
