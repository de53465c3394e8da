-- Rows of one length are compared pair by pair; those of two lengths differ.
use Rattle.base.proofs.Laws.{sym, ◌∙◌, ne_eqb, rules}
use Rattle.std.proofs.{Common.{tests}, lemmas.{Iterator.{YieldsList-from_slice, YieldsList-from_zip}, Iterator.Search.{all_from_yields_List}}}
use Rattle.units.proofs.Compare.{equal_pair, equal_zip, equal-lengths}
use Rattle.units.proofs.equal_units.Goals as goal

pub returns-then-a-b : goal.returns-then-a-b
returns-then-a-b c =
    let s = c.args in
    all_from_yields_List (equal_pair s.fold) c.all.new.self _ _ c.all.ensures.ran
    (YieldsList-from_zip (YieldsList-from_slice s.a.now cc) (YieldsList-from_slice s.b.now cc))
    (λ x b q k. search (rules, tests))
    ∙ equal_zip s.fold s.a.now s.b.now c.if-a-b.true

pub returns-else-a-b : goal.returns-else-a-b
returns-else-a-b c = ne_eqb _ _ c.if-a-b.false ∙ sym (equal-lengths _ _ _ c.if-a-b.false)
