-- A name within the limit is tested unit by unit; a longer one fails.
use Rattle.base.proofs.Laws.{sym, ◌∙◌, lt-leb, rules}
use Rattle.std.proofs.{Common.{tests}, lemmas.{Iterator.{YieldsList-from_slice}, Iterator.Search.{all_from_yields_List}}}
use Rattle.names.proofs.ValidNames.{all_listed, units_short, units-long}
use Rattle.names.specs.Names.{valid_unit}
use Rattle.names.proofs.valid_units.Goals as goal

pub returns-then-name-limit : goal.returns-then-name-limit
returns-then-name-limit c =
    let s = c.args in
    all_from_yields_List (valid_unit s.kind) c.all.new.self _ _ c.all.ensures.ran (YieldsList-from_slice s.name.now cc)
    (λ x b q k. search (rules, tests))
    ∙ all_listed (valid_unit s.kind) s.name.now
    ∙ sym (units_short s.kind s.limit s.name.now c.if-name-limit.true)

pub returns-else-name-limit : goal.returns-else-name-limit
returns-else-name-limit c = lt-leb _ _ c.if-name-limit.false ∙ sym (units-long _ _ _ c.if-name-limit.false)
