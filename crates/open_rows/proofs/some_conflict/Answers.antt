use Rattle.std.proofs.Common.{rules, tests}
use Rattle.std.proofs.lemmas.Iterator.{YieldsList-from_slice}
use Rattle.std.proofs.lemmas.Iterator.Search.{any_from_yields_List}
use Rattle.base.{specs.Base.{◌&&◌, terms_of, Open, open_used}, proofs.Laws.{sym, ◌∙◌, any-keep}}
use Rattle.sharing.specs.Sharing.{on_stream, conflict, any_conflict}
use Rattle.tables.specs.Tables.{live}
use Rattle.open_rows.proofs.{Row.any_is}
use Rattle.open_rows.proofs.some_conflict.Goals as goal

pub returns : goal.returns
unfolding any_conflict live open_used on_stream
returns c =
    let os = c.args.row.now in
    let test = λ (o : Open). open_used o && (on_stream c.args.stream o && conflict (terms_of o) c.args.t) in
    any_from_yields_List test _ _ c.any.result c.any.ensures.ran (YieldsList-from_slice os (cc)) (λ x b q k. search (rules, tests))
    ∙ any_is test os
    ∙ sym (any-keep open_used (λ o. on_stream c.args.stream o && conflict (terms_of o) c.args.t) os)
