-- Each place of the list made is that of the name as it is stored.
use Rattle.base.{specs.Base.{file_name_limit, get_or}, proofs.Laws.{sym, ◌∙◌, arith, rules}}
use Rattle.std.proofs.{Common.{tests}, lemmas.Grind.{same_number_lists}}
use Rattle.stored_names.proofs.{Made.{made_at}, Padded.{places_count, places_at}}
use Rattle.stored_names.proofs.stored_name.Goals as goal

pub returns : goal.returns
returns c =
    let name = c.args.name.now in
    let made = c.from_fn.ensures.items in
    let long = places_count file_name_limit name in
    same_number_lists _ _ (made.long ∙ sym long)
    (λ k below.
    made_at (λ i. get_or name i 0) 0 made (λ i y q call. search (rules, tests)) k (omega (arith, made.long))
    ∙ sym (places_at file_name_limit name k (omega (arith, made.long))))
