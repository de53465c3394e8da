-- The place found among the bytes from `at` on.
use Rattle.base.{specs.Base.{ℕ, ◌+◌, ◌≡◌, true, false, List}, proofs.Laws.{ap, ◌∙◌, rules}}
use Rattle.std.proofs.{Common.{tests}, lemmas.Iterator.{YieldsList-from_slice, IsFirst-from_position}}
use Rattle.components.proofs.Leading.{leading_found}
use Rattle.components.specs.Positions.{leading, place_of, no_sign}
use Rattle.step4_paths.proofs.line_end.Goals as goal

pub returns : goal.returns
unfolding place_of
returns c =
    let p = no_sign 0x0A in
    let rest = c.bytes_from-rest.result.now in
    let found = IsFirst-from_position c.position.new.self _ c.position.result (λ u. p u ≡ false) (λ u. p u ≡ true) c.position.ensures.ran (YieldsList-from_slice rest cc) (λ x q k. search (rules, tests)) (λ x q k. search (rules, tests)) in
    ap (λ (n : ℕ). c.args.at + n) (c.unwrap_or.ensures ∙ leading_found p rest c.position.result found)
    ∙ ap (λ (us : List ℕ). c.args.at + leading p us) c.bytes_from-rest.ensures
