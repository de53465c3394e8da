use Rattle.base.{specs.Base.{ℕ, Bool, ◌≡◌, List, [], ◌∷◌, ◌&&◌, drop, all}, proofs.Laws.{refl, ap, ◌∙◌, rules}}
use borrow.Author.Tests.{tests}
use Rattle.std.specs.List.{list_all}
use Rattle.std.proofs.lemmas.Iterator.{YieldsList-from_slice}
use Rattle.std.proofs.lemmas.Iterator.Adapters.{YieldsList-from_skip}
use Rattle.std.proofs.lemmas.Iterator.Search.{all_from_yields_List}
use Rattle.script_lines.specs.Lines.{is_ascii}
use Rattle.script_lines.proofs.ascii_from.Goals as goal

all_is : (p : ℕ → Bool) (xs : List ℕ) → list_all p xs ≡ all p xs
unfolding all
all_is p [] = refl
all_is p (x ∷ xs) = ap (λ (b : Bool). p x && b) (all_is p xs)

pub returns : goal.returns
unfolding is_ascii
returns c =
    let a = c.args in
    all_from_yields_List is_ascii _ _ _ c.all.ensures.ran
    (YieldsList-from_skip a.from (YieldsList-from_slice a.line.now cc) cc) (λ x b q k. search (rules, tests))
    ∙ all_is is_ascii (drop a.from a.line.now)
