use Rattle.base.{specs.Base.{ℕ, Bool, ◌≡◌, List, [], ◌∷◌, ◌&&◌, length, all, within, accounts, all_access}, proofs.Laws.{ap, ◌∙◌, refl, rules, eq-eqb, ne_eqb}}
use borrow.Author.Tests.{tests}
use Rattle.std.specs.List.{list_all}
use Rattle.std.proofs.lemmas.Iterator.{YieldsList-from_slice}
use Rattle.std.proofs.lemmas.Iterator.Search.{all_from_yields_List}
use Rattle.consistency.specs.Relations.{valid_masks}
use Rattle.masks.proofs.valid_masks.Goals as goal

abbrev valid : ℕ → Bool
valid m = within m all_access

all_is : (p : ℕ → Bool) (ms : List ℕ) → list_all p ms ≡ all p ms
unfolding all
all_is p [] = refl
all_is p (m ∷ ms) = ap (λ (b : Bool). p m && b) (all_is p ms)

pub returns-then-masks-eq-ACCOUNTS : goal.returns-then-masks-eq-ACCOUNTS
unfolding valid_masks
returns-then-masks-eq-ACCOUNTS c =
    let ms = c.args.masks.now in
    rw (eq-eqb (length ms) accounts c.if-masks-eq-ACCOUNTS.true)
    (all_from_yields_List valid _ _ _ c.all.ensures.ran (YieldsList-from_slice ms cc) (λ x b q k. search (rules, tests)) ∙ all_is valid ms)

pub returns-else-masks-eq-ACCOUNTS : goal.returns-else-masks-eq-ACCOUNTS
unfolding valid_masks
returns-else-masks-eq-ACCOUNTS c = rw (ne_eqb (length c.args.masks.now) accounts c.if-masks-eq-ACCOUNTS.false)
