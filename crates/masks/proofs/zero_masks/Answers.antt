use Rattle.base.{specs.Base.{ℕ, ◌≡◌, List, [], ◌∷◌, ◌&&◌, Bool, eqb, same}, proofs.Laws.{refl, ap, ◌∙◌}}
use Rattle.std.specs.Cmp.Lexicographic.{pointwise}
use Rattle.masks.proofs.zero_masks.Goals as goal

-- equality of the library, element by element, is that of the definitions
pointwise_same : (xs ys : List ℕ) → pointwise eqb xs ys ≡ same xs ys
unfolding same
pointwise_same [] [] = refl
pointwise_same [] (y ∷ ys) = refl
pointwise_same (x ∷ xs) [] = refl
pointwise_same (x ∷ xs) (y ∷ ys) = ap (λ (b : Bool). eqb x y && b) (pointwise_same xs ys)

pub returns : goal.returns
returns c = c.eq.ensures ∙ pointwise_same c.args.masks.now c.as_slice.result.now ∙ ap (same c.args.masks.now) c.as_slice.ensures
