use Rattle.base.{specs.Base.{ℕ, ◌≡◌, Bool, List, [], ◌∷◌, ◌&&◌, eqb, same}, proofs.Laws.{refl, ap, ◌∙◌}}
use lib.Pointwise.{pointwise}
use Rattle.step_vectors.proofs.same_bytes.Goals as goal

-- the library's word and the definitions'
pointwise_is : (xs ys : List ℕ) → pointwise eqb xs ys ≡ same xs ys
unfolding same
pointwise_is [] [] = refl
pointwise_is [] (y ∷ ys) = refl
pointwise_is (x ∷ xs) [] = refl
pointwise_is (x ∷ xs) (y ∷ ys) = ap (λ (b : Bool). eqb x y && b) (pointwise_is xs ys)

pub returns : goal.returns
returns c = c.eq.ensures ∙ pointwise_is c.args.a.now c.args.b.now
