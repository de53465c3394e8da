use Rattle.base.{specs.Base.{ℕ, List, replicate}, proofs.Laws.{refl, ◌∙◌, ap}}
use Rattle.image_read.proofs.refuse_reading.Goals as goal

pub returns : goal.returns
returns c =
    record {
      reply = refl;
      state =
          ap (λ (l : List ℕ). record { spare = l; reader = 0 })
          (c.clear.ensures ∙ ap (λ (n : ℕ). replicate {A = ℕ} n 0) c.told-spare);
    }
