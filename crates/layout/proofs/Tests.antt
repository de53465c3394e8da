-- Kinds and marks by the code's tests.
use Rattle.base.{specs.Base.{ℕ, zero, suc, ◌≡◌, not, eqb, Directory}, proofs.Laws.refl}
use lib.Dec.{eqb-suc-zero}
use Rattle.layout.specs.Kinds.{kind_of, mark_of}

pub directory_kind : (n : ℕ) → (n ≡ 0 → ⊥) → (n ≡ 1 → ⊥) → Directory ≡ kind_of n
unfolding kind_of
directory_kind zero h k = absurd (h refl)
directory_kind (suc zero) h k = absurd (k refl)
directory_kind (suc (suc n)) h k = refl

pub mark_test : (n : ℕ) → not (eqb n 0) ≡ mark_of n
unfolding mark_of
mark_test zero = refl
mark_test (suc n) = rw eqb-suc-zero
