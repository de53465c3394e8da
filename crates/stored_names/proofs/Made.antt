-- A list that `array::from_fn` made, by a closure that computes h of a place and keeps what it holds.
use Rattle.base.{specs.Base.{ℕ, zero, suc, ◌+◌, ◌≤◌, ◌<◌, ◌≡◌, List, eqb, get_or}, proofs.Laws.{◌∙◌, subst, arith, by_cases, eqb-true, eqb-false}}
use Rattle.std.specs.{Array.{IsFromFnResult, IsFromFnResultFrom}, Fn.{Called}}
use denote.Param.Members.{Mut}

module _ {F B : Type 0} (g : Mut F (ℕ × Unit {0}) B) (f : F) (ys : List B) (h : ℕ → B) (computes : (i : ℕ) (y : B) (q : F) → Called g f (i, tt) y q → (q ≡ f) × (y ≡ h i)) (d : B) where
  made_from : (i n : ℕ) → IsFromFnResultFrom g f ys i n → (k : ℕ) → i ≤ k → k < i + n → get_or ys k d ≡ h k
  made_from i zero made k from below = absurd (omega arith)
  made_from i (suc n) (q, y, element, call, made) k from below =
      let answer = computes i y q call in
      by_cases (eqb k i) (λ e. rw (eqb-true k i e) (element.1 d ∙ answer.1))
      (λ e.
      made_from (i + 1) n (subst (λ (p : F). IsFromFnResultFrom g p ys (i + 1) n) answer.0 made) k (omega (arith, eqb-false k i e)) (omega arith))

pub made_at : {F B : Type 0} {g : Mut F (ℕ × Unit {0}) B} {f : F} {ys : List B} {n : ℕ} (h : ℕ → B) (d : B) → IsFromFnResult g f ys n → ((i : ℕ) (y : B) (q : F) → Called g f (i, tt) y q → (q ≡ f) × (y ≡ h i)) → (k : ℕ) → k < n → get_or ys k d ≡ h k
made_at {g = g} {f = f} {ys = ys} {n = n} h d made computes k below =
    made_from g f ys h computes d 0 n made.each k (omega arith) (omega arith)
