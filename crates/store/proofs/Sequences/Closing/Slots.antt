-- A table's slots when some are cleared, and when every slot is used as before and as good.
use Rattle.base.{specs.Base.{ℕ, ◌≡◌, Bool, true, false, List, get_or}, proofs.Laws.{refl, sym, ◌∙◌, ap, by_cases, not_both, Clears, clear_each}}
use Rattle.consistency.specs.Slots.{Slots, EveryTwo}

module _ {A : Type 0} (used : A → Bool) {d : A} (free : used d ≡ false) {gone : ℕ → Bool} {xs ys : List A} (c : Clears d gone xs ys) where
  pub slots_clear : {n : ℕ} {Good Good' : A → Type 0} → Slots used d Good n xs
      → ((i : ℕ) → gone i ≡ false → used (get_or xs i d) ≡ true → Good (get_or xs i d) → Good' (get_or xs i d))
      → Slots used d Good' n ys
  slots_clear {Good' = Good'} s good =
      record {
        size = c.same_length ∙ s.size;
        free_zero = clear_each c (λ x. used x ≡ false → x ≡ d) (λ u. refl) (λ i e. s.free_zero i);
        used_good =
            clear_each c (λ x. used x ≡ true → Good' x) (λ u. absurd (not_both u free)) (λ i e u. good i e u (s.used_good i u));
      }

  pub two_clear : (R : A → A → Type 0) → EveryTwo used d R xs → EveryTwo used d R ys
  two_clear R two i j l u w =
      by_cases (gone i) (λ e. absurd (not_both u (ap used (c.goes i e) ∙ free)))
      (λ e.
      by_cases (gone j) (λ f. absurd (not_both w (ap used (c.goes j f) ∙ free)))
      (λ f. rw (c.stays i e, c.stays j f) (two i j l (ap used (sym (c.stays i e)) ∙ u) (ap used (sym (c.stays j f)) ∙ w))))
