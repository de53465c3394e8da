-- What distinct keys say of the records that have them: a used record has a key, a free one none.
use Rattle.base.{specs.Base.{ℕ, ◌≡◌, Bool, true, false, List, map, get_or, keep, pairs}, proofs.Laws.{◌∙◌, sym, ap, eq-eqb, by_cases, not_both, not_isn't, keep-map, pairs-map, pairs_keep_at, pairs_keep_of}}
use mathlib.Core.Path.{fun_ext}
use Rattle.distinct.specs.Keys.{is_key, differ}

module _ {A : Type 0} (key : A → ℕ) (used : A → Bool) (own : (x : A) → is_key (key x) ≡ used x) where
  -- records that differ exactly where their keys do
  pub keys_pairs : (xs : List A) → pairs differ (keep is_key (map key xs)) ≡ pairs (λ x y. differ (key x) (key y)) (keep used xs)
  keys_pairs xs =
      ap (pairs differ) (keep-map key is_key xs)
      ∙ pairs-map key differ (keep (λ x. is_key (key x)) xs)
      ∙ ap (λ (p : A → Bool). pairs (λ x y. differ (key x) (key y)) (keep p xs)) (fun_ext own)

  -- keys that tell records apart: two used records that don't differ have one key
  abbrev pub Tells : (A → A → Bool) → Type 0
  Tells r = (x y : A) → used x ≡ true → used y ≡ true → r x y ≡ false → key x ≡ key y

  pub told : (r : A → A → Bool) → Tells r → (d : A) (xs : List A)
      → pairs differ (keep is_key (map key xs)) ≡ true → pairs r (keep used xs) ≡ true
  unfolding differ
  told r tells d xs h =
      pairs_keep_of used r d xs
      (λ i j a b u v.
      let x = get_or xs i d in
      let y = get_or xs j d in
      by_cases (r x y) (λ e. e)
      (λ e.
      absurd
      (not_both (pairs_keep_at used (λ x y. differ (key x) (key y)) d xs (sym (keys_pairs xs) ∙ h) i j a b u v)
      (not_isn't (eq-eqb (key x) (key y) (tells x y u v e))))))
