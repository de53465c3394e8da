-- The slots of a table: as many as it holds, free ones all zero, used ones good, whatever a table asks of those.
use Rattle.std.specs.Prelude.{◌<◌, ◌≡◌, ◌&&◌}
use Rattle.base.specs.Base.{ℕ, Bool, true, false, cond, List, eqb, length, get_or, all}

pub record Slots {A : Type 0} (used : A → Bool) (zero : A) (Good : A → Type 0) (n : ℕ) (xs : List A) : Type 0 where
  pub size : length xs ≡ n
  pub free_zero : (i : ℕ) → used (get_or xs i zero) ≡ false → get_or xs i zero ≡ zero
  pub used_good : (i : ℕ) → used (get_or xs i zero) ≡ true → Good (get_or xs i zero)

module _ {A : Type 0} (used : A → Bool) where
  -- every two used slots
  abbrev pub EveryTwo : A → (A → A → Type 0) → List A → Type 0
  EveryTwo zero R xs =
      (i j : ℕ) → i < j → used (get_or xs i zero) ≡ true → used (get_or xs j zero) ≡ true → R (get_or xs i zero) (get_or xs j zero)

  -- the same as tests: a slot, used or free, and all of a table
  abbrev pub slot_test : (A → Bool) → (A → Bool) → A → Bool
  slot_test good is_zero x = cond (used x) (good x) (is_zero x)

  unfoldable pub slots_test : (A → Bool) → (A → Bool) → ℕ → List A → Bool
  slots_test good is_zero n xs = eqb (length xs) n && all (slot_test good is_zero) xs
