-- A search of the places by number, from the lowest on, finds the first place that passes.
use Rattle.std.specs.Prelude.{None, Some, MatchOption}
use Rattle.std.specs.Prelude as code
use Rattle.base.{specs.Base.{ℕ, zero, suc, ◌<◌, ◌≤◌, ◌≡◌, Bool, true, false, List, length, get_or, first, as_option}, proofs.Laws.{sym, subst, arith, Searching, searching_begins, searching_finds, searching_turns, searching_ends}}

module _ {A : Type 0} (p : A → Bool) (d : A) (xs : List A) where
  abbrev pub Answers : Bool → ℕ → Type 0
  Answers b k = p (get_or xs k d) ≡ b

  searching : (i : ℕ) → i ≤ length xs → ((k : ℕ) → 0 ≤ k → k < i → Answers false k) → Searching p xs 0 i
  searching zero b h = searching_begins
  searching (suc i) b h =
      subst (Searching p xs 0) (omega arith)
      (searching_turns (searching i (omega arith) (λ k l m. h k l (omega arith))) d (omega arith) (h i (omega arith) (omega arith)))

  pub lowest_is : (r : code.Option ℕ) → MatchOption r ((k : ℕ) → 0 ≤ k → k < length xs → Answers false k)
      (λ i. (0 ≤ i) × (i < length xs) × Answers true i × ((k : ℕ) → 0 ≤ k → k < i → Answers false k)) → as_option r ≡ first p xs
  unfolding as_option
  lowest_is None h = sym (searching_ends (searching (length xs) (omega arith) h) (omega arith))
  lowest_is (Some i) h =
      let b : i < length xs = h.1 in
      sym (searching_finds (searching i (omega arith) h.3) d b h.2)
