-- What the rows of the table are asked, by their numbers, is what its opens are asked.
use Rattle.std.specs.Prelude.{None, Some, MatchOption}
use Rattle.std.specs.Prelude as code
use Rattle.base.{specs.Base.{ℕ, zero, suc, ◌<◌, ◌≤◌, ◌≡◌, Bool, true, false, ◌&&◌, List, length, get_or, any, first, as_option, open_used, zero_open, Open}, proofs.Laws.{sym, ◌∙◌, subst, arith, any-keep, any_of, none_of, ⊎_elim, Searching, searching_begins, searching_finds, searching_turns, searching_ends}}
use mathlib.Core.Bool.{and-false}
use Rattle.tables.specs.Tables.{live}
use Rattle.open_table.specs.Rows.{HasOpen}

-- some live open passes, where a row's answer is the test of its open
module _ (test : Open → Bool) (os : List Open) where
  pub asked_is : {asked : ℕ → Bool → Type 0} (r : Bool) → ((i : ℕ) (b : Bool) → asked i b → b ≡ test (get_or os i zero_open)) → HasOpen asked os r
      → r ≡ any test (live os)
  unfolding live
  asked_is true answers h =
      sym (any-keep open_used test os ∙ any_of (λ o. open_used o && test o) zero_open os h.is.0 h.is.1 (rw (h.is.3, ← answers h.is.0 true h.is.2)))
  asked_is false answers h =
      sym
      (any-keep open_used test os
      ∙ none_of (λ o. open_used o && test o) zero_open os
      (λ i below. ⊎_elim (λ e. rw (← answers i false e, and-false)) (λ e. rw e) (h.is i below)))

-- the lowest row whose open passes, where none below it does
module _ (test : Open → Bool) (os : List Open) where
  abbrev pub Answers : ℕ → Bool → Type 0
  Answers k b = test (get_or os k zero_open) ≡ b

  searching : (i : ℕ) → i ≤ length os → ((k : ℕ) → 0 ≤ k → k < i → Answers k false) → Searching test os 0 i
  searching zero b h = searching_begins
  searching (suc i) b h =
      subst (Searching test os 0) (omega arith)
      (searching_turns (searching i (omega arith) (λ k l m. h k l (omega arith))) zero_open (omega arith) (h i (omega arith) (omega arith)))

  pub lowest_is : (r : code.Option ℕ) → MatchOption r ((k : ℕ) → 0 ≤ k → k < length os → Answers k false)
      (λ i. (0 ≤ i) × (i < length os) × Answers i true × ((k : ℕ) → 0 ≤ k → k < i → Answers k false)) → as_option r ≡ first test os
  unfolding as_option
  lowest_is None h = sym (searching_ends (searching (length os) (omega arith) h) (omega arith))
  lowest_is (Some i) h =
      let b : i < length os = h.1 in
      sym (searching_finds (searching i (omega arith) h.3) zero_open b h.2)
