-- A search by number is that of the table, where a slot's answer is the test of its record.
use Rattle.std.specs.Prelude.{Result, Ok, Err, MatchResult}
use Rattle.base.{specs.Base.{ℕ, zero, suc, ◌+◌, ◌-◌, ◌≤◌, ◌<◌, ◌≡◌, Bool, true, false, List, length, get_or, first_after, as_checked, some_or, passed, ◌>>=◌, Status, DiskFull}, proofs.Laws.{sym, subst, arith, Searching, searching_begins, searching_turns, searching_finds, searching_ends}}
use Rattle.free_slots.specs.Free.{Lowest}

-- an answer with its number made one of the table's kind
mapped : {N : Type 0} (number : ℕ → N) (r : Result ℕ Status) (q : Result N Status) → MatchResult r (λ n. q ≡ Ok (number n)) (λ s. q ≡ Err s)
    → as_checked (λ n. n) q ≡ (as_checked (λ n. n) r >>= λ n. passed (number n))
unfolding as_checked ◌>>=◌
mapped number (Ok n) q h = rw h
mapped number (Err s) q h = rw h

module _ {A : Type 0} (p : A → Bool) (d : A) (xs : List A) where
  searching : (n j : ℕ) → ((k : ℕ) → n ≤ k → k < n + j → (k < length xs) × (p (get_or xs k d) ≡ false)) → Searching p xs n (n + j)
  searching n zero h = subst (Searching p xs n) (omega arith) searching_begins
  searching n (suc j) h =
      let last = h (n + j) (omega arith) (omega arith) in
      subst (Searching p xs n) (omega arith) (searching_turns (searching n j (λ k l m. h k l (omega arith))) d last.0 last.1)

  found : {answers : ℕ → Bool → Type 0} {from slots : ℕ} (r : Result ℕ Status) → length xs ≡ slots
      → ((k : ℕ) (b : Bool) → answers k b → b ≡ p (get_or xs k d)) → Lowest answers from slots r
      → as_checked (λ n. n) r ≡ some_or DiskFull (first_after p from xs)
  unfolding as_checked some_or
  found {from = from} (Ok n) long test f =
      let l = f.is.0 in
      let below = f.is.1 in
      let at : from + (n - from) ≡ n = omega arith in
      let before = searching from (n - from) (λ k a b. (omega arith, sym (test k false (f.is.3 k a (omega arith))))) in
      rw (searching_finds (subst (Searching p xs from) at before) d (omega arith) (sym (test n true f.is.2)))
  found {from = from} {slots = slots} (Err s) long test f =
      let all = searching from (slots - from) (λ k a b. (omega arith, sym (test k false (f.is.1 k a (omega arith))))) in
      rw (f.is.0, searching_ends all (omega arith))

  -- and so for the table's own kind of number
  pub lowest_is : {N : Type 0} (number : ℕ → N) {answers : ℕ → Bool → Type 0} {from slots : ℕ} {r : Result ℕ Status} (q : Result N Status)
      → length xs ≡ slots → ((k : ℕ) (b : Bool) → answers k b → b ≡ p (get_or xs k d)) → Lowest answers from slots r
      → MatchResult r (λ n. q ≡ Ok (number n)) (λ s. q ≡ Err s)
      → as_checked (λ n. n) q ≡ (some_or DiskFull (first_after p from xs) >>= λ n. passed (number n))
  lowest_is number {r = r} q long test f m = rw (← found r long test f) (mapped number r q m)
