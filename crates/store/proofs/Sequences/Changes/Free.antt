-- The slots that step 12 takes: each is free, and not below the number that the search starts from.
use Rattle.base.{specs.Base.{ℕ, ◌≤◌, ◌≡◌, Bool, not, List, first_after, zero_file, zero_link, file_used, link_used, Namespace, zero_bare, bare_used, passed, ◌>>=◌, some_or, FileNo, LinkNo, StreamNo, status_number, DiskFull}, proofs.Laws.{refl, sym, subst, not-true, after_found, FreeSlot, Ends, ends_bind, ends_some, goes}}
use Rattle.free_slots.specs.Free.{free_file, free_link, free_stream}
use Rattle.store.proofs.Sequences.Facts.{Early}

module _ {A N : Type 0} (used : A → Bool) (d : A) (make : ℕ → N) (number : N → ℕ) (made : (n : ℕ) → number (make n) ≡ n) where
  slot_taken : (xs : List A) (from : ℕ)
      → Ends Early (λ m. (from ≤ number m) × FreeSlot used d xs (number m))
      (some_or DiskFull (first_after (λ x. not (used x)) from xs) >>= (λ n. passed (make n)))
  unfolding status_number
  slot_taken xs from =
      ends_bind
      (ends_some DiskFull (first_after (λ x. not (used x)) from xs) (λ e. (refl, refl))
      (λ k e. after_found (λ x. not (used x)) d xs from k e))
      (λ k f.
      goes
      (subst (λ (n : ℕ). (from ≤ n) × FreeSlot used d xs n) (sym (made k))
      (f.from, record { below = f.below; free = not-true (used _) f.passes })))

module _ (ns : Namespace) where
  pub file_free : Ends Early (λ (f : FileNo). (0 ≤ f.0) × FreeSlot file_used zero_file ns.files f.0) (free_file ns)
  unfolding free_file
  file_free = slot_taken file_used zero_file (λ n. record { 0 = n }) (λ m. m.0) (λ n. refl) ns.files 0

  pub link_free : Ends Early (λ (l : LinkNo). (0 ≤ l.0) × FreeSlot link_used zero_link ns.links l.0) (free_link ns)
  unfolding free_link
  link_free = slot_taken link_used zero_link (λ n. record { 0 = n }) (λ m. m.0) (λ n. refl) ns.links 0

  pub stream_free : (from : ℕ)
      → Ends Early (λ (s : StreamNo). (from ≤ s.0) × FreeSlot bare_used zero_bare ns.streams s.0) (free_stream ns from)
  unfolding free_stream
  stream_free from = slot_taken bare_used zero_bare (λ n. record { 0 = n }) (λ m. m.0) (λ n. refl) ns.streams from
