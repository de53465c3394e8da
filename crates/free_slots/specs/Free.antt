-- Step 12, DISK_FULL: the lowest free slots, from a number on.
use Rattle.std.specs.Prelude.{◌<◌, ◌≡◌, ◌≤◌, Result, MatchResult}
use Rattle.base.specs.Base.{ℕ, Bool, true, false, first_free, file_used, link_used, bare_used, Namespace, Checked, passed, ◌>>=◌, some_or, Status, DiskFull, FileNo, LinkNo, StreamNo}

unfoldable pub free_file : Namespace → Checked FileNo
free_file ns = some_or DiskFull (first_free file_used 0 ns.files) >>= (λ n. passed (record { 0 = n }))

unfoldable pub free_link : Namespace → Checked LinkNo
free_link ns = some_or DiskFull (first_free link_used 0 ns.links) >>= (λ n. passed (record { 0 = n }))

unfoldable pub free_stream : Namespace → ℕ → Checked StreamNo
free_stream ns n = some_or DiskFull (first_free bare_used n ns.streams) >>= (λ m. passed (record { 0 = m }))

-- a search of so many slots from a number on, where `is_free n b` says that slot n answers b: the slot found is the first
-- to answer yes, or all answer no
pub record Lowest (is_free : ℕ → Bool → Type 0) (from slots : ℕ) (r : Result ℕ Status) : Type 0 where
  pub is :
      MatchResult r (λ n. (from ≤ n) × (n < slots) × is_free n true × ((k : ℕ) → from ≤ k → k < n → is_free k false))
      (λ s. (s ≡ DiskFull) × ((k : ℕ) → from ≤ k → k < slots → is_free k false))
