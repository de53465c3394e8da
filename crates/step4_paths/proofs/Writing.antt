-- Bytes that are written one by one over the start of a buffer.
use Rattle.base.specs.Base.{ℕ, ◌≤◌, ◌≡◌, List, ◌++◌, length, take, drop}

-- the first i bytes are written
pub record Writing (bytes before now : List ℕ) (i : ℕ) : Type 0 where
  pub within : i ≤ length bytes
  pub placed : i ≤ length before
  pub kept : length now ≡ length before
  pub is : now ≡ take i bytes ++ drop i before
