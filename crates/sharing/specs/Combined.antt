-- Counts combined one by one: how the code takes a step that is the same for each of the seven.
use Rattle.std.specs.Prelude.{ℕ}
use Rattle.base.specs.Base.{ShareCounts}

pub record Combined (by : ℕ → ℕ → ℕ → Type 0) (c d e : ShareCounts) : Type 0 where
  pub opens : by c.opens d.opens e.opens
  pub readers : by c.readers d.readers e.readers
  pub writers : by c.writers d.writers e.writers
  pub deleters : by c.deleters d.deleters e.deleters
  pub shared_read : by c.shared_read d.shared_read e.shared_read
  pub shared_write : by c.shared_write d.shared_write e.shared_write
  pub shared_delete : by c.shared_delete d.shared_delete e.shared_delete
