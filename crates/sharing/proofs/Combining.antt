-- Counts combined by what is an operation are those that the operation gives.
use Prim.Native.Nat.{ℕ}
use Rattle.base.{specs.Base.{◌≡◌, ShareCounts}, proofs.Laws.{refl}}
use Rattle.sharing.specs.Combined.{Combined}

abbrev pub each_by : (ℕ → ℕ → ℕ) → ShareCounts → ShareCounts → ShareCounts
each_by op c d =
    record {
      opens = op c.opens d.opens;
      readers = op c.readers d.readers;
      writers = op c.writers d.writers;
      deleters = op c.deleters d.deleters;
      shared_read = op c.shared_read d.shared_read;
      shared_write = op c.shared_write d.shared_write;
      shared_delete = op c.shared_delete d.shared_delete;
    }

pub combined_by : {by : ℕ → ℕ → ℕ → Type 0} (op : ℕ → ℕ → ℕ) → ((x y r : ℕ) → by x y r → r ≡ op x y)
    → (c d e : ShareCounts) → Combined by c d e → e ≡ each_by op c d
combined_by op h c d e k =
    rw (
      ← h c.opens d.opens e.opens k.opens,
      ← h c.readers d.readers e.readers k.readers,
      ← h c.writers d.writers e.writers k.writers,
      ← h c.deleters d.deleters e.deleters k.deleters,
      ← h c.shared_read d.shared_read e.shared_read k.shared_read,
      ← h c.shared_write d.shared_write e.shared_write k.shared_write,
      ← h c.shared_delete d.shared_delete e.shared_delete k.shared_delete,
    ) refl
