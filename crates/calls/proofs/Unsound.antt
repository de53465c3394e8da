-- Bytes of another number than the tables' are unsound.
use Rattle.base.{specs.Base.{ℕ, ◌≡◌, false, List, length}, proofs.Laws.{ne_eqb}}
use Rattle.audit.specs.Sound.{sound_bytes}
use Rattle.layout.{specs.Layout.{tables_size}, proofs.Stands.tables_stand}

pub other_length : (bs : List ℕ) → (length bs ≡ tables_size → ⊥) → sound_bytes bs ≡ false
unfolding sound_bytes
other_length bs n = rw (tables_stand bs, ne_eqb (length bs) tables_size n)
