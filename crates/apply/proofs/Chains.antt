-- Writes one after the other, where a name that is stored wants room.
use Rattle.base.specs.Base.{ℕ, List, Tables}
use Rattle.layout.{specs.Layout.{decode, Changed}, proofs.Changes.changed_then}
use Rattle.apply.specs.Applied.{Writes}

-- a write that always changes the bytes so
pub always : {l m : List ℕ} {t : Tables} → Changed l m t → Writes l m (Unit {0}) t
always c = record { long = c.long; changed = λ room. c }

pub if_room : {l m : List ℕ} {t : Tables} {R Q : Type 0} → (Q → R) → Writes l m R t → Writes l m Q t
if_room f w = record { long = w.long; changed = λ room. w.changed (f room) }

pub writes_then : {l m n : List ℕ} {t : Tables} {R S : Type 0} (put : Tables → Tables) → Writes l m R t → Writes m n S (put (decode m))
    → Writes l n (R × S) (put t)
writes_then put c d =
    record { long = d.long; changed = λ room. changed_then put (c.changed room.0) (d.changed room.1) }
