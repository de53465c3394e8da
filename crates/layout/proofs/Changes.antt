-- Writes one after the other: what a write makes of the tables it makes of what the writes before it left.
use Rattle.base.{specs.Base.{ℕ, ◌≡◌, List, length, Tables}, proofs.Laws.{refl, ◌∙◌, ap}}
use Rattle.layout.specs.Layout.{tables_size, decode, Changed}

pub unchanged : {l : List ℕ} → length l ≡ tables_size → Changed l l (decode l)
unchanged e = record { is = refl; long = e; stays = λ stands. stands }

pub changed_then : {l m n : List ℕ} {t : Tables} (put : Tables → Tables) → Changed l m t → Changed m n (put (decode m)) → Changed l n (put t)
changed_then put c d =
    record { is = d.is ∙ ap put c.is; long = d.long; stays = λ stands. d.stays (c.stays stands) }
