-- Tables on the way to others in lent bytes, a change a turn.
use Rattle.base.{specs.Base.{ℕ, ◌≡◌, true, List, length, Tables}, proofs.Laws.{refl, sym, ◌∙◌, ap}}
use Rattle.layout.specs.Layout.{tables_size, decode, stands_for_tables, Changed}

-- bytes l changed to bytes m of whose tables `rest` is still to make the tables t
pub record Underway (l m : List ℕ) (rest : Tables → Tables) (t : Tables) : Type 0 where
  pub is : rest (decode m) ≡ t
  pub long : length m ≡ tables_size
  pub stays : stands_for_tables l ≡ true → stands_for_tables m ≡ true

pub begins : {l : List ℕ} (rest : Tables → Tables) → length l ≡ tables_size → Underway l l rest (rest (decode l))
begins rest e = record { is = refl; long = e; stays = λ stands. stands }

module _ {l m : List ℕ} {rest : Tables → Tables} {t : Tables} (u : Underway l m rest t) where
  pub goes_on : {n : List ℕ} {s : Tables} (less : Tables → Tables) → Changed m n s → less s ≡ rest (decode m) → Underway l n less t
  goes_on less c e =
      record { is = ap less c.is ∙ e ∙ u.is; long = c.long; stays = λ stands. c.stays (u.stays stands) }

  pub skips : (less : Tables → Tables) → less (decode m) ≡ rest (decode m) → Underway l m less t
  skips less e = record { is = e ∙ u.is; long = u.long; stays = u.stays }

  pub ends : rest (decode m) ≡ decode m → Changed l m t
  ends e = record { is = sym e ∙ u.is; long = u.long; stays = u.stays }
