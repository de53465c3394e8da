-- What the two calls answer, by what the code has tested.
use mathlib.Core.Bool.{and-false}
use Rattle.base.{specs.Base.{ℕ, ◌≡◌, Bool, true, false, ◌&&◌, List, eqb, length, done, ◌>>=◌, concluded}, proofs.Laws.{eq-eqb, ne_eqb, and_both}}
use Rattle.layout.specs.Layout.{tables_size}
use Rattle.image.specs.Image.{Reading, Restoring, unread, read_row, read_image, checked_image, finish_image}
use Rattle.image_read.specs.Reads.{or_corrupt, corrupt}

-- a row
module _ (s : Reading) (row : List ℕ) where
  pub read_length : (length s.spare ≡ tables_size → ⊥) → read_image s row ≡ corrupt s
  unfolding read_image
  read_length h = rw (ne_eqb _ _ h, read_image)

  module _ (long : length s.spare ≡ tables_size) (next : Reading) (ok : Bool) (read : read_row s row ≡ or_corrupt ok next) where
    pub read_refused : ok ≡ false → read_image s row ≡ corrupt unread
    unfolding read_image concluded ◌>>=◌
    read_refused e = rw (eq-eqb _ _ long, read_image) (rw (read, e))

    pub read_done : ok ≡ true → read_image s row ≡ done next
    unfolding read_image concluded ◌>>=◌
    read_done e = rw (eq-eqb _ _ long, read_image) (rw (read, e))

-- the closing call
module _ (r : Restoring) where
  pub finish_tables : (length r.tables ≡ tables_size → ⊥) → finish_image r ≡ corrupt r
  unfolding finish_image
  finish_tables h = rw (ne_eqb _ _ h, finish_image)

  pub finish_spare : (length r.reading.spare ≡ tables_size → ⊥) → finish_image r ≡ corrupt r
  unfolding finish_image
  finish_spare h =
      let other : (eqb (length r.tables) tables_size && eqb (length r.reading.spare) tables_size) ≡ false = rw (ne_eqb (length r.reading.spare) tables_size h) (and-false (eqb (length r.tables) tables_size)) in
      rw (other, finish_image)

  module _ (tables : length r.tables ≡ tables_size) (spare : length r.reading.spare ≡ tables_size) (ok : Bool)
      (checked : checked_image r.reading ≡ or_corrupt ok r.reading.spare) where
    pub finish_refused : ok ≡ false → finish_image r ≡ corrupt (record { tables = r.tables; reading = unread })
    unfolding finish_image concluded ◌>>=◌
    finish_refused e = rw (and_both (eq-eqb _ _ tables) (eq-eqb _ _ spare), finish_image) (rw (checked, e))

    pub finish_done : ok ≡ true
        → finish_image r ≡ done (record { tables = r.reading.spare; reading = record { spare = r.reading.spare; reader = 0 } })
    unfolding finish_image concluded ◌>>=◌
    finish_done e = rw (and_both (eq-eqb _ _ tables) (eq-eqb _ _ spare), finish_image) (rw (checked, e))
