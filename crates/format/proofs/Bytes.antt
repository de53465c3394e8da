-- Format of lent bytes by its cases: bytes that are too few or too many, masks that are not valid, and neither.
use Rattle.base.{specs.Base.{ℕ, ◌-◌, ◌≡◌, Bool, true, false, List, length, take, padded, accounts, eqb, ◌>>◌, refuse_if, concluded, done, refused_reply, FileCorruptError, InvalidParameter}, proofs.Laws.{arith, eq-eqb, ne_eqb, eqb-true, and_left, take_all}}
use mathlib.Core.List.{append-nil}
use Rattle.consistency.specs.Relations.{valid_masks}
use Rattle.layout.specs.Layout.{tables_size, encode}
use Rattle.format.specs.{Format.{fresh_tables, checked_masks}, Bytes.format_bytes}

-- valid masks are one for each account
pub valid-count : (masks : List ℕ) → valid_masks masks ≡ true → length masks ≡ accounts
unfolding valid_masks
valid-count masks v = eqb-true (length masks) accounts (and_left (eqb (length masks) accounts) _ v)

-- and are copied whole
pub masks_whole : (masks : List ℕ) → length masks ≡ accounts → take accounts (padded accounts masks) ≡ masks
unfolding padded
masks_whole masks e =
    let none : accounts - length masks ≡ 0 = omega arith in
    rw (none, append-nil) (take_all accounts masks (omega arith))

module _ (bs masks : List ℕ) (read_only : Bool) where
  pub other_length : (length bs ≡ tables_size → ⊥)
      → format_bytes bs masks read_only ≡ record { reply = refused_reply FileCorruptError; state = bs }
  unfolding format_bytes concluded refuse_if ◌>>◌
  other_length n = rw (ne_eqb (length bs) tables_size n)

  module _ (long : length bs ≡ tables_size) where
    pub invalid_masks : valid_masks masks ≡ false
        → format_bytes bs masks read_only ≡ record { reply = refused_reply InvalidParameter; state = bs }
    unfolding format_bytes checked_masks concluded refuse_if ◌>>◌
    invalid_masks v = rw (eq-eqb (length bs) tables_size long, v)

    pub formatted : valid_masks masks ≡ true → format_bytes bs masks read_only ≡ done (encode (fresh_tables masks read_only))
    unfolding format_bytes checked_masks concluded refuse_if ◌>>◌
    formatted v = rw (eq-eqb (length bs) tables_size long, v)
