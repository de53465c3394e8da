-- A record put into the second set: where it goes, and that it fits there.
use Rattle.base.{specs.Base.{ℕ, ◌+◌, ◌≤◌, ◌≡◌, List, ltb}, proofs.Laws.{sym, subst, arith, by_cases, ltb-true, ltb-false}}
use Rattle.layout.specs.Layout.{tables_size}
use Rattle.little_endian.specs.{Writes.Wrote}
use Rattle.image.{specs.{Blocks.{image_blocks, record_of, place_of, size_of}, Alone.record_in, Image.{spare_for, put_block}, declared.BlockRecord.BlockRecord}, proofs.Records.past_record}
use Rattle.image_laws.proofs.Places.{record_ends}

-- a record's place lies in the tables
abbrev pub Within : BlockRecord → Type 0
Within r = place_of r + size_of r ≤ tables_size

place_fits : (n : ℕ) → Within (record_of n)
unfolding place_of size_of
place_fits n =
    by_cases (ltb n image_blocks) (λ e. omega (arith, record_ends n (ltb-true n image_blocks e)))
    (λ e. subst Within (sym (past_record n (ltb-false n image_blocks e))) (omega arith))

-- the record that the code found for block n
module _ (n : ℕ) {r : BlockRecord} (is : record_of n ≡ r) where
  pub found_fits : Within r
  found_fits = subst Within is (place_fits n)

  pub found_put : (block spare : List ℕ) {l m : List ℕ} → l ≡ spare_for r spare → Wrote l (place_of r) (record_in r block) m
      → m ≡ put_block n block spare
  unfolding put_block
  found_put block spare e w = rw (is, ← e) w.is
