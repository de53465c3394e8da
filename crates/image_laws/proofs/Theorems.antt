-- The round trip: rows written in turn are the image, the image comes back, and accepted bytes are an image.
use Rattle.base.{specs.Base.{ℕ, ◌+◌, ◌≡◌, List, ◌++◌, length, FileCorruptError, done}, proofs.Laws.{refl, sym, ◌∙◌, ap, ap₂, passed_same}}
use Rattle.image.specs.{Blocks.{image_blocks, blocks_of, image_part, without_opens}, Image.{blocks_in, checked_row, write_image}}
use Rattle.layout.specs.Layout.{encode, decode}
use Rattle.image_laws.proofs.{Blocks.{blocks_length, blocks_add}, Chains.{test_passed, bind_passed, done_passed}, Reading.blocks_count, Spelled.{spelled, spelled_bytes}, Put.Unopened, Back.rows_back, Finish.{finish_accepted, finishes}, Saved.{saved_length, saved_opens_zero, saved_alone, saved_restorable, restorable-same}}
use Rattle.image_laws.specs.RoundTrip.{joined, Written, no_row, next_row, WrittenInTurn, RoundTrip, NoSecondSpelling}

-- a row that was written
module _ (tables before row : List ℕ) (n : ℕ) (h : write_image tables n before ≡ done row) where
  row_written : (k : ℕ) × (row ≡ image_part (decode tables) n k)
  unfolding write_image
  row_written =
      let sound = test_passed _ FileCorruptError _ (done_passed _ _ h) in
      let k = bind_passed (checked_row n (length before)) _ sound.1 in
      (k.0, sym (ap (λ x. x.state) (passed_same k.1.1)))

-- rows written from block n on
rows_written : (tables : List ℕ) (n : ℕ) (rows : List (List ℕ)) → Written tables n rows → (k : ℕ) × (joined rows ≡ image_part (decode tables) n k)
unfolding joined image_part blocks_of
rows_written tables n _ no_row = (0, refl)
rows_written tables n _ (next_row before {row} {rows} h w) =
    let bs = encode (without_opens (decode tables)) in
    let this = row_written tables before row n h in
    let k = this.0 in
    let count : blocks_in (length row) ≡ k = blocks_count k (ap length this.1 ∙ blocks_length bs n k) in
    let others = rows_written tables (n + blocks_in (length row)) rows w in (
      k + others.0,
      ap₂ (λ (x y : List ℕ). x ++ y) this.1 (others.1 ∙ ap (λ (m : ℕ). blocks_of bs (n + m) others.0) count)
          ∙ sym (blocks_add bs n k others.0),
    )

pub written_in_turn : WrittenInTurn
unfolding image_part
written_in_turn tables rows w e =
    let bs = encode (without_opens (decode tables)) in
    let all = rows_written tables 0 rows w in
    let count : blocks_in (length (joined rows)) ≡ all.0 = blocks_count all.0 (ap length all.1 ∙ blocks_length bs 0 all.0) in
    all.1 ∙ ap (blocks_of bs 0) (sym count ∙ e)

pub round_trip : RoundTrip
unfolding image_part
round_trip tables bytes sound rows e whole s first long =
    let bs = encode (without_opens (decode tables)) in
    let kept : Unopened bs = record { long = saved_length tables bytes sound; opens = saved_opens_zero tables bytes sound } in
    record {
      read = rows_back bs kept (saved_alone tables bytes sound) rows e whole s first;
      finished = λ before l. finishes before bs l kept.long (saved_restorable tables bytes sound);
    }

pub no_second_spelling : NoSecondSpelling
unfolding image_part
no_second_spelling s t rows bytes first long read before r h =
    let a = finish_accepted before t r h in
    let same = restorable-same t.spare (spelled_bytes s t rows first read a.all bytes) a.sound in
    (spelled s t rows first long read a.all).0
    ∙ ap (λ (bs : List ℕ). blocks_of bs 0 image_blocks) (sym same ∙ ap (λ (bs : List ℕ). encode (without_opens (decode bs))) (sym a.tables))
