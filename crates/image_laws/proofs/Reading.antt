-- Reading in rows: rows of whole blocks read in turn are their blocks read in one row.
use Prim.Native.Nat.{◌%◌}
use native.Mathlib.Nat.{add-zero, zero-add, suc-add, mod-add-div, mul-mod_right, mul-div_right}
use lib.{ListN.length-append, Seq.{take-append-le, drop-append-le}}
use Rattle.base.{specs.Base.{ℕ, zero, suc, ◌+◌, ◌*◌, ◌≤◌, ◌<◌, ◌≡◌, true, List, [], ◌∷◌, ◌++◌, length, take, drop, all, leb, ltb, FileCorruptError, Checked, passed, ◌>>=◌}, proofs.Laws.{refl, sym, ◌∙◌, ap, arith, length-drop, by_cases, ltb-true, ltb-false, not_both, not-false, not_isn't, and_left, and_right, and_both, le-leb, eq-eqb, eqb-true, passed_same}}
use Rattle.image.{specs.{Blocks.{block_size, image_blocks, record_of}, Alone.{well_formed, record_alone, record_in, block_alone}, Image.{Reading, whole_blocks, blocks_in, put_block, read_block, read_blocks, read_row, read_rows}, declared.BlockRecord.BlockRecord}, proofs.Records.past_record}
use Rattle.image_laws.proofs.Chains.{test_passed, test_passes, bind_passed, bind_same, bind_bind}
use Rattle.image_laws.specs.RoundTrip.{joined}

-- lengths of whole blocks
pub whole_length : (long : ℕ) → whole_blocks long ≡ true → long ≡ block_size * blocks_in long
unfolding whole_blocks
whole_length long h = sym (mod-add-div long block_size) ∙ rw (eqb-true (long % block_size) 0 h) (zero-add _)

module _ (k : ℕ) {long : ℕ} (e : long ≡ block_size * k) where
  pub blocks_whole : whole_blocks long ≡ true
  unfolding whole_blocks
  blocks_whole = eq-eqb (long % block_size) 0 (rw e (mul-mod_right block_size k))

  pub blocks_count : blocks_in long ≡ k
  blocks_count = rw e (mul-div_right k (omega arith))

-- a block past the last shows that by itself
pub alone_within : (n : ℕ) (b : List ℕ) → block_alone n b ≡ true → n < image_blocks
unfolding block_alone record_alone
alone_within n b h =
    by_cases (ltb n image_blocks) (ltb-true n image_blocks)
    (λ e. absurd (not_both (and_right (well_formed n b) (record_alone (record_of n) (record_in (record_of n) b)) h)
    (ap (λ (r : BlockRecord). record_alone r (record_in (record_of n) b)) (past_record n (ltb-false n image_blocks e)))))

-- a block that was read
module _ (s t : Reading) (b : List ℕ) (h : read_block s b ≡ passed t) where
  pub read_alone : block_alone s.reader b ≡ true
  unfolding read_block
  read_alone = not-false _ (test_passed _ FileCorruptError _ h).0

  pub read_put : t ≡ record { spare = put_block s.reader b s.spare; reader = suc s.reader }
  unfolding read_block
  read_put = sym (passed_same (test_passed _ FileCorruptError _ h).1)

-- the number moves on by the blocks read, and not past the last
pub reader_moves : (s t : Reading) (k : ℕ) (row : List ℕ) → read_blocks s k row ≡ passed t → t.reader ≡ s.reader + k
unfolding read_blocks
reader_moves s t zero row h = rw (← passed_same h) (sym (add-zero _))
reader_moves s t (suc k) row h =
    let next = bind_passed _ _ h in
    reader_moves next.0 t k (drop block_size row) next.1.1
    ∙ rw (read_put s next.0 (take block_size row) next.1.0) (omega arith)

pub reader_within : (s t : Reading) (k : ℕ) (row : List ℕ) → s.reader ≤ image_blocks → read_blocks s k row ≡ passed t
    → t.reader ≤ image_blocks
unfolding read_blocks
reader_within s t zero row l h = rw (← passed_same h) l
reader_within s t (suc k) row l h =
    let next = bind_passed _ _ h in
    reader_within next.0 t k (drop block_size row)
    (rw (read_put s next.0 (take block_size row) next.1.0)
    (alone_within s.reader (take block_size row) (read_alone s next.0 (take block_size row) next.1.0))) next.1.1

-- blocks read in two goes
pub blocks_joined : (s : Reading) (j k : ℕ) (xs ys : List ℕ) → length xs ≡ block_size * j
    → read_blocks s (j + k) (xs ++ ys) ≡ (read_blocks s j xs >>= (λ t. read_blocks t k ys))
unfolding read_blocks ◌>>=◌
blocks_joined s zero k [] ys h = rw zero-add
blocks_joined s zero k (x ∷ xs) ys h = absurd (let z : ⊥ = omega arith in z)
blocks_joined s (suc j) k xs ys h =
    let l : block_size ≤ length xs = omega arith in
    let m : length (drop block_size xs) ≡ block_size * j = rw length-drop (omega arith) in
    rw (suc-add, read_blocks, take-append-le block_size xs ys l)
    (bind_same (read_block s (take block_size xs)) _ _
    (λ next e. rw (drop-append-le block_size xs ys l) (blocks_joined next j k (drop block_size xs) ys m))
    ∙ sym (bind_bind (read_block s (take block_size xs)) _ _))

-- a row that was read
module _ (s : Reading) (row : List ℕ) where
  pub row_blocks : s.reader ≤ image_blocks → whole_blocks (length row) ≡ true
      → read_row s row ≡ read_blocks s (blocks_in (length row)) row
  unfolding read_row
  row_blocks l w = test_passes FileCorruptError _ (not_isn't (and_both (le-leb s.reader image_blocks l) w))

  pub row_whole : (t : Reading) → read_row s row ≡ passed t → whole_blocks (length row) ≡ true
  unfolding read_row
  row_whole t h =
      and_right (leb s.reader image_blocks) (whole_blocks (length row)) (not-false _ (test_passed _ FileCorruptError _ h).0)

  pub row_within : (t : Reading) → s.reader ≤ image_blocks → read_row s row ≡ passed t → t.reader ≤ image_blocks
  row_within t l h =
      reader_within s t (blocks_in (length row)) row l (sym (row_blocks l (row_whole t h)) ∙ h)

-- two rows, and rows
pub two_rows : (s : Reading) (xs ys : List ℕ) → s.reader ≤ image_blocks → whole_blocks (length xs) ≡ true
    → whole_blocks (length ys) ≡ true → read_row s (xs ++ ys) ≡ (read_row s xs >>= (λ t. read_row t ys))
two_rows s xs ys l wx wy =
    let j = blocks_in (length xs) in
    let k = blocks_in (length ys) in
    let lx = whole_length (length xs) wx in
    let ly = whole_length (length ys) wy in
    let e : length (xs ++ ys) ≡ block_size * (j + k) = rw length-append (omega arith) in
    row_blocks s (xs ++ ys) l (blocks_whole (j + k) e)
    ∙ ap (λ (n : ℕ). read_blocks s n (xs ++ ys)) (blocks_count (j + k) e)
    ∙ blocks_joined s j k xs ys lx
    ∙ ap (λ (c : Checked Reading). c >>= (λ t. read_blocks t k ys)) (sym (row_blocks s xs l wx))
    ∙ bind_same (read_row s xs) _ _ (λ t h. sym (row_blocks t ys (row_within s xs t l h) wy))

abbrev pub Whole : List (List ℕ) → Type 0
Whole rows = all (λ row. whole_blocks (length row)) rows ≡ true

module _ (row : List ℕ) (rows : List (List ℕ)) (h : Whole (row ∷ rows)) where
  first_whole : whole_blocks (length row) ≡ true
  unfolding all
  first_whole = and_left (whole_blocks (length row)) (all (λ r. whole_blocks (length r)) rows) h

  rest_whole : Whole rows
  unfolding all
  rest_whole = and_right (whole_blocks (length row)) (all (λ r. whole_blocks (length r)) rows) h

pub joined_whole : (rows : List (List ℕ)) → Whole rows → whole_blocks (length (joined rows)) ≡ true
unfolding joined
joined_whole [] h = blocks_whole 0 refl
joined_whole (row ∷ rows) h =
    let j = blocks_in (length row) in
    let k = blocks_in (length (joined rows)) in
    let lx = whole_length (length row) (first_whole row rows h) in
    let ly = whole_length (length (joined rows)) (joined_whole rows (rest_whole row rows h)) in
    blocks_whole (j + k) (rw length-append (omega arith))

-- rows of whole blocks read in turn are read joined
pub rows_joined : (s : Reading) (rows : List (List ℕ)) → s.reader ≤ image_blocks → Whole rows
    → read_row s (joined rows) ≡ read_rows s rows
unfolding joined read_rows read_blocks
rows_joined s [] l h = row_blocks s [] l (blocks_whole 0 refl)
rows_joined s (row ∷ rows) l h =
    two_rows s row (joined rows) l (first_whole row rows h) (joined_whole rows (rest_whole row rows h))
    ∙ bind_same (read_row s row) _ _ (λ t e. rows_joined t rows (row_within s row t l e) (rest_whole row rows h))

-- rows that were read are whole blocks
pub rows_whole : (s t : Reading) (rows : List (List ℕ)) → read_rows s rows ≡ passed t → Whole rows
unfolding all read_rows
rows_whole s t [] h = refl
rows_whole s t (row ∷ rows) h =
    let next = bind_passed _ _ h in
    and_both (row_whole s row next.0 next.1.0) (rows_whole next.0 t rows next.1.1)
