-- An image of written blocks has their next handle, and the tables that it restores are related to the model's.
use Prim.Native.Nat.{◌^◌}
use lib.{Dec.lit<, Seq.{take_at, take-append-le}}
use Rattle.base.{specs.Base.{ℕ, zero, suc, ◌*◌, ◌≤◌, ◌<◌, ◌≡◌, Bool, true, List, [], ◌∷◌, length, take, all, any, same, eqb, open_used, nil, last_handle, passed, Tables, Handle, FileCorruptError}, proofs.Laws.{refl, sym, ◌∙◌, ap, arith, subst, not-false, not-true, and_left, and_right, eqb-true, keep_none, length-replicate, passed_same}}
use Rattle.audit.specs.Sound.{sound_bytes}
use Rattle.codecs.proofs.Fields.{part-part}
use Rattle.consistency.proofs.Equivalence.{consistent_iff}
use Rattle.image.{proofs.Records.header_record, specs.{Blocks.{block_size, image_blocks, place_of, size_of, block_of, blocks_of}, Alone.record_in, Image.{Reading, unread, blocks_in, whole_blocks, read_rows, restorable, checked_image}, declared.BlockRecord.TheVariants.Header}}
use Rattle.image_laws.{specs.RoundTrip.joined, proofs.{Blocks.{block_of-length, blocks_length, record_in_block}, Chains.{bind_passed, test_passed}, Reading.{Whole, whole_length, rows_whole}, Spelled.spelled}}
use Rattle.layout.{specs.{Layout.{tables_size, next_at, files_at, decode, stands_for_tables}, Records.handle_codec}, proofs.{Fields.next_field, InPlace.in_place, Tables.stands_length}}
use Rattle.little_endian.{specs.LittleEndian.from_bytes, proofs.Numbers.from_to}
use Rattle.store.{specs.Model.Model, proofs.Sequences.Related.Related}
use Rattle.tables.specs.Tables.{live}
use Rattle.restarts.proofs.Blocks.{next_bytes, next_in, AllFresh, number_first}
use Rattle.restarts.specs.Events.{cut, all_written, restored, model_restarted}

-- the first block of a row that has any
cut_first : (p : List ℕ → Bool) (k : ℕ) (row : List ℕ) → 0 < k → all p (cut k row) ≡ true → p (take block_size row) ≡ true
unfolding cut all
cut_first p zero row l h = absurd (let z : ⊥ = omega arith in z)
cut_first p (suc k) row l h = and_left (p (take block_size row)) _ h

module _ (written : List (List ℕ)) where
  -- and of rows that have any
  first_written : (rows : List (List ℕ)) → Whole rows → all_written written rows ≡ true → 0 < length (joined rows)
      → any (same (take block_size (joined rows))) written ≡ true
  unfolding joined all_written all
  first_written [] w h l = absurd (let z : ⊥ = omega arith in z)
  first_written ([] ∷ rows) w h l = first_written rows (and_right (whole_blocks 0) _ w) (and_right (all _ (cut 0 [])) _ h) l
  first_written ((x ∷ xs) ∷ rows) w h l =
      let row = x ∷ xs in
      let k = blocks_in (length row) in
      let e : length row ≡ block_size * k = whole_length (length row) (and_left (whole_blocks (length row)) _ w) in
      rw (take-append-le block_size row (joined rows) (omega arith))
      (cut_first (λ b. any (same b) written) k row (omega arith) (and_left (all (λ b. any (same b) written) (cut k row)) _ h))

-- the header has the next handle of its tables' bytes
header_next : (bs : List ℕ) → length bs ≡ tables_size → next_in (record_in Header (block_of bs 0)) ≡ next_in bs
unfolding place_of size_of
header_next bs long =
    ap next_in (rw (header_record 0 refl) at (record_in_block bs long 0 (omega arith)))
    ∙ part-part bs 0 files_at next_at handle_codec.size (omega arith)

first_block : (bs : List ℕ) (k : ℕ) → take block_size (blocks_of bs 0 (suc k)) ≡ block_of bs 0
unfolding blocks_of
first_block bs k = take_at (block_of bs 0) (blocks_of bs 1 k) block_size (block_of-length bs 0)

-- so that an image of written blocks, read whole, has theirs
read_next : (count : ℕ) (written : List (List ℕ)) → AllFresh count written → (t : Reading) (rows : List (List ℕ)) → all_written written rows ≡ true
    → read_rows unread rows ≡ passed t → t.reader ≡ image_blocks → next_in t.spare ≡ next_bytes count
read_next count written fresh t rows h read last =
    let q = spelled unread t rows refl (length-replicate {A = ℕ} tables_size 0) read last in
    let some : 0 < length (joined rows) = omega (arith, ap length q.0, blocks_length t.spare 0 image_blocks) in
    let b = first_written written rows (rows_whole unread t rows read) h some in
    sym (header_next t.spare q.1)
    ∙ fresh (block_of t.spare 0) (rw (q.0, first_block) at b) (number_first t.spare 0)

-- the tables that an image of written blocks restores
module _ (m : Model) (below : suc m.count ≤ last_handle) where
  next_is : (spare : List ℕ) → length spare ≡ tables_size → next_in spare ≡ next_bytes m.count → (decode spare).volume.next_handle.0 ≡ suc m.count
  next_is spare long held =
      ap (λ (h : Handle). h.0) (in_place next_field spare long)
      ∙ ap from_bytes held
      ∙ from_to handle_codec.size (suc m.count) (omega (arith, lit< {m = last_handle} {n = 256 ^ 8} tt))

  restorable_related : (spare : List ℕ) → restorable spare ≡ true → next_in spare ≡ next_bytes m.count
      → Related (decode spare) (model_restarted m (decode spare))
  unfolding restorable sound_bytes model_restarted live
  restorable_related spare ok held =
      let sound = and_left (sound_bytes spare) _ ok in
      let unused = not-true _ (and_right (sound_bytes spare) _ ok) in
      record {
        consistent_tables = (consistent_iff _ _).0 (and_right (stands_for_tables spare) _ sound);
        opens_are_entries = rw (keep_none open_used (decode spare).opens.rows unused) nil;
        same_namespace = refl;
        next_handle = next_is spare (stands_length spare (and_left (stands_for_tables spare) _ sound)) held;
      }

  pub restored_related : (written : List (List ℕ)) → AllFresh m.count written → (rows : List (List ℕ)) → all_written written rows ≡ true
      → (u : Tables) → restored rows ≡ passed u → Related u (model_restarted m u)
  unfolding restored checked_image
  restored_related written fresh rows h u e =
      let a = bind_passed _ _ e in
      let b = bind_passed (read_rows unread rows) _ a.1.0 in
      let t = b.0 in
      let c = test_passed _ FileCorruptError _ b.1.1 in
      let ok = not-false _ c.0 in
      let last = eqb-true t.reader image_blocks (and_left _ _ ok) in
      subst (λ (v : Tables). Related v (model_restarted m v)) (ap decode (passed_same c.1) ∙ passed_same a.1.1)
      (restorable_related t.spare (and_right (eqb t.reader image_blocks) _ ok) (read_next m.count written fresh t rows h b.1.0 last))
