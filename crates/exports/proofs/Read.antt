-- Masks and paths read from their bytes.
use Prim.Native.Nat.{◌/◌, ◌%◌}
use lib.{ListN.length-append, Seq.{length-take-le, take_at}}
use Rattle.base.{specs.Base.{ℕ, suc, ◌<◌, ◌≤◌, ◌+◌, ◌*◌, ◌≡◌, true, false, Bool, List, [], ◌++◌, ◌⊎◌, inl, inr, eqb, leb, length, take, drop, accounts, path_limit, refuse, refuse_if, ◌>>◌, ObjectNameInvalid}, proofs.Laws.{refl, sym, ◌∙◌, ap, arith, eq-eqb, ne_eqb, eqb-true, eqb-false, lt-leb, by_cases, ⊎_elim, take_all, length-drop}}
use Rattle.codecs.{specs.Codec.{number, decode_row}, proofs.Laws.row_count}
use Rattle.paths.specs.Paths.{parse_path}
use Rattle.exports.specs.{Interface.{masks_of, overlong, path_of}, Returns.{MasksRead, ReadsAs}}

-- step 4 refuses units over the limit, whatever they are
over_limit : (d f : Bool) (units : List ℕ) → path_limit < length units → parse_path d f units ≡ refuse ObjectNameInvalid
unfolding parse_path refuse_if ◌>>◌
over_limit d f units h = rw (lt-leb (length units) path_limit h)

module _ (bytes : List ℕ) where
  pub no_masks : (masks : List ℕ) → length masks ≡ accounts → (length bytes ≡ 4 * accounts → ⊥)
      → MasksRead (record { masks = masks; count = 0 }) bytes
  unfolding masks_of
  no_masks masks long h =
      record { is = rw (ne_eqb (length bytes) (4 * accounts) h); within = omega arith; long = long }

  pub masks_read : (masks : List ℕ) → length bytes ≡ 4 * accounts
      → masks ≡ decode_row (number 4) accounts (take (4 * accounts) bytes)
      → MasksRead (record { masks = masks; count = accounts }) bytes
  unfolding masks_of
  masks_read masks long e =
      let l : length masks ≡ accounts = ap length e ∙ row_count (number 4) accounts _ in
      record {
        is =
            take_all accounts masks (omega (arith, l))
            ∙ rw (eq-eqb (length bytes) (4 * accounts) long) (e ∙ ap (decode_row (number 4) accounts) (take_all (4 * accounts) bytes (omega (arith, long))));
        within = omega arith;
        long = l;
      }

  path_odd : (length bytes % 2 ≡ 0 → ⊥) → path_of bytes ≡ overlong
  unfolding path_of
  path_odd h = rw (ne_eqb (length bytes % 2) 0 h)

  path_even : length bytes % 2 ≡ 0 → path_of bytes ≡ decode_row (number 2) (length bytes / 2) bytes
  unfolding path_of
  path_even h = rw (eq-eqb (length bytes % 2) 0 h)

  -- the path is over the limit: its length is odd, or it has more units
  path_over : (length bytes % 2 ≡ 0 → ⊥) ⊎ (suc path_limit ≤ length bytes / 2) → path_limit < length (path_of bytes)
  path_over h =
      by_cases (eqb (length bytes % 2) 0)
      (λ e.
      let even = eqb-true (length bytes % 2) 0 e in
      let long : length (path_of bytes) ≡ length bytes / 2 = ap length (path_even even) ∙ row_count (number 2) (length bytes / 2) bytes in
      ⊎_elim (λ odd. absurd (odd even)) (λ over. omega (arith, over, long)) h)
      (λ e.
      let long : length (path_of bytes) ≡ suc path_limit = ap length (path_odd (eqb-false (length bytes % 2) 0 e)) in
      omega (arith, long))

  -- step 4 refuses an odd length
  pub odd_refused : (length bytes % 2 ≡ 0 → ⊥) → (d f : Bool) → parse_path d f (path_of bytes) ≡ refuse ObjectNameInvalid
  odd_refused h d f = over_limit d f (path_of bytes) (path_over (inl h))

  pub unread : (units : List ℕ) → length units ≡ suc path_limit
      → (length bytes % 2 ≡ 0 → ⊥) ⊎ (suc path_limit ≤ length bytes / 2)
      → ReadsAs (record { units = units; count = suc path_limit }) bytes
  unread units long h =
      record {
        same =
            λ d f.
            ap (parse_path d f) (take_all (suc path_limit) units (omega (arith, long)))
            ∙ (over_limit d f units (omega (arith, long)) ∙ sym (over_limit d f (path_of bytes) (path_over h)));
        within = omega arith;
        long = long;
      }

  -- as many units as half the bytes, read into the first places of an array
  module _ (before : List ℕ) (long : length before ≡ suc path_limit) (short : length bytes / 2 < suc path_limit) where
    abbrev n : ℕ
    n = length bytes / 2

    pub room : length (take n before) ≡ n
    room = length-take-le n before (omega (arith, long, short))

    pub bytes_enough : 0 + 2 * length (take n before) ≤ length bytes
    bytes_enough = omega (arith, room)

    pub path_read : (row : List ℕ) → length bytes % 2 ≡ 0
        → row ≡ decode_row (number 2) (length (take n before)) (take (2 * length (take n before)) bytes)
        → ReadsAs (record { units = row ++ drop n before; count = n }) bytes
    path_read row even e =
        let whole : take (2 * n) bytes ≡ bytes = take_all (2 * n) bytes (omega (arith, even)) in
        let is : row ≡ decode_row (number 2) n bytes = e ∙ rw (room, whole) in
        let count : length row ≡ n = ap length is ∙ row_count (number 2) n bytes in
        record {
          same = λ d f. ap (parse_path d f) (take_at row (drop n before) n count ∙ (is ∙ sym (path_even even)));
          within = omega (arith, short);
          long = length-append row (drop n before) ∙ omega (arith, count, length-drop n before, long, short);
        }
