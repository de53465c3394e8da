-- The weights of a name's units: a place more, and none for the zeros after a well stored name.
use Rattle.base.{specs.Base.{ℕ, zero, suc, ◌+◌, ◌*◌, ◌-◌, ◌≤◌, ◌<◌, ◌≡◌, Bool, true, false, cond, List, [], ◌∷◌, ◌++◌, length, get_or, drop, replicate, padded, file_name_limit}, proofs.Laws.{refl, ◌∙◌, ap, arith, eq-eqb, drop_next, drop_of_length-le, same_is}}
use native.Mathlib.Nat.{mul-le-mul}
use Rattle.stored_names.specs.StoredNames.{units, well_stored}
use Rattle.name_keys.specs.NameKeys.{low_weights, high_weights, weighed, weighed_from, name_key, stored_key}

-- the key of a slot: a free one has none
unfoldable pub slot_key : Bool → ℕ → List ℕ → ℕ
slot_key used number us = cond used (name_key number us) 0

-- a byte's share
pub byte_bound : (byte weight : ℕ) → byte ≤ 255 → weight ≤ 65535 → byte * weight ≤ 16711425
byte_bound byte weight b w = mul-le-mul {n₁ = byte} {m₁ = weight} {n₂ = 255} {m₂ = 65535} b w

module _ (n : List ℕ) (i : ℕ) where
  pub weighed_next : i < length n
      → weighed_from i (drop i n) ≡ weighed (get_or n i 0) (get_or low_weights i 0) (get_or high_weights i 0) + weighed_from (i + 1) (drop (i + 1) n)
  unfolding weighed_from
  weighed_next h = rw (drop_next n i 0 h)

  pub weighed_end : length n ≤ i → weighed_from i (drop i n) ≡ 0
  unfolding weighed_from
  weighed_end h = rw (drop_of_length-le n h)

-- a zero adds nothing
zero_weighed : (low high : ℕ) → weighed 0 low high ≡ 0
unfolding weighed
zero_weighed low high = omega arith

weighed_zeros : (i k : ℕ) → weighed_from i (replicate k 0) ≡ 0
unfolding weighed_from
weighed_zeros i zero = refl
weighed_zeros i (suc k) = omega (arith, zero_weighed (get_or low_weights i 0) (get_or high_weights i 0), weighed_zeros (i + 1) k)

weighed-padded : (i : ℕ) (us : List ℕ) (k : ℕ) → weighed_from i (us ++ replicate k 0) ≡ weighed_from i us
unfolding weighed_from
weighed-padded i [] k = weighed_zeros i k
weighed-padded i (u ∷ us) k =
    ap (λ (n : ℕ). weighed u (get_or low_weights i 0) (get_or high_weights i 0) + n) (weighed-padded (i + 1) us k)

-- so a well stored name has the key of its units
weighed-stored : (limit : ℕ) (n : List ℕ) → well_stored limit n ≡ true → weighed_from 0 n ≡ weighed_from 0 (units n)
unfolding well_stored padded
weighed-stored limit n h =
    ap (weighed_from 0) (same_is n (padded limit (units n)) h) ∙ weighed-padded 0 (units n) (limit - length (units n))

module _ {used : Bool} where
  pub key_used : (limit : ℕ) → used ≡ true → (number : ℕ) (n : List ℕ) → length n ≡ file_name_limit → well_stored limit n ≡ true
      → stored_key number n ≡ slot_key used number (units n)
  unfolding slot_key name_key stored_key
  key_used limit u number n long h = rw (u, eq-eqb (length n) file_name_limit long, weighed-stored limit n h)

  -- and a free slot none
  pub key_free : used ≡ false → (number : ℕ) (us : List ℕ) → 0 ≡ slot_key used number us
  unfolding slot_key
  key_free u number us = rw u
