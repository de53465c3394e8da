-- The buckets, for the functions below `distinct`. A pointer is a place plus one, 0 for none; `last` says what each must be.
use Rattle.base.specs.Base.{ℕ, zero, suc, Bool, true, false, cond, List, length, get_or, eqb, leb}
use Rattle.std.specs.Prelude.{◌%◌, ◌≤◌, ◌<◌, ◌≡◌, ◌&&◌, ◌||◌}
use Rattle.distinct.specs.Keys.{is_key}

abbrev pub buckets : ℕ
buckets = 251

-- how many keys they hold
abbrev pub held : ℕ
held = 256

unfoldable pub bucket_of : ℕ → ℕ
bucket_of k = k % buckets

-- k is a key of bucket h
abbrev pub in_bucket : ℕ → ℕ → Bool
in_bucket h k = is_key k && eqb (bucket_of k) h

-- the pointer at a place, which leads back, to the place itself at most; 0 where there is none
unfoldable pub pointer_at : List ℕ → ℕ → ℕ
pointer_at next place = let to = get_or next place 0 in cond (leb to place) to 0

module _ (keys : List ℕ) where
  -- whether k stands before place i
  unfoldable pub found : ℕ → ℕ → Bool
  found k zero = false
  found k (suc i) = eqb (get_or keys i 0) k || found k i

  -- the last key of bucket h before place i
  unfoldable pub last : ℕ → ℕ → ℕ
  last h zero = 0
  last h (suc i) = cond (in_bucket h (get_or keys i 0)) (suc i) (last h i)

  -- each key before place i points to the one before it in its bucket
  abbrev pub Linked : List ℕ → ℕ → Type 0
  Linked next i = (m : ℕ) → m < i → is_key (get_or keys m 0) ≡ true → get_or next m 0 ≡ last (bucket_of (get_or keys m 0)) m

  -- a pointer into the bucket of a key, and the chain that it leads to
  pub record Chain (next : List ℕ) (first key : ℕ) : Type 0 where
    pub counts : is_key key ≡ true
    pub in_keys : first ≤ length keys
    pub in_next : first ≤ length next
    pub points : last (bucket_of key) first ≡ first
    pub linked : Linked next first
