-- Counted by key in a pass from the back, by a test of an element with a key: only one that has the key passes.
use Prim.Native.Nat.{ℕ, ◌+◌, ◌-◌, ◌≤◌, ◌<◌}
use lib.ListN.{length, get_or, set, drop, replicate, length-set, length-replicate, get_or-replicate, length-drop, drop_of_length-le}
use mathlib.Core.{Path.{◌≡◌, sym, ◌∙◌, ap}, Bool.{Bool, false}, List.{List, ◌∷◌}, Logic.◌⊎◌}
use native.Mathlib.Omega.{arith}
use Rattle.lists.proofs.{Tests.one, Count.{count_no, count_add, count_bound}, Keyed.{Noted, keyed, back_skip, back_set}}
use Rattle.lists.specs.Lists.{count}

-- `table` has at each of `size` keys how many of the elements from place i on pass the test with it
pub record Counted {A : Type 0} (test : ℕ → A → Bool) (size : ℕ) (xs : List A) (table : List ℕ) (i : ℕ) : Type 0 where
  pub long : length table ≡ size
  pub counts : Noted 0 size table (λ n. count (test n) (drop i xs))

module _ {A : Type 0} (test : ℕ → A → Bool) (size : ℕ) (xs : List A) where
  pub count_begins : (i : ℕ) → length xs ≤ i → Counted test size xs (replicate size 0) i
  unfolding count
  count_begins i past =
      record {
        long = length-replicate {A = ℕ} size 0;
        counts = λ n b. get_or-replicate {A = ℕ} size n 0 0 b ∙ sym (ap (count (test n)) (drop_of_length-le xs past));
      }

  module _ {table : List ℕ} {i : ℕ} (counted : Counted test size xs table i) (n : ℕ) (b : n < size) where
    pub count_room : get_or table n 0 ≤ length xs
    count_room = omega (arith, counted.counts n b, count_bound (test n) (drop i xs), length-drop i xs)

    pub count_ends : i ≡ 0 → get_or table n 0 ≡ count (test n) xs
    count_ends e = counted.counts n b ∙ ap (λ (k : ℕ). count (test n) (drop k xs)) e

module _ {A : Type 0} (key : A → ℕ) (used : A → Bool) (test : ℕ → A → Bool)
    (other : (n : ℕ) (x : A) → keyed key used n x ≡ false → test n x ≡ false) (xs : List A) where
  none_other : (n : ℕ) (x : A) (ys : List A) → keyed key used n x ≡ false → count (test n) (x ∷ ys) ≡ count (test n) ys
  none_other n x ys f = count_no (test n) x ys (other n x f)

  module _ {size : ℕ} {table : List ℕ} {i : ℕ} (d : A) (positive : 0 < i) (inside : i ≤ length xs)
      (counted : Counted test size xs table i) where
    abbrev here : A
    here = get_or xs (i - 1) d

    -- an element that isn't used, or whose key is past the end
    pub count_skips : (used here ≡ false) ⊎ (size ≤ key here) → Counted test size xs table (i - 1)
    count_skips w =
        record {
          long = counted.long;
          counts = back_skip key used (λ n. count (test n)) none_other xs i d positive inside 0 size table counted.counts w;
        }

    -- any other, which passes with its key or doesn't
    pub count_adds : key here < size → (more : ℕ) → more ≡ one (test (key here) here)
        → Counted test size xs (set table (key here) (get_or table (key here) 0 + more)) (i - 1)
    count_adds k more f =
        record {
          long = length-set table (key here) _ ∙ counted.long;
          counts =
              back_set key used (λ n. count (test n)) none_other xs i d positive inside 0 size table counted.counts counted.long k _
              (omega (arith, counted.counts (key here) k, count_add (test (key here)) here (drop i xs)));
        }
