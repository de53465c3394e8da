-- A list copied over another from the front, one place at a time: the first i places of l are those of xs.
use Prim.Native.Nat.{ℕ, ◌+◌, ◌≤◌, ◌<◌}
use lib.{ListN.{length, get_or, set, take, length-set}, Seq.{take_all, take-suc, take-suc-set}}
use mathlib.Core.{Path.{◌≡◌, refl, sym, ◌∙◌}, List.List}
use native.Mathlib.{Numerals.add-one, Omega.arith}

module _ {A : Type 0} where
  pub record Copied (xs l : List A) (i : ℕ) : Type 0 where
    pub long : length l ≡ length xs
    pub is : take i l ≡ take i xs

  pub copied_none : {xs l : List A} → length l ≡ length xs → Copied xs l 0
  copied_none h = record { long = h; is = refl }

  pub copied_next : {xs l : List A} {i : ℕ} (d x : A) → Copied xs l i → i < length xs → x ≡ get_or xs i d
      → Copied xs (set l i x) (i + 1)
  copied_next {xs} {l} {i} d x c h e =
      let k = c.long in
      record {
        long = length-set l i x ∙ k;
        is = rw (add-one, take-suc-set l i x (omega arith), take-suc xs i d h, c.is, e);
      }

  pub copied_all : {xs l : List A} {i : ℕ} → Copied xs l i → length xs ≤ i → l ≡ xs
  copied_all {xs} {l} {i} c h =
      let k = c.long in
      sym (take_all i l (omega arith)) ∙ c.is ∙ take_all i xs h
