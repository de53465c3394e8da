-- Places of a list cleared: each has the record of a free slot then, or what it had.
use Prim.Native.Nat.{ℕ, ◌<◌}
use borrow.Author.Tests.{eqb-true, eqb-false}
use lib.{Dec.eqb, ListN.{length, get_or, set, length-set, length-map, get_or-map}, Seq.{get_or-set_same, get_or-set_other}}
use mathlib.Core.{Path.{◌≡◌, sym, ◌∙◌, ap}, Bool.{Bool, true, false, cond}, List.{List, map}}
use native.Mathlib.Omega.{arith}
use Rattle.lists.proofs.{Tests.{by_cases, cond_true, cond_false}, Any.{any_fails, none_of}, Count.count_places}
use Rattle.lists.specs.Lists.{any, count}

-- the places where `gone` passes have the default
pub record Clears {A : Type 0} (d : A) (gone : ℕ → Bool) (xs ys : List A) : Type 0 where
  pub same_length : length ys ≡ length xs
  pub stays : (i : ℕ) → gone i ≡ false → get_or ys i d ≡ get_or xs i d
  pub goes : (i : ℕ) → gone i ≡ true → get_or ys i d ≡ d

-- one place, and those that pass a test
module _ {A : Type 0} (d : A) (xs : List A) where
  pub set_clears : (i : ℕ) → i < length xs → Clears d (λ j. eqb j i) xs (set xs i d)
  set_clears i b =
      record {
        same_length = length-set xs i d;
        stays = λ j e. get_or-set_other xs i j d d (eqb-false j i e);
        goes = λ j e. ap (λ (k : ℕ). get_or (set xs i d) k d) (eqb-true j i e) ∙ get_or-set_same xs i d d b;
      }

  pub map_clears : (p : A → Bool) → Clears d (λ i. p (get_or xs i d)) xs (map (λ x. cond (p x) d x) xs)
  map_clears p =
      record {
        same_length = length-map xs (λ x. cond (p x) d x);
        stays = λ i e. at i ∙ cond_false d (get_or xs i d) e;
        goes = λ i e. at i ∙ cond_true d (get_or xs i d) e;
      }
    where
      same : cond (p d) d d ≡ d
      same = by_cases (p d) (cond_true d d) (cond_false d d)

      at : (i : ℕ) → get_or (map (λ x. cond (p x) d x) xs) i d ≡ cond (p (get_or xs i d)) d (get_or xs i d)
      at i =
          ap (λ (e : A). get_or (map (λ x. cond (p x) d x) xs) i e) (sym same) ∙ get_or-map (λ x. cond (p x) d x) xs i d

module _ {A : Type 0} {d : A} {gone : ℕ → Bool} {xs ys : List A} (c : Clears d gone xs ys) where
  -- what holds of the default, and at every place that stays, holds at every place
  pub clear_each : (P : A → Type 0) → P d → ((i : ℕ) → gone i ≡ false → P (get_or xs i d)) → (i : ℕ) → P (get_or ys i d)
  clear_each P new old i = by_cases (gone i) (λ e. rw (c.goes i e) new) (λ e. rw (c.stays i e) (old i e))

  -- a test that the default fails, and every place that goes
  module _ (q : A → Bool) (free : q d ≡ false) where
    clear_test : ((i : ℕ) → gone i ≡ true → q (get_or xs i d) ≡ false) → (i : ℕ) → q (get_or ys i d) ≡ q (get_or xs i d)
    clear_test none i =
        by_cases (gone i) (λ e. ap q (c.goes i e) ∙ free ∙ sym (none i e)) (λ e. ap q (c.stays i e))

    pub count_clear : ((i : ℕ) → gone i ≡ true → q (get_or xs i d) ≡ false) → count q ys ≡ count q xs
    count_clear none = count_places q d ys xs c.same_length (clear_test none)

    -- no more of them pass
    pub none_clear : any q xs ≡ false → any q ys ≡ false
    none_clear h =
        none_of q d ys
        (λ i b.
        by_cases (gone i) (λ e. ap q (c.goes i e) ∙ free)
        (λ e. ap q (c.stays i e) ∙ any_fails q d xs h i (omega (arith, c.same_length))))
