-- One pass from the back that tests each element and keeps a number for it: what was passed is `drop i xs`.
use Prim.Native.Nat.{ℕ, zero, suc, ◌-◌, ◌≤◌, ◌<◌}
use lib.{ListN.{length, get_or, set, drop, drop_of_length-le, length-set}, Seq.{drop-cons, get_or-set_same}}
use mathlib.Core.{Path.{◌≡◌, refl, sym, ◌∙◌, ap}, Bool.{Bool, true, false}, List.{List, [], ◌∷◌, map}}
use native.Mathlib.Omega.{arith}
use Rattle.lists.proofs.{Tests.{refuted, not_both, and_both}, Places.drop_back, All.all_at}
use Rattle.lists.specs.Lists.{all}

-- each element from place i on passes, and the keys from there on are theirs
pub record Scanned {A : Type 0} (p : A → Bool) (key : A → ℕ) (xs : List A) (keys : List ℕ) (i : ℕ) : Type 0 where
  pub place : i ≤ length xs
  pub size : length keys ≡ length xs
  pub passes : all p (drop i xs) ≡ true
  pub keyed : drop i keys ≡ map key (drop i xs)

-- what stands past a place does not change when it is set
drop-set : (keys : List ℕ) (i n k : ℕ) → i < n → drop n (set keys i k) ≡ drop n keys
drop-set [] i n k h = refl
drop-set (x ∷ xs) zero zero k h = absurd (let z : ⊥ = omega arith in z)
drop-set (x ∷ xs) (suc i) zero k h = absurd (let z : ⊥ = omega arith in z)
drop-set (x ∷ xs) zero (suc n) k h = refl
drop-set (x ∷ xs) (suc i) (suc n) k h = drop-set xs i n k (omega arith)

module _ {A : Type 0} (p : A → Bool) (key : A → ℕ) (xs : List A) where
  pub scan_none : (keys : List ℕ) (i : ℕ) → length keys ≡ i → length xs ≡ i → Scanned p key xs keys i
  unfolding all
  scan_none keys i e h =
      record {
        place = omega arith;
        size = e ∙ sym h;
        passes = rw (drop_of_length-le xs {i = i} (omega arith));
        keyed = rw (drop_of_length-le keys {i = i} (omega arith), drop_of_length-le xs {i = i} (omega arith));
      }

  module _ (keys : List ℕ) (i : ℕ) (d : A) (positive : 0 < i) (scanned : Scanned p key xs keys i) where
    abbrev here : A
    here = get_or xs (i - 1) d

    pub scan_fails : p here ≡ false → all p xs ≡ false
    scan_fails e = refuted (all p xs) (λ h. not_both (all_at p d xs h (i - 1) (omega (arith, scanned.place))) e)

    pub scan_back : p here ≡ true → {k : ℕ} → k ≡ key here → Scanned p key xs (set keys (i - 1) k) (i - 1)
    unfolding all
    scan_back e {k} q =
        let more = drop_back xs i d positive scanned.place in
        let w = set keys (i - 1) k in
        let long = length-set keys (i - 1) k in
        record {
          place = omega (arith, scanned.place);
          size = long ∙ scanned.size;
          passes = rw more (and_both e scanned.passes);
          keyed =
              drop_back w i 0 positive (omega (arith, scanned.place, scanned.size))
              ∙ ap (λ (ks : List ℕ). get_or w (i - 1) 0 ∷ ks) (drop-set keys (i - 1) i k (omega arith) ∙ scanned.keyed)
              ∙ ap (λ (n : ℕ). n ∷ map key (drop i xs)) (get_or-set_same keys (i - 1) k 0 (omega (arith, scanned.place, scanned.size)) ∙ q)
              ∙ ap (map key) (sym more);
        }

  pub scan_end : {keys : List ℕ} {i : ℕ} → i ≡ 0 → Scanned p key xs keys i → (all p xs ≡ true) × (keys ≡ map key xs)
  scan_end e s = (rw e at s.passes, rw e at s.keyed)
