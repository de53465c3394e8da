-- One place of a list set.
use Prim.Native.Nat.{ℕ, zero, suc, ◌+◌, ◌<◌}
use lib.{ListN.{length, get_or, set}, Seq.{lt-length-set, set_out, get_or-set_same, get_or-set_other}}
use mathlib.Core.{Path.{◌≡◌, refl, sym, ◌∙◌, ap}, Bool.{Bool, true, false}, List.{List, [], ◌∷◌, map}, Logic.{◌⊎◌, inl, inr, ⊎_elim}}
use native.Mathlib.{Decide.{ℕ_discrete, dec_lt}, Omega.arith}
use Rattle.lists.proofs.{Tests.{not_both, one}, Count.count_add, Permutations.{perm_count, perm_set}}
use Rattle.lists.specs.Lists.{count}

-- what stands at place j when y is set at place i
abbrev pub SetAt : {A : Type 0} → List A → ℕ → ℕ → A → A → Type 0
SetAt xs i j y d = ((j ≡ i) × (get_or (set xs i y) j d ≡ y)) ⊎ ((j ≡ i → ⊥) × (get_or (set xs i y) j d ≡ get_or xs j d))

pub set_cases : {A : Type 0} (xs : List A) (i j : ℕ) (y d : A) → i < length xs → SetAt xs i j y d
set_cases xs i j y d b = go (ℕ_discrete j i)
  where
    go : Dec (j ≡ i) → SetAt xs i j y d
    go (yes e) = inl (e, ap (λ (k : ℕ). get_or (set xs i y) k d) e ∙ get_or-set_same xs i y d b)
    go (no n) = inr (n, get_or-set_other xs i j y d n)

module _ {A : Type 0} (d : A) where
  -- the new record, or what stood there, also where the place is past the end
  abbrev SetEither : List A → ℕ → ℕ → A → Type 0
  SetEither xs i j y = ((j ≡ i) × (get_or (set xs i y) j d ≡ y)) ⊎ (get_or (set xs i y) j d ≡ get_or xs j d)

  set_either : (xs : List A) (i j : ℕ) (y : A) → SetEither xs i j y
  set_either xs i j y =
      elim (dec_lt i (length xs)) [
        | yes b ↦ ⊎_elim inl (λ q. inr q.1) (set_cases xs i j y d b)
        | no n ↦ inr (ap (λ (ys : List A). get_or ys j d) (set_out xs i y (omega arith)))
      ]

  -- what holds of the new record at its place and held at every place holds at every place
  pub set_placed : (P : ℕ → A → Type 0) (xs : List A) (i : ℕ) (y : A) → P i y → ((j : ℕ) → P j (get_or xs j d))
      → (j : ℕ) → P j (get_or (set xs i y) j d)
  set_placed P xs i y new old j = ⊎_elim (λ q. rw (q.1, q.0) new) (λ q. rw q (old j)) (set_either xs i j y)

  pub set-each : (P : A → Type 0) (xs : List A) (i : ℕ) (y : A) → P y → ((j : ℕ) → P (get_or xs j d))
      → (j : ℕ) → P (get_or (set xs i y) j d)
  set-each P = set_placed (λ j. P)

  -- the same of two places, for what does not depend on their order
  pub set-pairs : (R : A → A → Type 0) → ((a b : A) → R a b → R b a) → (xs : List A) (i : ℕ) (y : A)
      → ((j : ℕ) → R y (get_or xs j d)) → ((j k : ℕ) → j < k → R (get_or xs j d) (get_or xs k d))
      → (j k : ℕ) → j < k → R (get_or (set xs i y) j d) (get_or (set xs i y) k d)
  set-pairs R turn xs i y new old j k l = go (set_either xs i j y) (set_either xs i k y)
    where
      go : SetEither xs i j y → SetEither xs i k y → R (get_or (set xs i y) j d) (get_or (set xs i y) k d)
      go (inl p) (inl q) = absurd (let z : ⊥ = omega (arith, p.0, q.0) in z)
      go (inl p) (inr q) = rw (p.1, q) (new k)
      go (inr p) (inl q) = rw (p, q.1) (turn y (get_or xs j d) (new j))
      go (inr p) (inr q) = rw (p, q) (old j k l)

module _ {A : Type 0} (xs : List A) (i : ℕ) (y d : A) (below : i < length xs) where
  -- how many pass: the place that failed the test may pass now
  pub count-gained : (p : A → Bool) → p (get_or xs i d) ≡ false → count p (set xs i y) ≡ count p xs + one (p y)
  count-gained p e =
      omega (
        arith,
        perm_count p (perm_set d xs i y below),
        count_add p (get_or xs i d) (set xs i y),
        count_add p y xs,
        ap one e,
      )

-- one of them passes: the record added, or one that passed before
pub one_before : {n : ℕ} {b : Bool} → n ≡ 1 → b ≡ false → n + one b ≡ 1
one_before {n} {b} e f = rw (e, f)

pub one_added : {n : ℕ} {b : Bool} → n ≡ 0 → b ≡ true → n + one b ≡ 1
one_added {n} {b} e f = rw (e, f)

-- a free slot of a table, of which a test says which are used
pub record FreeSlot {A : Type 0} (used : A → Bool) (d : A) (xs : List A) (k : ℕ) : Type 0 where
  pub below : k < length xs
  pub free : used (get_or xs k d) ≡ false

-- it is none of the used ones, so these stay when it is set, and another free slot stays free
module _ {A : Type 0} {used : A → Bool} {d : A} {xs : List A} {i : ℕ} (slot : FreeSlot used d xs i) where
  pub used_stays : (y : A) (j : ℕ) → used (get_or xs j d) ≡ true → get_or (set xs i y) j d ≡ get_or xs j d
  used_stays y j u =
      get_or-set_other xs i j y d (λ e. not_both u (ap (λ (k : ℕ). used (get_or xs k d)) e ∙ slot.free))

  pub free_stays : (y : A) (j : ℕ) → (i ≡ j → ⊥) → FreeSlot used d xs j → FreeSlot used d (set xs i y) j
  free_stays y j e other =
      record {
        below = lt-length-set xs i y other.below;
        free = ap used (get_or-set_other xs i j y d (λ q. e (sym q))) ∙ other.free;
      }

-- a list made from another
pub map-set : {A B : Type 0} (f : A → B) (xs : List A) (i : ℕ) (y : A) → map f (set xs i y) ≡ set (map f xs) i (f y)
map-set f [] i y = refl
map-set f (x ∷ xs) zero y = refl
map-set f (x ∷ xs) (suc i) y = rw (map-set f xs i y)
