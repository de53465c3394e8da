-- Noted by key in one pass: a table has for each key what the elements passed so far say of it. An element that passes a
-- test says something of its own key alone, so that one more element changes the table at its key, if at all.
use Prim.Native.Nat.{ℕ, ◌-◌, ◌≤◌, ◌<◌}
use borrow.Author.Tests.{eq-eqb, ne_eqb}
use lib.{Dec.eqb, ListN.{length, get_or, set, drop}}
use mathlib.Core.{Path.{◌≡◌, refl, sym, ◌∙◌, ap}, Bool.{Bool, true, false, ◌&&◌, and-false}, List.{List, ◌∷◌}, Logic.{◌⊎◌, ⊎_elim}}
use native.Mathlib.Omega.{arith}
use Rattle.lists.proofs.{Tests.and_both, Places.drop_back, Set.set_cases}

-- `table` has at each of `size` keys what is said of it
abbrev pub Noted : {T : Type 0} → T → ℕ → List T → (ℕ → T) → Type 0
Noted d size table said = (n : ℕ) → n < size → get_or table n d ≡ said n

module _ {A : Type 0} (key : A → ℕ) (used : A → Bool) where
  -- an element that passes, with the key n
  abbrev pub keyed : ℕ → A → Bool
  keyed n x = used x && eqb (key x) n

  pub keyed_own : (x : A) → used x ≡ true → keyed (key x) x ≡ true
  keyed_own x u = and_both u (eq-eqb (key x) (key x) refl)

  -- one element x more: `before` is said without it, `after` with it
  module _ (x : A) {T : Type 0} (d : T) (size : ℕ) (table : List T) (before after : ℕ → T)
      (other : (n : ℕ) → keyed n x ≡ false → after n ≡ before n) (noted : Noted d size table before) where
    same_after : (n : ℕ) → (n ≡ key x → ⊥) → after n ≡ before n
    same_after n e = other n (rw (ne_eqb (key x) n (λ q. e (sym q))) (and-false (used x)))

    -- it fails, or its key is past the end
    noted_skip : (used x ≡ false) ⊎ (size ≤ key x) → Noted d size table after
    noted_skip w n b =
        noted n b ∙ sym (⊎_elim (λ u. other n (rw u)) (λ e. same_after n (λ q. let z : ⊥ = omega arith in z)) w)

    -- what is said of its key with it is written there
    noted_set : length table ≡ size → key x < size → (y : T) → y ≡ after (key x) → Noted d size (set table (key x) y) after
    noted_set l k y e n b =
        ⊎_elim (λ q. q.1 ∙ e ∙ ap after (sym q.0)) (λ q. q.1 ∙ noted n b ∙ sym (same_after n q.0))
        (set_cases table (key x) n y d (omega arith))

  -- a pass from the back, by what a list says of a key: an element in front that hasn't the key says nothing of it
  module _ {T : Type 0} (what : ℕ → List A → T)
      (other : (n : ℕ) (x : A) (ys : List A) → keyed n x ≡ false → what n (x ∷ ys) ≡ what n ys)
      (xs : List A) (i : ℕ) (e : A) (positive : 0 < i) (inside : i ≤ length xs)
      (d : T) (size : ℕ) (table : List T) (noted : Noted d size table (λ n. what n (drop i xs))) where
    abbrev here : A
    here = get_or xs (i - 1) e

    same_back : (n : ℕ) → keyed n here ≡ false → what n (drop (i - 1) xs) ≡ what n (drop i xs)
    same_back n f = ap (what n) (drop_back xs i e positive inside) ∙ other n here (drop i xs) f

    pub back_skip : (used here ≡ false) ⊎ (size ≤ key here) → Noted d size table (λ n. what n (drop (i - 1) xs))
    back_skip = noted_skip here d size table _ (λ n. what n (drop (i - 1) xs)) same_back noted

    pub back_set : length table ≡ size → key here < size → (y : T) → y ≡ what (key here) (here ∷ drop i xs)
        → Noted d size (set table (key here) y) (λ n. what n (drop (i - 1) xs))
    back_set l k y f =
        noted_set here d size table _ (λ n. what n (drop (i - 1) xs)) same_back noted l k y
        (f ∙ ap (what (key here)) (sym (drop_back xs i e positive inside)))
