-- The first place that passes, and the first element.
use Prim.Native.Nat.{ℕ, suc, ◌+◌, ◌≤◌, ◌<◌}
use lib.{ListN.{length, get_or, drop, drop_of_length-le, length-drop}, Seq.{drop-cons, get_or-drop}}
use mathlib.Core.{Path.{◌≡◌, refl, sym, ◌∙◌, ap}, Bool.{Bool, true, false, not, ◌&&◌, false≢true, and_comm}, List.{List, [], ◌∷◌, map}, Logic.◌↔◌, Option.{none, some, some-injective}}
use native.Mathlib.{Numerals.add-one, Omega.arith}
use Rattle.lists.proofs.{Tests.{none≢some, by_cases, and_left, and_right, refuted, excluded, or_neither}, Places.drop-map, Permutations.perm_pairs}
use Rattle.lists.specs.Lists.{all, any, keep, pairs, first_from, first, first_after, find, Permutation, nil, skip, swap, both}

-- a place that a search finds: from the start of the search on, below the length, and it passes
pub record Found {A : Type 0} (p : A → Bool) (xs : List A) (d : A) (n : ℕ) (k : ℕ) : Type 0 where
  pub from : n ≤ k
  pub below : k < length xs
  pub passes : p (get_or xs k d) ≡ true

module _ {A : Type 0} (p : A → Bool) where
  -- by the first element
  module _ (x : A) (xs : List A) (at : ℕ) where
    here : p x ≡ true → first_from p (x ∷ xs) at ≡ some at
    unfolding first_from
    here e = rw (e, first_from)

    next : p x ≡ false → first_from p (x ∷ xs) at ≡ first_from p xs (suc at)
    unfolding first_from
    next e = rw (e, first_from)

  module _ (d : A) where
    -- what is found stands at its place, counted from where the search starts
    from_found : (xs : List A) (at k : ℕ) → first_from p xs at ≡ some k → (j : ℕ) × (k ≡ at + j) × Found p xs d 0 j
    unfolding first_from
    from_found [] at k h = absurd (none≢some h)
    from_found (x ∷ xs) at k h =
        by_cases (p x)
        (λ e.
        let z = some-injective at k (sym (here x xs at e) ∙ h) in
        (0, omega arith, record { from = omega arith; below = omega arith; passes = e }))
        (λ e.
        let q = from_found xs (suc at) k (sym (next x xs at e) ∙ h) in (
          suc q.0,
          omega (arith, q.1),
          record { from = omega arith; below = omega (arith, q.2.below); passes = q.2.passes },
        ))

    pub after_found : (xs : List A) (n k : ℕ) → first_after p n xs ≡ some k → Found p xs d n k
    unfolding first_after
    after_found xs n k h =
        let q = from_found (drop n xs) n k h in
        let f = q.2 in
        record {
          from = omega (arith, q.1);
          below = omega (arith, q.1, f.below, length-drop n xs);
          passes = rw (q.1, ← get_or-drop n xs q.0 d) f.passes;
        }

  -- something is found exactly where something passes
  from-any : (xs : List A) (at : ℕ) → any p xs ≡ false → first_from p xs at ≡ none
  unfolding first_from any
  from-any [] at h = refl
  from-any (x ∷ xs) at h =
      let n = or_neither (p x) (any p xs) h in
      next x xs at n.0 ∙ from-any xs (suc at) n.1

  from_some : (xs : List A) (at : ℕ) → any p xs ≡ true → (k : ℕ) × (first_from p xs at ≡ some k)
  unfolding first_from any
  from_some [] at h = absurd (false≢true h)
  from_some (x ∷ xs) at h =
      by_cases (p x) (λ e. (at, here x xs at e))
      (λ e. let q = from_some xs (suc at) (rw e at h) in (q.0, next x xs at e ∙ q.1))

  pub found_iff : (xs : List A) → (any p xs ≡ true) ↔ ((k : ℕ) × (first p xs ≡ some k))
  unfolding first_after
  found_iff xs = (from_some xs 0, λ q. by_cases (any p xs) (λ e. e) (λ e. absurd (none≢some (sym (from-any xs 0 e) ∙ q.1))))

  pub none_iff : (xs : List A) → (any p xs ≡ false) ↔ (first p xs ≡ none)
  unfolding first_after
  none_iff xs = (from-any xs 0, λ h. refuted (any p xs) (λ e. none≢some (sym h ∙ (from_some xs 0 e).1)))

-- a search from place n on that has come to place i: what it finds is what the rest of the list gives
pub record Searching {A : Type 0} (p : A → Bool) (xs : List A) (n i : ℕ) : Type 0 where
  pub is : first_after p n xs ≡ first_from p (drop i xs) i

module _ {A : Type 0} {p : A → Bool} {xs : List A} {n : ℕ} where
  pub searching_begins : Searching p xs n n
  unfolding first_after
  searching_begins = record { is = refl }

  module _ {i : ℕ} (s : Searching p xs n i) where
    -- one turn
    module _ (d : A) (below : i < length xs) where
      pub searching_finds : p (get_or xs i d) ≡ true → first_after p n xs ≡ some i
      unfolding first_from
      searching_finds e = s.is ∙ rw (drop-cons xs i d below, first_from, e)

      pub searching_turns : p (get_or xs i d) ≡ false → Searching p xs n (i + 1)
      unfolding first_from
      searching_turns e = record { is = s.is ∙ rw (add-one, drop-cons xs i d below, first_from, e) }

    pub searching_ends : length xs ≤ i → first_after p n xs ≡ none
    unfolding first_from
    searching_ends h = s.is ∙ rw (drop_of_length-le xs h)

-- a list made from another
module _ {A B : Type 0} (f : A → B) (p : B → Bool) where
  from-map : (xs : List A) (at : ℕ) → first_from p (map f xs) at ≡ first_from (λ x. p (f x)) xs at
  unfolding first_from
  from-map [] at = refl
  from-map (x ∷ xs) at = by_cases (p (f x)) (λ e. rw (e, first_from)) (λ e. rw (e, first_from) (from-map xs (suc at)))

  pub after_map : (n : ℕ) (xs : List A) → first_after p n (map f xs) ≡ first_after (λ x. p (f x)) n xs
  unfolding first_after
  after_map n xs = rw drop-map (from-map (drop n xs) n)

-- the first element that passes
module _ {A : Type 0} (p : A → Bool) where
  module _ (x : A) (xs : List A) where
    pub find_here : p x ≡ true → find p (x ∷ xs) ≡ some x
    unfolding find
    find_here e = rw (e, find)

    pub find_next : p x ≡ false → find p (x ∷ xs) ≡ find p xs
    unfolding find
    find_next e = rw (e, find)

  -- it stands at the first place that passes
  find_from : (d : A) (xs : List A) (at : ℕ) (x : A) → find p xs ≡ some x
      → (k : ℕ) × (first_from p xs at ≡ some (at + k)) × (get_or xs k d ≡ x)
  unfolding find
  find_from d [] at x h = absurd (none≢some h)
  find_from d (y ∷ ys) at x h =
      by_cases (p y)
      (λ e. (0, here p y ys at e ∙ ap some (omega arith), some-injective y x (sym (find_here y ys e) ∙ h)))
      (λ e.
      let q = find_from d ys (suc at) x (sym (find_next y ys e) ∙ h) in
      (suc q.0, next p y ys at e ∙ q.1 ∙ ap some (omega arith), q.2))

  pub find_found : (d : A) (xs : List A) (x : A) → find p xs ≡ some x
      → (k : ℕ) × (first p xs ≡ some k) × (get_or xs k d ≡ x)
  unfolding first_after
  find_found d xs x h = let q = find_from d xs 0 x h in (q.0, q.1 ∙ ap some (omega arith), q.2)

  -- among those kept by a test that it passes
  pub find_keep : (used : A → Bool) → ((x : A) → p x ≡ true → used x ≡ true) → (xs : List A) → find p (keep used xs) ≡ find p xs
  unfolding find keep
  find_keep used i [] = refl
  find_keep used i (x ∷ xs) =
      by_cases (p x) (λ e. rw (i x e, e, find))
      (λ e. by_cases (used x) (λ u. rw (u, e, find, find_keep used i xs)) (λ u. rw (u, e, find, find_keep used i xs)))

  -- no two pass: the order does not matter
  abbrev pub apart : A → A → Bool
  apart x y = not (p x && p y)

  pub perm_apart : {xs ys : List A} → Permutation xs ys → pairs apart xs ≡ pairs apart ys
  perm_apart q = perm_pairs apart (λ x y. ap not (and_comm (p x) (p y))) q

  pub perm_find : {xs ys : List A} → Permutation xs ys → pairs apart xs ≡ true → find p xs ≡ find p ys
  unfolding find pairs all
  perm_find nil h = refl
  perm_find (skip x {xs} {ys} q) h =
      by_cases (p x) (λ e. rw (e, find)) (λ e. rw (e, find, perm_find q (and_right (all (apart x) xs) (pairs apart xs) h)))
  perm_find (swap x y xs) h =
      by_cases (p x)
      (λ e. rw (find, excluded (p x) (p y) (and_left (apart x y) (all (apart x) xs) (and_left (all (apart x) (y ∷ xs)) (pairs apart (y ∷ xs)) h)) e, e))
      (λ e. by_cases (p y) (λ f. rw (e, f, find)) (λ f. rw (e, f, find, e)))
  perm_find (both q r) h = perm_find q h ∙ perm_find r (sym (perm_apart q) ∙ h)
