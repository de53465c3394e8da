-- The share counts of a list of opens: in any order, with one open more, with one less, and how large they are.
use Rattle.base.{specs.Base.{ℕ, ◌+◌, ◌-◌, ◌≤◌, ◌≡◌, Bool, true, false, cond, List, ◌∷◌, length, any, count, keep, Permutation, zero_counts, StreamNo, Open, ShareCounts}, proofs.Laws.{refl, sym, ◌∙◌, ap, arith, count_add, count_bound, keep_yes, keep_no, keep_none, length-keep, perm_keep, perm_count}}
use Rattle.sharing.specs.Sharing.{Kind, reading, writing, deleting, counted, is_holder, is_sharer, on_stream, counts_of_all, counts_of, holders, sharers, changed_by, with_open, without_open}

-- counts are equal where the opens are, and each kind's holders and sharers
pub same-counts : (c c' : ShareCounts) → c.opens ≡ c'.opens → ((k : Kind) → holders k c ≡ holders k c')
    → ((k : Kind) → sharers k c ≡ sharers k c') → c ≡ c'
unfolding holders sharers
same-counts c c' e h s =
    λ i. record {
      opens = e i;
      readers = h reading i;
      writers = h writing i;
      deleters = h deleting i;
      shared_read = s reading i;
      shared_write = s writing i;
      shared_delete = s deleting i;
    }

module _ (os : List Open) where
  pub opens_of : (counts_of_all os).opens ≡ count (λ o. counted o.granted) os
  unfolding counts_of_all
  opens_of = refl

  pub holders_of : (k : Kind) → holders k (counts_of_all os) ≡ count (is_holder k) os
  unfolding holders counts_of_all
  holders_of reading = refl
  holders_of writing = refl
  holders_of deleting = refl

  pub sharers_of : (k : Kind) → sharers k (counts_of_all os) ≡ count (is_sharer k) os
  unfolding sharers counts_of_all
  sharers_of reading = refl
  sharers_of writing = refl
  sharers_of deleting = refl

module _ (◌⊕◌ : ℕ → ℕ → ℕ) (o : Open) (c : ShareCounts) where
  pub opens_changed : (changed_by ◌⊕◌ o c).opens ≡ (◌⊕◌ c.opens (cond (counted o.granted) 1 0))
  unfolding changed_by
  opens_changed = refl

  pub holders-changed : (k : Kind) → holders k (changed_by ◌⊕◌ o c) ≡ (◌⊕◌ (holders k c) (cond (is_holder k o) 1 0))
  unfolding holders changed_by
  holders-changed reading = refl
  holders-changed writing = refl
  holders-changed deleting = refl

  pub sharers-changed : (k : Kind) → sharers k (changed_by ◌⊕◌ o c) ≡ (◌⊕◌ (sharers k c) (cond (is_sharer k o) 1 0))
  unfolding sharers changed_by
  sharers-changed reading = refl
  sharers-changed writing = refl
  sharers-changed deleting = refl

-- the order doesn't matter
pub all_counts_perm : {xs ys : List Open} → Permutation xs ys → counts_of_all xs ≡ counts_of_all ys
all_counts_perm {xs} {ys} h =
    same-counts (counts_of_all xs) (counts_of_all ys) (opens_of xs ∙ perm_count _ h ∙ sym (opens_of ys))
    (λ k. holders_of xs k ∙ perm_count _ h ∙ sym (holders_of ys k))
    (λ k. sharers_of xs k ∙ perm_count _ h ∙ sym (sharers_of ys k))

pub counts_perm : {xs ys : List Open} → Permutation xs ys → (s : StreamNo) → counts_of s xs ≡ counts_of s ys
unfolding counts_of
counts_perm h s = all_counts_perm (perm_keep (on_stream s) h)

-- one open more
pub all_counts_cons : (o : Open) (os : List Open) → counts_of_all (o ∷ os) ≡ with_open o (counts_of_all os)
unfolding with_open
all_counts_cons o os =
    same-counts (counts_of_all (o ∷ os)) (changed_by ◌+◌ o c)
    (opens_of (o ∷ os) ∙ more (λ p. counted p.granted) (opens_of os) ∙ sym (opens_changed ◌+◌ o c))
    (λ k. holders_of (o ∷ os) k ∙ more (is_holder k) (holders_of os k) ∙ sym (holders-changed ◌+◌ o c k))
    (λ k. sharers_of (o ∷ os) k ∙ more (is_sharer k) (sharers_of os k) ∙ sym (sharers-changed ◌+◌ o c k))
  where
    c : ShareCounts
    c = counts_of_all os

    more : (p : Open → Bool) {n : ℕ} → n ≡ count p os → count p (o ∷ os) ≡ n + cond (p o) 1 0
    more p e = count_add p o os ∙ ap (λ (m : ℕ). m + cond (p o) 1 0) (sym e)

pub counts_cons : (s : StreamNo) (o : Open) (os : List Open) → on_stream s o ≡ true
    → counts_of s (o ∷ os) ≡ with_open o (counts_of s os)
unfolding counts_of
counts_cons s o os e = ap counts_of_all (keep_yes (on_stream s) o os e) ∙ all_counts_cons o (keep (on_stream s) os)

pub counts_skip : (s : StreamNo) (o : Open) (os : List Open) → on_stream s o ≡ false → counts_of s (o ∷ os) ≡ counts_of s os
unfolding counts_of
counts_skip s o os e = ap counts_of_all (keep_no (on_stream s) o os e)

-- no open on the stream
pub counts_none : (s : StreamNo) (os : List Open) → any (on_stream s) os ≡ false → counts_of s os ≡ zero_counts
unfolding counts_of counts_of_all count
counts_none s os h = ap counts_of_all (keep_none (on_stream s) os h)

-- one open less: what was added goes
pub added_removed : (o : Open) (c : ShareCounts) → without_open o (with_open o c) ≡ c
unfolding with_open without_open
added_removed o c =
    same-counts (changed_by ◌-◌ o (changed_by ◌+◌ o c)) c
    (omega (arith, opens_changed ◌-◌ o (changed_by ◌+◌ o c), opens_changed ◌+◌ o c))
    (λ k. omega (arith, holders-changed ◌-◌ o (changed_by ◌+◌ o c) k, holders-changed ◌+◌ o c k))
    (λ k. omega (arith, sharers-changed ◌-◌ o (changed_by ◌+◌ o c) k, sharers-changed ◌+◌ o c k))

pub counts_less : (s : StreamNo) (o : Open) (os : List Open) → on_stream s o ≡ true
    → without_open o (counts_of s (o ∷ os)) ≡ counts_of s os
counts_less s o os e = ap (without_open o) (counts_cons s o os e) ∙ added_removed o (counts_of s os)

-- an uncounted open changes nothing
module _ (◌⊕◌ : ℕ → ℕ → ℕ) (same : (n : ℕ) → (◌⊕◌ n 0) ≡ n) where
  none_changed : (o : Open) (c : ShareCounts) → counted o.granted ≡ false → changed_by ◌⊕◌ o c ≡ c
  unfolding is_holder is_sharer
  none_changed o c e =
      same-counts (changed_by ◌⊕◌ o c) c (opens_changed ◌⊕◌ o c ∙ rw e (same c.opens))
      (λ k. holders-changed ◌⊕◌ o c k ∙ rw e (same (holders k c)))
      (λ k. sharers-changed ◌⊕◌ o c k ∙ rw e (same (sharers k c)))

pub uncounted_nothing : (o : Open) (c : ShareCounts) → counted o.granted ≡ false
    → (with_open o c ≡ c) × (without_open o c ≡ c)
unfolding with_open without_open
uncounted_nothing o c e =
    (none_changed ◌+◌ (λ n. omega arith) o c e, none_changed ◌-◌ (λ n. omega arith) o c e)

-- each of the seven counts is at most n
pub record AtMost (n : ℕ) (c : ShareCounts) : Type 0 where
  pub opens : c.opens ≤ n
  pub holders : (k : Kind) → holders k c ≤ n
  pub sharers : (k : Kind) → sharers k c ≤ n

pub counts_bound : (s : StreamNo) (os : List Open) → AtMost (length os) (counts_of s os)
unfolding counts_of
counts_bound s os =
    record {
      opens = omega (arith, opens_of kept, count_bound (λ o. counted o.granted) kept, shorter);
      holders = λ k. omega (arith, holders_of kept k, count_bound (is_holder k) kept, shorter);
      sharers = λ k. omega (arith, sharers_of kept k, count_bound (is_sharer k) kept, shorter);
    }
  where
    kept : List Open
    kept = keep (on_stream s) os

    shorter : length kept ≤ length os
    shorter = omega (arith, length-keep (on_stream s) os, count_bound (on_stream s) os)
