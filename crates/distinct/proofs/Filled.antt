-- The arrays after the keys before place i: each bucket's head and each key's pointer are what `last` says.
use Rattle.base.{specs.Base.{ℕ, ◌+◌, ◌≤◌, ◌<◌, ◌≡◌, true, false, List, length, get_or, set, replicate}, proofs.Laws.{refl, get_or-replicate, sym, ◌∙◌, ap, ⊎_elim, arith, length-set, not_both, set_cases, eqb-true, refuted, and_left, and_right}}
use native.Mathlib.Numerals.{add-one}
use Rattle.distinct.proofs.Chains.{own_bucket, last_here, last_past, last_below, last_points, found_last}
use Rattle.distinct.specs.{Keys.is_key, Buckets.{buckets, held, bucket_of, in_bucket, found, last, Linked, Chain}}

pub record Filled (keys head next : List ℕ) (i : ℕ) : Type 0 where
  pub head_size : length head ≡ buckets
  pub next_size : length next ≡ held
  pub heads : (h : ℕ) → h < buckets → get_or head h 0 ≡ last keys h i
  pub linked : Linked keys next i

pub bucket_below : (k : ℕ) → bucket_of k < buckets
unfolding bucket_of
bucket_below k = omega arith

pub fill_none : (keys : List ℕ) → Filled keys (replicate buckets 0) (replicate held 0) 0
unfolding last
fill_none keys =
    record {
      head_size = refl;
      next_size = refl;
      heads = λ h b. get_or-replicate {A = ℕ} buckets h 0 0 b;
      linked = λ m b. absurd (let z : ⊥ = omega arith in z);
    }

module _ {keys head next : List ℕ} {i : ℕ} (filled : Filled keys head next i) where
  -- the chain of a key
  module _ (key : ℕ) (u : is_key key ≡ true) where
    head_is : get_or head (bucket_of key) 0 ≡ last keys (bucket_of key) i
    head_is = filled.heads (bucket_of key) (bucket_below key)

    pub chain : i ≤ length keys → i ≤ held → Chain keys next (get_or head (bucket_of key) 0) key
    chain a b =
        let l = last_below keys (bucket_of key) i in
        let e = head_is in
        record {
          counts = u;
          in_keys = omega arith;
          in_next = omega (arith, filled.next_size);
          points = rw e (last_points keys (bucket_of key) i);
          linked = λ m h. filled.linked m (omega arith);
        }

    pub chain_finds : found keys key (get_or head (bucket_of key) 0) ≡ found keys key i
    chain_finds = ap (found keys key) head_is ∙ found_last keys key i u

  abbrev here : ℕ
  here = get_or keys i 0

  -- a bucket that gets no key here keeps its last one
  kept : (h : ℕ) → (is_key here ≡ true → bucket_of here ≡ h → ⊥) → last keys h i ≡ last keys h (i + 1)
  kept h n =
      let other = refuted (in_bucket h here) (λ q. n (and_left (is_key here) _ q) (eqb-true (bucket_of here) h (and_right (is_key here) _ q))) in
      rw add-one (sym (last_past keys h i other))

  -- no key here
  pub fill_past : is_key here ≡ false → Filled keys head next (i + 1)
  fill_past n =
      record {
        head_size = filled.head_size;
        next_size = filled.next_size;
        heads = λ h b. filled.heads h b ∙ kept h (λ u _. not_both u n);
        linked = λ m b u. filled.linked m (let d : m ≡ i → ⊥ = λ e. not_both u (rw e n) in omega arith) u;
      }

  -- a key: it points to its bucket's head, which becomes its own place plus one
  pub fill_key : is_key here ≡ true → i < held
      → Filled keys (set head (bucket_of here) (i + 1)) (set next i (get_or head (bucket_of here) 0)) (i + 1)
  fill_key u b =
      let g = bucket_of here in
      let w = bucket_below here in
      record {
        head_size = length-set head g (i + 1) ∙ filled.head_size;
        next_size = length-set next i (get_or head g 0) ∙ filled.next_size;
        heads = λ h l.
            ⊎_elim (λ q. q.1 ∙ rw (add-one, q.0) (sym (last_here keys g i (own_bucket here u))))
            (λ q. q.1 ∙ filled.heads h l ∙ kept h (λ _ p. q.0 (sym p)))
            (set_cases head g h (i + 1) 0 (omega (arith, filled.head_size)));
        linked = λ m l v.
            ⊎_elim (λ q. q.1 ∙ filled.heads g w ∙ rw q.0)
            (λ q. q.1 ∙ filled.linked m (let d : m ≡ i → ⊥ = q.0 in omega arith) v)
            (set_cases next i m (get_or head g 0) 0 (omega (arith, filled.next_size)));
      }
