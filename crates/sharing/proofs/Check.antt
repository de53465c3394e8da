-- The share check from the counts of a list of opens is the comparison of the new open with each of them.
use Rattle.base.{specs.Base.{ℕ, ◌≡◌, Bool, true, false, not, ◌&&◌, ◌||◌, List, eqb, ltb, any, keep, Permutation, Terms, terms_of, StreamNo, Open}, proofs.Laws.{refl, sym, ◌∙◌, ap, ap₂, and_left, any_same, any_or, any_and, count_some, count_fewer, any-keep, perm_any}}
use mathlib.Core.Bool.{and_comm, and-false, or_comm}
use Rattle.sharing.proofs.{PairRule.any_kind_same, Counts.{opens_of, holders_of, sharers_of}}
use Rattle.sharing.specs.Sharing.{Kind, reading, writing, deleting, any_kind, holds, shares, counted, conflict, on_stream, any_conflict, is_holder, is_sharer, counts_of_all, counts_of, holders, sharers, share_check}

pub any_conflict_perm : {xs ys : List Open} → Permutation xs ys → (s : StreamNo) (t : Terms)
    → any_conflict s t xs ≡ any_conflict s t ys
unfolding any_conflict
any_conflict_perm h s t = perm_any _ h

-- some element passes for some kind
any_any_kind : {A : Type 0} (p : Kind → A → Bool) (xs : List A)
    → any (λ x. any_kind (λ k. p k x)) xs ≡ any_kind (λ k. any (p k) xs)
unfolding any_kind
any_any_kind p xs =
    any_or (λ x. p reading x || p writing x) (p deleting) xs
    ∙ ap (λ (b : Bool). b || any (p deleting) xs) (any_or (p reading) (p writing) xs)

module _ (t : Terms) where
  -- a counted open conflicts with the new one over a kind: it doesn't share it, or it holds it
  over : Kind → Open → Bool
  over k o = (holds k t.granted && (counted o.granted && not (is_sharer k o))) || (not (shares k t.share) && is_holder k o)

  -- the pair rule, by kinds
  conflict_over : (o : Open) → conflict (terms_of o) t ≡ (counted t.granted && any_kind (λ k. over k o))
  unfolding conflict any_kind over is_sharer is_holder
  conflict_over o = go (counted o.granted) (counted t.granted)
    where
      none : (a b : Bool) → false ≡ ((a && false) || (b && false))
      none a b = rw (and-false a, and-false b)

      turned : (a b c d : Bool) → ((a && b) || (c && d)) ≡ ((c && d) || (b && a))
      turned a b c d = or_comm (a && b) (c && d) ∙ ap (λ (x : Bool). (c && d) || x) (and_comm a b)

      go : (c g : Bool)
          → ((c && g)
          && any_kind (λ k. (holds k o.granted && not (shares k t.share)) || (holds k t.granted && not (shares k o.share))))
          ≡ (g
          && any_kind (λ k. (holds k t.granted && (c && not (c && shares k o.share)))
          || (not (shares k t.share) && (c && holds k o.granted))))
      go true true =
          any_kind_same _ _
          (λ k. turned (holds k o.granted) (not (shares k t.share)) (holds k t.granted) (not (shares k o.share)))
      go true false = refl
      go false true = any_kind_same (λ k. false) _ (λ k. none (holds k t.granted) (not (shares k t.share)))
      go false false = refl

  -- from the counts, kind by kind
  over_count : (os : List Open) (k : Kind)
      → ((holds k t.granted && ltb (sharers k (counts_of_all os)) (counts_of_all os).opens)
      || (not (shares k t.share) && not (eqb (holders k (counts_of_all os)) 0)))
      ≡ any (over k) os
  unfolding over is_sharer
  over_count os k =
      ap₂ (λ (a b : Bool). (holds k t.granted && a) || (not (shares k t.share) && b))
      (ap₂ ltb (sharers_of os k) (opens_of os)
      ∙ count_fewer is_counted (is_sharer k) (λ o. and_left (is_counted o) (shares k o.share)) os)
      (ap (λ (n : ℕ). not (eqb n 0)) (holders_of os k) ∙ count_some (is_holder k) os)
      ∙ sym
      (any_or (λ o. holds k t.granted && (is_counted o && not (is_sharer k o)))
      (λ o. not (shares k t.share) && is_holder k o) os
      ∙ ap₂ (λ (a b : Bool). a || b) (any_and (holds k t.granted) (λ o. is_counted o && not (is_sharer k o)) os)
      (any_and (not (shares k t.share)) (is_holder k) os))
    where
      is_counted : Open → Bool
      is_counted o = counted o.granted

  pub all_check_right : (os : List Open)
      → share_check (counts_of_all os) t ≡ any (λ o. conflict (terms_of o) t) os
  unfolding share_check
  all_check_right os =
      ap (λ (b : Bool). counted t.granted && b) (any_kind_same _ _ (over_count os) ∙ sym (any_any_kind over os))
      ∙ sym (any_and (counted t.granted) (λ o. any_kind (λ k. over k o)) os)
      ∙ sym (any_same _ _ conflict_over os)

-- the share check from true counts
pub share_check_right_lem : (s : StreamNo) (os : List Open) (t : Terms)
    → share_check (counts_of s os) t ≡ any_conflict s t os
unfolding counts_of any_conflict
share_check_right_lem s os t =
    all_check_right t (keep (on_stream s) os)
    ∙ any-keep (on_stream s) (λ o. conflict (terms_of o) t) os
