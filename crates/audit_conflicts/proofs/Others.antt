-- Where the opens are good and the counts of the streams true, the walk's test is that no two opens of one stream conflict.
use Rattle.base.{specs.Base.{ℕ, ◌<◌, ◌≡◌, Bool, true, false, not, ◌&&◌, List, ◌∷◌, eqb, leb, map, length, all, any, Permutation, open_used, bare, zero_open, terms_of, Stream, Open, ShareCounts}, proofs.Laws.{refl, sym, ◌∙◌, ap, ap₂, arith, length-map, eq-eqb, eqb_swap, lt-leb, or_neither, all_not, any_same, none_kept_of, perm_any, all_others}}
use borrow.Author.Tests.{leb-false}
use Rattle.consistency.{specs.{Good.opens_agree, Consistent.open_at, Test.{opens_test, counts_test, conflicts_test}}, proofs.{Streams.stream_in, Opens.{agree_swap, opens_iff}, Counts.counts_iff}}
use Rattle.sharing.{specs.{Sharing.{conflicting, on_stream, any_conflict}, Others.others_check}, proofs.{PairRule.conflict_sym, Others.others_check_one}}
use Rattle.tables.specs.Tables.{live}
use Rattle.audit_conflicts.specs.Others.{agrees_with_others, others_test}

-- an open agrees with all of a list: none there on its stream conflicts with it
agree_all : (o : Open) (os : List Open) → all (opens_agree o) os ≡ not (any_conflict o.stream (terms_of o) os)
unfolding opens_agree any_conflict on_stream conflicting
agree_all o os =
    all_not (λ q. eqb o.stream.0 q.stream.0 && conflicting o q) os
    ∙ ap not
    (any_same _ _
    (λ q.
    ap₂ (λ (a b : Bool). a && b) (eqb_swap o.stream.0 q.stream.0) (conflict_sym (terms_of o) (terms_of q))) os)

module _ (ss : List Stream) (next : ℕ) (os : List Open) (good : opens_test (map bare ss) next os ≡ true)
    (counts-true : counts_test ss os ≡ true) where
  -- a live open names a slot of the streams
  names_slot : (o : Open) (rest : List Open) → Permutation (live os) (o ∷ rest) → o.stream.0 < length ss
  unfolding live any
  names_slot o rest one =
      leb-false (length ss) o.stream.0 (or_neither (past o) (any past rest) (sym (perm_any past one) ∙ none)).0
    where
      past : Open → Bool
      past q = leb (length ss) q.stream.0

      none : any past (live os) ≡ false
      none =
          none_kept_of open_used past zero_open os
          (λ i u.
          let s = (open_at os i).stream in
          let used = (((opens_iff (map bare ss) next os).0 good).slots.used_good i u).names_used_stream in
          lt-leb (length ss) s.0 (omega (arith, stream_in (map bare ss) s used, length-map ss bare)))

  -- it passes exactly when it agrees with each of the others
  passes : (o : Open) (rest : List Open) → Permutation (live os) (o ∷ rest) → agrees_with_others ss o ≡ all (opens_agree o) rest
  unfolding on_stream
  passes o rest one =
      ap not
      (ap (λ (c : ShareCounts). others_check c o) ((counts_iff ss os).0 counts-true o.stream (names_slot o rest one))
      ∙ others_check_one o.stream one (eq-eqb o.stream.0 o.stream.0 refl))
      ∙ sym (agree_all o rest)

  -- the walk decides whether two conflict
  pub others_decide : others_test ss os ≡ conflicts_test os
  unfolding others_test conflicts_test
  others_decide = all_others opens_agree agree_swap (agrees_with_others ss) (live os) passes
