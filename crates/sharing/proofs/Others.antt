-- An open against the share counts of its stream less its own part. These are the counts of all the other opens, also of
-- those equal to it; so where the counts are true, one of the opens fails the share check exactly when two of them conflict.
use Rattle.base.{specs.Base.{◌≡◌, Bool, true, false, not, List, ◌∷◌, all, any, keep, pairs, Permutation, terms_of, StreamNo, Open, ShareCounts}, proofs.Laws.{sym, ◌∙◌, ap, subst, all_not, any_same, any-keep, keep_yes, perm_keep, all_others}}
use mathlib.Core.Bool.{not-not}
use Rattle.sharing.proofs.{PairRule.{conflict_sym, conflicting_sym}, Counts.{all_counts_perm, all_counts_cons, added_removed, uncounted_nothing}, Check.all_check_right}
use Rattle.sharing.specs.{Sharing.{counted, conflict, conflicting, on_stream, any_conflict, counts_of_all, counts_of, share_check, without_open}, Others.others_check}

-- an uncounted open has no part, and fails nothing
pub uncounted_passes : (c : ShareCounts) (o : Open) → counted o.granted ≡ false
    → (without_open o c ≡ c) × (others_check c o ≡ false)
unfolding others_check share_check
uncounted_passes c o e = ((uncounted_nothing o c e).1, rw e)

-- one of a list of opens, and the rest
module _ {os : List Open} {o : Open} {rest : List Open} (one : Permutation os (o ∷ rest)) where
  -- the counts less its own part are those of the rest
  pub others_counts : without_open o (counts_of_all os) ≡ counts_of_all rest
  others_counts = ap (without_open o) (all_counts_perm one ∙ all_counts_cons o rest) ∙ added_removed o (counts_of_all rest)

  -- it fails exactly when one of the rest conflicts with it
  all_others_check : others_check (counts_of_all os) o ≡ any (λ q. conflict (terms_of q) (terms_of o)) rest
  unfolding others_check
  all_others_check = ap (λ (c : ShareCounts). share_check c (terms_of o)) others_counts ∙ all_check_right (terms_of o) rest

-- among the opens on a stream
pub others_check_one : (s : StreamNo) {os : List Open} {o : Open} {rest : List Open} → Permutation os (o ∷ rest)
    → on_stream s o ≡ true → others_check (counts_of s os) o ≡ any_conflict s (terms_of o) rest
unfolding counts_of any_conflict
others_check_one s {os} {o} {rest} one on =
    all_others_check (subst (Permutation (keep (on_stream s) os)) (keep_yes (on_stream s) o rest on) (perm_keep (on_stream s) one))
    ∙ any-keep (on_stream s) (λ q. conflict (terms_of q) (terms_of o)) rest

-- two opens don't conflict
abbrev pub agree : Open → Open → Bool
agree o q = not (conflicting o q)

agree_all : (o : Open) (os : List Open) → all (agree o) os ≡ not (any (λ q. conflict (terms_of q) (terms_of o)) os)
unfolding conflicting
agree_all o os = all_not (conflicting o) os ∙ ap not (any_same _ _ (λ q. conflict_sym (terms_of o) (terms_of q)) os)

-- where the counts of a stream are true, one of the opens on it fails exactly when two of them conflict
pub others_check_right : (s : StreamNo) (os : List Open) (c : ShareCounts) → c ≡ counts_of s os
    → any (others_check c) (keep (on_stream s) os) ≡ not (pairs agree (keep (on_stream s) os))
unfolding counts_of
others_check_right s os c counts-true =
    sym (not-not (any (others_check c) on))
    ∙ ap not
    (sym (all_not (others_check c) on)
    ∙ all_others agree (λ o q. ap not (conflicting_sym o q)) (λ o. not (others_check c o)) on
    (λ o rest one.
    ap not (ap (λ (d : ShareCounts). others_check d o) counts-true ∙ all_others_check one) ∙ sym (agree_all o rest)))
  where
    on : List Open
    on = keep (on_stream s) os
