-- A handle among the opens: the one that has it, and the opens that are left when that one goes.
use Rattle.base.{specs.Base.{◌<◌, ℕ, Permutation, all, any, both, find, first, keep, pairs, BareStream, open_used, zero_open, Handle, Open, eqb, length, set, false, not, true, List, ◌∷◌, Option, some, ◌≡◌}, proofs.Laws.{refuted, excluded, and_left, and_right, not_is, not_isn't, all_at, none_of, keep_no, keep_others, pairs_keep_of, after_found, apart, find_found, perm_eq, perm_keep, perm_sym, eqb-true, ◌∙◌, ap, subst, sym}}
use Rattle.consistency.{proofs.Numbered.same_handle, specs.Consistent.{OpensConsistent, open_at}}
use Rattle.tables.specs.Tables.{live}
use Rattle.store.specs.Store.{has_handle, rows_without_open, stored}

pub handle_used : (h : Handle) (o : Open) → has_handle h o ≡ true → open_used o ≡ true
unfolding has_handle
handle_used h o e = and_left (open_used o) (eqb o.handle.0 h.0) e

pub handle_is : (h : Handle) (o : Open) → has_handle h o ≡ true → o.handle ≡ h
unfolding has_handle
handle_is h o e = same_handle o.handle h (eqb-true o.handle.0 h.0 (and_right (open_used o) (eqb o.handle.0 h.0) e))

-- no two live opens have it
pub one_handle : {ss : List BareStream} {next : ℕ} {os : List Open} (h : Handle) → OpensConsistent ss next os
    → pairs (apart (has_handle h)) (live os) ≡ true
unfolding live
one_handle {ss} {next} {os} h c =
    pairs_keep_of open_used (apart (has_handle h)) zero_open os
    (λ i j b l u w.
    not_is
    (refuted _
    (λ e.
    let o = open_at os i in
    let q = open_at os j in
    c.handles_differ i j b u w
    (handle_is h o (and_left (has_handle h o) (has_handle h q) e) ∙ sym (handle_is h q (and_right (has_handle h o) (has_handle h q) e))))))

-- an open has the handle, and no other of the opens does: the others are those that don't have it
pub others_kept : (h : Handle) (o : Open) (rest : List Open) {es : List Open} → Permutation es (o ∷ rest) → has_handle h o ≡ true
    → pairs (apart (has_handle h)) (o ∷ rest) ≡ true → Permutation rest (keep (λ q. not (has_handle h q)) es)
unfolding pairs
others_kept h o rest {es} p e d =
    perm_sym (both (perm_keep (λ q. not (has_handle h q)) p)
    (perm_eq (keep_no (λ q. not (has_handle h q)) o rest (not_isn't e) ∙ keep_others (has_handle h) rest none)))
  where
    none : any (has_handle h) rest ≡ false
    none =
        none_of (has_handle h) zero_open rest
        (λ i b.
        excluded (has_handle h o) _
        (all_at (apart (has_handle h) o) zero_open rest (and_left (all (apart (has_handle h) o) rest) (pairs (apart (has_handle h)) rest) d) i b)
        e)

-- the slot that a close frees
pub record Struck (h : Handle) (o : Open) (os : List Open) : Type 0 where
  pub slot : ℕ
  pub below : slot < length os
  pub there : open_at os slot ≡ o
  pub has : has_handle h o ≡ true
  pub rows : rows_without_open o os ≡ set os slot zero_open

pub struck : (h : Handle) (o : Open) (os : List Open) → find (has_handle h) os ≡ some o → Struck h o os
unfolding rows_without_open stored
struck h o os e =
    let q = find_found (has_handle h) zero_open os o e in
    let f = after_found (has_handle h) zero_open os 0 q.0 q.1 in
    let has = subst (λ (x : Open). has_handle h x ≡ true) q.2 f.passes in
    record {
      slot = q.0;
      below = f.below;
      there = q.2;
      has = has;
      rows = ap (λ (k : Handle). stored zero_open (first (has_handle k) os) os) (handle_is h o has) ∙ ap (λ (i : Option ℕ). stored zero_open i os) q.1;
    }
