-- An open joins the table: it takes the lowest free slot.
use Rattle.base.{specs.Base.{◌<◌, ◌≤◌, suc, ℕ, Permutation, any, BareStream, open_used, zero_open, Terms, terms_of, Handle, Open, StreamNo, length, set, ◌&&◌, false, not, true, List, ◌∷◌, Option, ◌≡◌}, proofs.Laws.{excluded, not_both, not_is, none_kept_at, after_found, found_iff, keep_set_in, eq-eqb, ne_eqb, not-true, ◌∙◌, ap, refl, sym, arith}}
use Rattle.consistency.specs.Consistent.{NoConflicts, OpensConsistent, open_at}
use Rattle.sharing.{proofs.PairRule.conflicting_sym, specs.Sharing.{any_conflict, conflict, conflicting, on_stream}}
use Rattle.tables.specs.Tables.{live}
use Rattle.store.proofs.Sequences.{Facts.Joins, Opens.Table.{conflicts-set, replaced}}
use Rattle.store.specs.Store.{rows_with_open, stored}

-- the slot that an open takes
pub record Taken (o : Open) (os : List Open) : Type 0 where
  pub slot : ℕ
  pub below : slot < length os
  pub free : open_used (open_at os slot) ≡ false
  pub rows : rows_with_open o os ≡ set os slot o

pub taken : (o : Open) (os : List Open) → any (λ q. not (open_used q)) os ≡ true → Taken o os
unfolding rows_with_open stored
taken o os h =
    let s = (found_iff (λ q. not (open_used q)) os).0 h in
    let f = after_found (λ q. not (open_used q)) zero_open os 0 s.0 s.1 in
    record {
      slot = s.0;
      below = f.below;
      free = not-true (open_used (open_at os s.0)) f.passes;
      rows = ap (λ (i : Option ℕ). stored o i os) s.1;
    }

-- no live open on the stream conflicts
pub no_conflict_at : (s : StreamNo) (t : Terms) (os : List Open) → any_conflict s t (live os) ≡ false
    → (i : ℕ) → open_used (open_at os i) ≡ true → (open_at os i).stream ≡ s → conflict (terms_of (open_at os i)) t ≡ false
unfolding any_conflict live open_used on_stream
no_conflict_at s t os h i u e =
    excluded (on_stream s (open_at os i)) _
    (not_is (none_kept_at open_used (λ q. on_stream s q && conflict (terms_of q) t) zero_open refl os h i u))
    (eq-eqb (open_at os i).stream.0 s.0 (ap (λ (n : StreamNo). n.0) e))

-- it has a handle
pub joins_used : {ss : List BareStream} {next : ℕ} {o : Open} → Joins ss next o → 1 ≤ next → open_used o ≡ true
unfolding open_used
joins_used {ss} {next} {o} j l = not_is (ne_eqb o.handle.0 0 (λ z. let w : ⊥ = omega (arith, j.handle) in w))

-- the other opens have lower handles
pub joined : {ss : List BareStream} {next : ℕ} {os : List Open} {o : Open} → OpensConsistent ss next os → Joins ss next o
    → any (λ q. not (open_used q)) os ≡ true
    → OpensConsistent ss (suc next) (rows_with_open o os)
joined {ss} {next} {os} {o} c j r =
    let t = taken o os r in
    rw t.rows
    (replaced c (omega arith) t.slot o (λ z. absurd (not_both (joins_used j c.next_at_least) z)) (λ u. j.good)
    (λ i w u e. let z : ⊥ = omega (arith, ap (λ (h : Handle). h.0) e, j.handle, (c.slots.used_good i u).handle_below) in z))

pub conflicts-joined : (o : Open) (os : List Open) → NoConflicts os
    → any_conflict o.stream (terms_of o) (live os) ≡ false
    → any (λ q. not (open_used q)) os ≡ true
    → NoConflicts (rows_with_open o os)
unfolding conflicting
conflicts-joined o os c n r =
    let t = taken o os r in
    rw t.rows
    (conflicts-set os c t.slot o
    (λ i w u e. conflicting_sym o (open_at os i) ∙ no_conflict_at o.stream (terms_of o) os n i u (sym e)))

pub joined-live : (o : Open) (os : List Open) → any (λ q. not (open_used q)) os ≡ true → open_used o ≡ true
    → Permutation (live (rows_with_open o os)) (o ∷ live os)
unfolding live
joined-live o os r u =
    let t = taken o os r in
    rw t.rows (keep_set_in open_used zero_open os t.slot o t.below t.free u)
