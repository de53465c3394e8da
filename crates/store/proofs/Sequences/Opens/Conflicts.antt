-- When no open of a list conflicts: sharing more makes no conflict, and a file without opens has none.
use Rattle.base.{specs.Base.{ℕ, ◌≡◌, Bool, true, false, not, ◌&&◌, ◌||◌, List, bit_or, StreamNo, Open, Terms, terms_of}, proofs.Laws.{refl, ap₂, true≢false, or_neither, none_too}}
use Rattle.bits.proofs.Sets.{has_or}
use Rattle.sharing.specs.Sharing.{Kind, reading, writing, deleting, share_bit, any_kind, holds, shares, counted, conflict, on_stream, any_conflict}

and_none : (a : Bool) {b c : Bool} → (b ≡ false → c ≡ false) → (a && b) ≡ false → (a && c) ≡ false
and_none true i h = i h
and_none false i h = refl

no_kind : (p q : Kind → Bool) → ((k : Kind) → p k ≡ false → q k ≡ false) → any_kind p ≡ false → any_kind q ≡ false
unfolding any_kind
no_kind p q i h =
    let r = or_neither (p reading || p writing) (p deleting) h in
    let s = or_neither (p reading) (p writing) r.0 in
    ap₂ (λ (a b : Bool). a || b)
    (ap₂ (λ (a b : Bool). a || b) (i reading s.0) (i writing s.1))
    (i deleting r.1)

module _ (more : ℕ) where
  -- over a kind: h that the other holds it, s that this one shares it, x the rest of the pair rule
  over_more : (h s m x : Bool) → ((h && not s) || x) ≡ false → ((h && not (s || m)) || x) ≡ false
  over_more true true m x e = e
  over_more true false m x e = absurd (true≢false e)
  over_more false s m x e = e

  shares_more : (k : Kind) (share : ℕ) → shares k (bit_or share more) ≡ (shares k share || shares k more)
  unfolding shares
  shares_more k share = has_or share more (share_bit k)

  conflict_more : (t u : Terms) → conflict t u ≡ false
      → conflict t (record { granted = u.granted; share = bit_or u.share more }) ≡ false
  unfolding conflict
  conflict_more t u =
      and_none (counted t.granted && counted u.granted)
      (no_kind _ _
      (λ k e.
      rw (shares_more k u.share)
      (over_more (holds k t.granted) (shares k u.share) (shares k more) (holds k u.granted && not (shares k t.share)) e)))

  -- an open that shares more conflicts with no more
  pub share_more : (s : StreamNo) (t : Terms) (os : List Open) → any_conflict s t os ≡ false
      → any_conflict s (record { granted = t.granted; share = bit_or t.share more }) os ≡ false
  unfolding any_conflict
  share_more s t os = none_too _ _ (λ o. and_none (on_stream s o) (conflict_more (terms_of o) t)) os
