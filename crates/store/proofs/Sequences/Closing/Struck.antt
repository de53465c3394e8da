-- An open is struck from consistent tables: what is left.
use Rattle.base.{specs.Base.{Permutation, any, open_used, zero_open, namespace, Namespace, Tables, Handle, Open, eqb, set, Bool, ◌||◌, true, false, List, ◌∷◌, ◌≡◌}, proofs.Laws.{perm_any, fails_iff, ◌∙◌, ap, subst, sym}}
use Rattle.consistency.{specs.Consistent.{Consistent, CountsTrue, GoodOpenOf, NoConflicts, open_at}, proofs.Numbered.{file_iff, stream_iff}}
use Rattle.sharing.specs.Sharing.{without_open}
use Rattle.tables.specs.Tables.{live, any_on_file, any_on_stream}
use Rattle.store.proofs.Sequences.{Facts.namespace_of, Opens.{Close.{Struck, handle_used}, Counts.counts-left, Leave.{conflicts-left, left, left-live}, Names.{used_below, without_open_names}}, Closing.Facts.AfterStrike}
use Rattle.store.specs.Store.{recount, struck, volume_without_open}

module _ {t : Tables} (ok : Consistent t.volume t.opens) (h : Handle) (o : Open) (s : Struck h o t.opens.rows) where
  used : open_used (open_at t.opens.rows s.slot) ≡ true
  used = ap open_used s.there ∙ handle_used h o s.has

  rows_left : (struck t o).opens.rows ≡ set t.opens.rows s.slot zero_open
  unfolding struck
  rows_left = s.rows

  pub struck_names : namespace (struck t o).volume ≡ namespace t.volume
  unfolding struck
  struck_names = without_open_names o t.volume

  -- the live opens are those that were, but for this one
  pub struck-live : Permutation (live t.opens.rows) (o ∷ live (struck t o).opens.rows)
  struck-live =
      rw rows_left
      (subst (λ (q : Open). Permutation (live t.opens.rows) (q ∷ live (set t.opens.rows s.slot zero_open))) s.there
      (left-live t.opens.rows s.slot s.below used))

  still : (p : Open → Bool) → p o ≡ false → any p (live t.opens.rows) ≡ true → any p (live (struck t o).opens.rows) ≡ true
  unfolding any
  still p e w =
      ap (λ (b : Bool). b || any p (live (struck t o).opens.rows)) (sym e) ∙ sym (perm_any p struck-live) ∙ w

  good : GoodOpenOf (namespace t.volume).streams t.volume.next_handle.0 o
  good =
      subst (λ (q : Open). GoodOpenOf (namespace t.volume).streams t.volume.next_handle.0 q) s.there
      (ok.opens.slots.used_good s.slot used)

  pub struck-counts : CountsTrue (struck t o).volume.streams (struck t o).opens.rows
  unfolding struck volume_without_open namespace
  struck-counts =
      subst (λ (os : List Open). CountsTrue (recount (without_open o) o.stream t.volume.streams) os) (sym rows_left)
      (subst
      (λ (q : Open). CountsTrue (recount (without_open q) q.stream t.volume.streams) (set t.opens.rows s.slot zero_open))
      s.there
      (counts-left t.volume.streams t.opens.rows s.slot s.below used
      (used_below t.volume.streams (open_at t.opens.rows s.slot).stream
      (ok.opens.slots.used_good s.slot used).names_used_stream)
      ok.counts))

  pub struck-conflicts : NoConflicts (struck t o).opens.rows
  struck-conflicts = rw rows_left (conflicts-left t.opens.rows ok.conflicts s.slot)

  pub after_strike : AfterStrike (namespace (struck t o).volume) (struck t o).volume.next_handle.0 (struck t o).opens.rows o
  unfolding struck volume_without_open any_on_file any_on_stream namespace
  after_strike =
      subst (λ (ns : Namespace). AfterStrike ns t.volume.next_handle.0 (struck t o).opens.rows o) (sym struck_names)
      (record {
        names = namespace_of ok;
        opens = rw rows_left (left ok.opens s.slot);
        good = good;
        other_files =
            λ f n p.
            still (λ q. eqb q.file.0 f.0) ((fails_iff (file_iff o.file f)).1 (λ e. n (sym e))) (ok.held.files f p);
        other_streams =
            λ x n p.
            still (λ q. eqb q.stream.0 x.0) ((fails_iff (stream_iff o.stream x)).1 (λ e. n (sym e))) (ok.held.streams x p);
      })
