-- The table of opens, and that no two conflict: the tests answer true exactly when the statements hold.
use Rattle.base.{specs.Base.{ℕ, ◌≡◌, true, false, ◌&&◌, ◌≢◌, List, ◌↔◌, eqb, keep, pairs, root, zero_open, open_used, BareStream, bare_at, Open}, proofs.Laws.{refl, ap, eqb-true, eqb-false, ne_eqb, not-true, not-false, and_iff, not_iff, not_is, eqb_iff, leb_iff, fails_iff, exclude_iff, eqb_swap}}
use Rattle.sharing.proofs.PairRule.{conflicting_sym}
use Rattle.tables.specs.Tables.{live}
use Rattle.consistency.proofs.{Slots.{Decides, slots_iff, two_iff}, Numbered.{same-file, same-stream, same_handle, stream_iff, handle_iff, file_iff}}
use Rattle.consistency.specs.{Slots.EveryTwo, Good.{good_open, is_zero_open, handles_differ, opens_agree, HandlesDiffer, OpensAgree}, Consistent.{GoodOpenOf, OpensConsistent, NoConflicts}, Test.{good_open_of, opens_test, conflicts_test}}

-- the root is not held by a delete-on-close open
root_iff : (o : Open)
    → ((o.delete_on_close && eqb o.file.0 0) ≡ false) ↔ (o.delete_on_close ≡ true → o.file ≢ root)
root_iff o =
    let e = exclude_iff {P = o.delete_on_close ≡ true} (λ h. h, λ h. h) (fails_iff (file_iff o.file root)) in
    (λ h. e.0 (not_is h), λ h. not-true _ (e.1 h))

pub open_decides : (ss : List BareStream) (next : ℕ) → Decides open_used (good_open_of ss next) is_zero_open zero_open (GoodOpenOf ss next)
unfolding open_used good_open is_zero_open
open_decides ss next =
    record {
      zero_free = refl;
      decides_good =
          λ o u. (
            λ h.
                let p = simp (good_open, and_iff, eqb_iff, leb_iff, not_iff) at h in
                record {
                  names_used_stream = p.0.0.0.0.0.0;
                  names_its_file = same-file o.file (bare_at ss o.stream).file p.0.0.0.0.0.1;
                  terms =
                      record {
                        granted_nonzero = eqb-false o.granted 0 p.0.0.0.0.1;
                        granted_within = p.0.0.0.1;
                        share_at_most = p.0.0.1;
                      };
                  handle_below = p.0.1;
                  root_stays = (root_iff o).0 p.1;
                },
            λ g.
                let t = g.terms in
                simp (good_open, and_iff, eqb_iff, leb_iff, not_iff)
                ((((((g.names_used_stream, λ i. (g.names_its_file i).0), ne_eqb o.granted 0 t.granted_nonzero), t.granted_within), t.share_at_most), g.handle_below), (root_iff o).1 g.root_stays),
          );
      decides_zero =
          λ o u. (
            λ h.
                let n = same_handle o.handle zero_open.handle (eqb-true o.handle.0 0 (not-false (eqb o.handle.0 0) u)) in
                let p = simp (is_zero_open, and_iff, not_iff, eqb_iff) at h in
                let f = same-file o.file root p.0.0.0.0 in
                let s = same-stream o.stream zero_open.stream p.0.0.0.1 in
                λ i.
                record {
                  handle = n i;
                  file = f i;
                  stream = s i;
                  granted = p.0.0.1 i;
                  share = p.0.1 i;
                  delete_on_close = p.1 i;
                },
            λ e. ap is_zero_open e,
          );
    }

pub differ_iff : (o q : Open) → (handles_differ o q ≡ true) ↔ HandlesDiffer o q
unfolding handles_differ
differ_iff o q =
    let d = fails_iff (handle_iff o.handle q.handle) in
    (λ h. d.0 (not-true _ h), λ n. not_is (d.1 n))

handles_iff : (os : List Open) → (pairs handles_differ (keep open_used os) ≡ true) ↔ EveryTwo open_used zero_open HandlesDiffer os
unfolding open_used
handles_iff = two_iff open_used zero_open refl handles_differ HandlesDiffer differ_iff

pub agree_iff : (o q : Open) → (opens_agree o q ≡ true) ↔ OpensAgree o q
unfolding opens_agree
agree_iff o q = exclude_iff (stream_iff o.stream q.stream) (λ h. h, λ h. h)

-- in either order
pub agree_swap : (o q : Open) → opens_agree o q ≡ opens_agree q o
unfolding opens_agree
agree_swap o q = rw (eqb_swap o.stream.0 q.stream.0, conflicting_sym o q)

pub opens_iff : (ss : List BareStream) (next : ℕ) (os : List Open) → (opens_test ss next os ≡ true) ↔ OpensConsistent ss next os
unfolding opens_test live
opens_iff ss next os = (
  λ h.
      let p = simp (opens_test, live, and_iff, leb_iff, slots_iff (open_decides ss next), handles_iff) at h in
      record { slots = p.0.1; next_at_least = p.0.0; handles_differ = p.1 },
  λ c.
      simp (opens_test, live, and_iff, leb_iff, slots_iff (open_decides ss next), handles_iff)
      ((c.next_at_least, c.slots), c.handles_differ),
)

pub conflicts_iff : (os : List Open) → (conflicts_test os ≡ true) ↔ NoConflicts os
unfolding conflicts_test live open_used
conflicts_iff = two_iff open_used zero_open refl opens_agree OpensAgree agree_iff
