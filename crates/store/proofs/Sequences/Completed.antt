-- How a pending open ends: refused, with SHARING_VIOLATION exactly for a conflict; or accepted, with a consistent
-- namespace after its change, an open that may join the table, a free slot, and no conflict.
use Rattle.base.{specs.Base.{ℕ, writes, Refusal, ◌>>=◌, ◌>>◌, passed, refuse_if, share_read, BareStream, Namespace, bare_at, bare_used, status_number, Terms, terms_of, Created, FileNo, Handle, Open, Request, FileCorruptError, SharingViolation, StreamNo, length, Bool, false, not, true, List, ◌⊎◌, inl, inr, Option, none, some, ◌≡◌}, proofs.Laws.{not_both, Ends, ends_bind, ends_test, ends_weaker, goes, stops, eq-eqb, not-false, ◌∙◌, ap, refl, subst, sym, arith}}
use lib.{Bits.or_lt, Dec.lit<}
use Rattle.consistency.specs.Good.{GoodTerms}
use Rattle.store.proofs.Sequences.{Changes.{Attributes.{attributes_kept, attributes_unmarked}, Placed.placed_well}, Facts.{AttributesFit, Early, ExistingFits, Joins, MarksKept, NamespaceConsistent, Other, PendingFits, PlacedWell, StreamsKept}, Prepared.prepare_ends}
use Rattle.store.specs.{Complete.{Decision, Placed, View, attribute_change, changed, complete, decide, new_open, next_handle, place_existing, share_of, with_share_read}, Prepare.{Existing, Pending, ReadSharing, added_if_alone, as_offered, creating, denied_if_alone, existing}, Request.deletes_on_close}

-- why an accepted open conflicts with none: the check said so, of its terms or of terms that share less; or its stream is
-- new
abbrev pub Unopposed : Namespace → View → Open → Type 0
Unopposed ns view o =
    ((t : Terms) × (view.conflicts o.stream t ≡ false) × ((terms_of o ≡ t) ⊎ (terms_of o ≡ with_share_read t)))
    ⊎ (bare_used (bare_at ns.streams o.stream) ≡ false)

pub record DecisionFits (ns : Namespace) (view : View) (d : Decision) : Type 0 where
  pub after : NamespaceConsistent (changed d.placed.change ns)
  pub kept : StreamsKept ns.streams (changed d.placed.change ns).streams
  pub marks_kept : MarksKept ns.files (changed d.placed.change ns).files
  pub joins : Joins (changed d.placed.change ns).streams view.next (new_open d)
  pub room : view.room ≡ true
  pub unopposed : Unopposed ns view (new_open d)

-- what a pending open is refused with
pub record Late (view : View) (p : Pending) (r : Refusal) : Type 0 where
  pub not_corrupt : Other FileCorruptError r
  pub sharing : r.status ≡ SharingViolation
      → (e : Existing) × (p ≡ existing e) × (view.conflicts e.stream e.terms ≡ true)

-- an early refusal is none for sharing
pub not_sharing : (r : Refusal) → Early r → r.status ≡ SharingViolation → ⊥
not_sharing r q e = not_both (eq-eqb _ _ (ap status_number e)) q.1

late : (view : View) (p : Pending) (r : Refusal) → Early r → Late view p r
late view p r q = record { not_corrupt = q.0; sharing = λ e. absurd (not_sharing r q e) }

-- step 12: a free slot, and the next handle
handle_ends : (view : View) → Ends Early (λ (h : Handle). (view.room ≡ true) × (h.0 ≡ view.next)) (next_handle view)
unfolding next_handle status_number
handle_ends view =
    ends_test _ _ (refl, refl) (λ a. ends_test _ _ (refl, refl) (λ b. goes (not-false view.room a, refl)))

-- step 10's terms
share_ends : (rule : ReadSharing) (alone : Bool) (t : Terms)
    → Ends Early (λ (s : Terms). (s ≡ t) ⊎ (s ≡ with_share_read t)) (share_of rule alone t)
unfolding share_of status_number
share_ends as_offered alone t = goes (inl refl)
share_ends added_if_alone true t = goes (inr refl)
share_ends added_if_alone false t = goes (inl refl)
share_ends denied_if_alone alone t = ends_test _ _ (refl, refl) (λ e. goes (inl refl))

good_still : (t s : Terms) → GoodTerms t → (s ≡ t) ⊎ (s ≡ with_share_read t) → GoodTerms s
unfolding with_share_read
good_still t s g (inl e) = subst GoodTerms (sym e) g
good_still t s g (inr e) =
    subst GoodTerms (sym e)
    (record {
      granted_nonzero = g.granted_nonzero;
      granted_within = g.granted_within;
      share_at_most = omega (arith, or_lt 3 t.share share_read (omega (arith, g.share_at_most)) (lit< tt));
    })

-- what a change of attributes alone leaves
module _ (ns : Namespace) (f : FileNo) (ok : NamespaceConsistent ns) where
  attributes_alone : (o : Option ℕ) → ((a : ℕ) → o ≡ some a → AttributesFit ns f a)
      → let after = changed (attribute_change ns f o) ns in
      NamespaceConsistent after × (after.streams ≡ ns.streams) × MarksKept ns.files after.files
  unfolding changed attribute_change writes
  attributes_alone none fits = (ok, refl, λ g u. u)
  attributes_alone (some a) fits =
      let fit = fits a refl in (attributes_kept ns f a ok fit, refl, attributes_unmarked ns f a ok fit)

module _ (view : View) (ns : Namespace) (deletes : Bool) (ok : NamespaceConsistent ns) (room : view.room ≡ true) (h : Handle) (next : h.0 ≡ view.next) where
  -- an accepted open of a stream that is there
  accepted : (e : Existing) → ExistingFits ns deletes e → view.conflicts e.stream e.terms ≡ false
      → (t : Terms) → (t ≡ e.terms) ⊎ (t ≡ with_share_read e.terms)
      → DecisionFits ns view (record { action = e.action; placed = place_existing ns e; terms = t; handle = h; delete_on_close = deletes })
  unfolding place_existing
  accepted e fits free t s =
      let q = attributes_alone ns e.file ok e.attributes fits.attributes in
      let at : (n : StreamNo) → bare_at (changed _ ns).streams n ≡ bare_at ns.streams n = λ n. ap (λ (ss : List BareStream). bare_at ss n) q.1 in
      record {
        after = q.0;
        kept =
            record {
              same_length = ap length q.1;
              used_kept = λ n u. at n;
              marks_kept = λ n u. sym (ap (λ (b : BareStream). b.delete_pending) (at n)) ∙ u;
            };
        marks_kept = q.2;
        joins =
            record {
              good =
                  record {
                    names_used_stream = ap bare_used (at e.stream) ∙ fits.stream_used;
                    names_its_file = sym (ap (λ (b : BareStream). b.file) (at e.stream) ∙ fits.stream_file);
                    terms = good_still e.terms t fits.terms s;
                    handle_below = omega (arith, next);
                    root_stays = fits.root_stays;
                  };
              handle = next;
            };
        room = room;
        unopposed = inl (e.terms, free, s);
      }

  -- an accepted open of what it creates
  created : (p : Placed) → PlacedWell ns p → (t : Terms) → GoodTerms t
      → DecisionFits ns view (record { action = Created; placed = p; terms = t; handle = h; delete_on_close = deletes })
  created p well t g =
      record {
        after = well.after;
        kept = well.kept;
        marks_kept = well.marks_kept;
        joins =
            record {
              good =
                  record {
                    names_used_stream = well.stream_used;
                    names_its_file = sym well.stream_file;
                    terms = g;
                    handle_below = omega (arith, next);
                    root_stays = λ d. well.not_root;
                  };
              handle = next;
            };
        room = room;
        unopposed = inr well.was_free;
      }

pub complete_ends : (view : View) (ns : Namespace) (deletes : Bool) (p : Pending) → NamespaceConsistent ns
    → PendingFits ns deletes p → Ends (Late view p) (DecisionFits ns view) (complete view ns deletes p)
unfolding complete status_number refuse_if ◌>>◌
complete_ends view ns deletes (existing e) ok fits = go (view.conflicts e.stream e.terms) refl
  where
    go : (b : Bool) → view.conflicts e.stream e.terms ≡ b
        → Ends (Late view (existing e)) (DecisionFits ns view)
        (refuse_if b SharingViolation
        >> (share_of e.read_sharing (not (view.file_open e.file)) e.terms
        >>= (λ t. next_handle view
        >>= (λ h. passed (record { action = e.action; placed = place_existing ns e; terms = t; handle = h; delete_on_close = deletes })))))
    go true c = stops (record { not_corrupt = refl; sharing = λ s. (e, refl, c) })
    go false c =
        ends_weaker (late view (existing e)) (λ d q. q)
        (ends_bind (share_ends e.read_sharing _ e.terms)
        (λ t s. ends_bind (handle_ends view) (λ h q. goes (accepted view ns deletes ok q.0 h q.1 e fits c t s))))
complete_ends view ns deletes (creating c t) ok fits =
    ends_weaker (late view (creating c t)) (λ d q. q)
    (ends_bind (placed_well ns ok c fits.0)
    (λ p well. ends_bind (handle_ends view) (λ h q. goes (created view ns deletes ok q.0 h q.1 p well t fits.1))))

-- the twelve steps
pub decide_ends : (view : View) (ns : Namespace) (r : Request) (units : List ℕ) → NamespaceConsistent ns
    → Ends (Other FileCorruptError) (DecisionFits ns view) (decide view ns r units)
unfolding decide
decide_ends view ns r units ok =
    ends_bind (ends_weaker (λ q e. e.0) (λ p f. f) (prepare_ends ns r units ok))
    (λ p f. ends_weaker (λ q l. l.not_corrupt) (λ d g. g) (complete_ends view ns (deletes_on_close r) p ok f))
