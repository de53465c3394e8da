-- The table of opens stays consistent where the names change and where a slot takes another record.
use Rattle.base.{specs.Base.{◌≤◌, ℕ, BareStream, open_used, zero_open, Open, set, false, true, List, ◌≡◌}, proofs.Laws.{◌∙◌, subst, sym, arith}}
use Rattle.consistency.{proofs.Slots.{slots_good, slots_set, two_set}, specs.{Consistent.{GoodOpenOf, NoConflicts, OpensConsistent, open_at}, Good.{GoodOpen, HandlesDiffer, OpensAgree}}}
use Rattle.sharing.proofs.PairRule.{conflicting_sym}
use Rattle.store.proofs.Sequences.Facts.{StreamsKept}

-- used streams are as they were: so are the opens on them
pub opens_kept : {ss ss' : List BareStream} {next : ℕ} {os : List Open} → OpensConsistent ss next os → StreamsKept ss ss'
    → OpensConsistent ss' next os
opens_kept {ss} {ss'} {next} {os} c k =
    record {
      slots =
          slots_good
          (λ o u g. subst (λ (s : BareStream). GoodOpen s next o) (sym (k.used_kept o.stream g.names_used_stream)) g) c.slots;
      next_at_least = c.next_at_least;
      handles_differ = c.handles_differ;
    }

-- a slot takes another record
pub replaced : {ss : List BareStream} {next next' : ℕ} {os : List Open} → OpensConsistent ss next os → next ≤ next'
    → (i : ℕ) (o : Open)
    → (open_used o ≡ false → o ≡ zero_open)
    → (open_used o ≡ true → GoodOpenOf ss next' o)
    → ((j : ℕ) → open_used o ≡ true → open_used (open_at os j) ≡ true → HandlesDiffer o (open_at os j))
    → OpensConsistent ss next' (set os i o)
replaced {ss} {next} {next'} {os} c l i o z g d =
    record {
      slots = slots_set (slots_good later c.slots) i o g z;
      next_at_least = omega (arith, c.next_at_least);
      handles_differ = two_set open_used zero_open HandlesDiffer (λ x y n e. n (sym e)) os c.handles_differ i o d;
    }
  where
    later : (q : Open) → open_used q ≡ true → GoodOpenOf ss next q → GoodOpenOf ss next' q
    later q u h =
        record {
          names_used_stream = h.names_used_stream;
          names_its_file = h.names_its_file;
          terms = h.terms;
          handle_below = omega (arith, h.handle_below);
          root_stays = h.root_stays;
        }

pub conflicts-set : (os : List Open) → NoConflicts os → (i : ℕ) (o : Open)
    → ((j : ℕ) → open_used o ≡ true → open_used (open_at os j) ≡ true → OpensAgree o (open_at os j)) → NoConflicts (set os i o)
conflicts-set os = two_set open_used zero_open OpensAgree (λ x y a e. conflicting_sym y x ∙ a (sym e)) os
