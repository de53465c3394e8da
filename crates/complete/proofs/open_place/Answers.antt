-- A table without a free row has no room.
use Rattle.base.{specs.Base.{◌≡◌, not, as_checked, as_option, open_used, ◌>>◌, refuse_if}, proofs.Laws.{sym, eq-eqb, ne_eqb, found_iff, none_iff}}
use Rattle.store.specs.{Complete.next_handle, Store.store_view}
use Rattle.complete.proofs.open_place.Goals as goal

pub returns-in_default : goal.returns-in_default
unfolding as_checked as_option next_handle store_view refuse_if ◌>>◌
returns-in_default c =
    record {
      is = rw ((none_iff (λ o. not (open_used o)) _).1 (sym c.in_default.ensures));
      row = tt;
    }

pub returns-then-next : goal.returns-then-next
unfolding as_checked as_option next_handle store_view refuse_if ◌>>◌
returns-then-next c =
    record {
      is = rw ((found_iff (λ o. not (open_used o)) _).1 (_, sym c.in-Some.ensures), ← c.read_next-next.ensures, eq-eqb _ _ c.if-next.true);
      row = tt;
    }

pub returns : goal.returns
unfolding as_checked as_option next_handle store_view refuse_if ◌>>◌
returns c =
    record {
      is = rw ((found_iff (λ o. not (open_used o)) _).1 (_, sym c.in-Some.ensures), ← c.read_next-next.ensures, ne_eqb _ _ c.if-next.false);
      row = sym c.in-Some.ensures;
    }
