-- The opens that remain: none on a file or stream that has none, and consistent where the streams that they name stay.
use Rattle.base.{specs.Base.{ℕ, ◌≡◌, true, false, List, ◌≢◌, eqb, open_used, zero_open, BareStream, bare_used, bare_at, FileNo, StreamNo, Open}, proofs.Laws.{refl, sym, ◌∙◌, fails_iff, none_kept_at}}
use Rattle.consistency.{specs.Consistent.{open_at, OpensConsistent}, proofs.Numbered.{file_iff, stream_iff}}
use Rattle.tables.specs.Tables.{live, any_on_file, any_on_stream, file_has_open, stream_has_open}

-- no live open is on the file, on the stream
pub unopened_file : (os : List Open) (f : FileNo) → file_has_open os f ≡ false → (i : ℕ) → open_used (open_at os i) ≡ true
    → (open_at os i).file ≢ f
unfolding any_on_file live open_used
unopened_file os f h i u =
    (fails_iff (file_iff (open_at os i).file f)).0 (none_kept_at open_used (λ o. eqb o.file.0 f.0) zero_open refl os h i u)

pub unopened_stream_lem : (os : List Open) (s : StreamNo) → stream_has_open os s ≡ false → (i : ℕ) → open_used (open_at os i) ≡ true
    → (open_at os i).stream ≢ s
unfolding any_on_stream live open_used
unopened_stream_lem os s h i u =
    (fails_iff (stream_iff (open_at os i).stream s)).0 (none_kept_at open_used (λ o. eqb o.stream.0 s.0) zero_open refl os h i u)

-- the streams of live opens are used, and of the same file
pub opens_still : {ss : List BareStream} (ss' : List BareStream) {next : ℕ} {os : List Open} → OpensConsistent ss next os
    → ((i : ℕ) → open_used (open_at os i) ≡ true
    → (bare_used (bare_at ss' (open_at os i).stream) ≡ true)
    × ((bare_at ss' (open_at os i).stream).file ≡ (bare_at ss (open_at os i).stream).file))
    → OpensConsistent ss' next os
opens_still ss' c same =
    record {
      slots =
          record {
            size = c.slots.size;
            free_zero = c.slots.free_zero;
            used_good =
                λ i u.
                let g = c.slots.used_good i u in
                record {
                  names_used_stream = (same i u).0;
                  names_its_file = g.names_its_file ∙ sym (same i u).1;
                  terms = g.terms;
                  handle_below = g.handle_below;
                  root_stays = g.root_stays;
                };
          };
      next_at_least = c.next_at_least;
      handles_differ = c.handles_differ;
    }
