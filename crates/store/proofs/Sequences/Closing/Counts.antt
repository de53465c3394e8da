-- The share counts stay true: a stream is marked, or streams go that no open is on.
use Rattle.base.{specs.Base.{ℕ, ◌<◌, ◌≡◌, Bool, true, false, List, length, set, with_counts, zero_stream, StreamNo, Stream, Open}, proofs.Laws.{sym, ◌∙◌, ap, ⊎_elim, arith, by_cases, length-set, set_cases, Clears}}
use Rattle.consistency.specs.Consistent.{CountsTrue}
use Rattle.sharing.{specs.Sharing.on_stream, proofs.Counts.counts_none}
use Rattle.tables.specs.Tables.{stream_at, live, any_on_stream, stream_has_open}
use Rattle.store.specs.Store.{marked_stream}

module _ (ss : List Stream) (os : List Open) (c : CountsTrue ss os) where
  pub counts_clear : {gone : ℕ → Bool} {ss' : List Stream} → Clears zero_stream gone ss ss'
      → ((s : StreamNo) → gone s.0 ≡ true → stream_has_open os s ≡ false) → CountsTrue ss' os
  unfolding stream_at any_on_stream on_stream
  counts_clear {gone} clears none s l =
      by_cases (gone s.0)
      (λ e. ap (λ (x : Stream). x.counts) (clears.goes s.0 e) ∙ sym (counts_none s (live os) (none s e)))
      (λ e. ap (λ (x : Stream). x.counts) (clears.stays s.0 e) ∙ c s (omega (arith, clears.same_length)))

  pub counts-marked : (s : StreamNo) → s.0 < length ss → CountsTrue (set ss s.0 (marked_stream (stream_at ss s))) os
  unfolding stream_at marked_stream with_counts
  counts-marked s b t l =
      ⊎_elim
      (λ q. ap (λ (x : Stream). x.counts) q.1 ∙ ap (λ (n : ℕ). (stream_at ss (record { 0 = n })).counts) (sym q.0))
      (λ q. ap (λ (x : Stream). x.counts) q.1)
      (set_cases ss s.0 t.0 (marked_stream (stream_at ss s)) zero_stream b)
      ∙ c t (omega (arith, length-set ss s.0 (marked_stream (stream_at ss s))))
