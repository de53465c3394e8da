-- Share counts: the test answers true exactly when every slot's counts are those of the live opens.
use Rattle.base.{specs.Base.{ℕ, ◌≡◌, Bool, true, List, ◌↔◌, zero_stream, StreamNo, ShareCounts, Stream, Open}, proofs.Laws.{and_iff, eqb_iff, numbered_at, numbered_of}}
use Rattle.sharing.specs.Sharing.{counts_of}
use Rattle.tables.specs.Tables.{stream_at, live}
use Rattle.consistency.specs.{Test.{same_counts, counts_test}, Consistent.CountsTrue}

-- two records of counts pass the test exactly when they are equal
pub same-counts : (c d : ShareCounts) → same_counts c d ≡ true → c ≡ d
unfolding same_counts
same-counts c d h =
    let p = simp (same_counts, and_iff, eqb_iff) at h in
    λ i.
    record {
      opens = p.0.0.0.0.0.0 i;
      readers = p.0.0.0.0.0.1 i;
      writers = p.0.0.0.0.1 i;
      deleters = p.0.0.0.1 i;
      shared_read = p.0.0.1 i;
      shared_write = p.0.1 i;
      shared_delete = p.1 i;
    }

pub same_counts_of : (c d : ShareCounts) → c ≡ d → same_counts c d ≡ true
unfolding same_counts
same_counts_of c d e =
    simp (same_counts, and_iff, eqb_iff) (
      (
        ((((λ i. (e i).opens, λ i. (e i).readers), λ i. (e i).writers), λ i. (e i).deleters), λ i. (e i).shared_read),
        λ i. (e i).shared_write,
      ),
      λ i. (e i).shared_delete,
    )

abbrev counts_at : List Open → ℕ → Stream → Bool
counts_at os n s = same_counts s.counts (counts_of (record { 0 = n }) (live os))

pub counts_iff : (ss : List Stream) (os : List Open) → (counts_test ss os ≡ true) ↔ CountsTrue ss os
unfolding counts_test stream_at
counts_iff ss os = (
  λ h s b.
      same-counts (stream_at ss s).counts (counts_of s (live os)) (numbered_at (counts_at os) zero_stream ss h s.0 b),
  λ c.
      numbered_of (counts_at os) zero_stream ss
      (λ i b.
      let s : StreamNo = record { 0 = i } in
      same_counts_of (stream_at ss s).counts (counts_of s (live os)) (c s b)),
)
