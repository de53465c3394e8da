-- The test that computes answers true exactly when the tables are consistent.
use Rattle.base.{specs.Base.{◌≡◌, true, ◌↔◌, OpenTable, Volume}, proofs.Laws.and_iff}
use Rattle.consistency.proofs.{Files.files_iff, Links.links_iff, Streams.streams_iff, Opens.{opens_iff, conflicts_iff}, Counts.counts_iff, Marks.marks_iff}
use Rattle.consistency.specs.{Test.consistent, Consistent.Consistent}

pub consistent_iff : (v : Volume) (t : OpenTable) → (consistent v t ≡ true) ↔ Consistent v t
unfolding consistent
consistent_iff v t = (
  λ h.
      let p = simp (consistent, and_iff, files_iff, streams_iff, opens_iff, counts_iff, conflicts_iff, marks_iff) at h in
      record {
        files = p.0.0.0.0.0.0;
        links = (links_iff v.files p.0.0.0.0.0.0 v.links).0 p.0.0.0.0.0.1;
        streams = p.0.0.0.0.1;
        opens = p.0.0.0.1;
        counts = p.0.0.1;
        conflicts = p.0.1;
        marks = p.1.0;
        held = p.1.1;
      },
  λ c.
      simp (consistent, and_iff, files_iff, streams_iff, opens_iff, counts_iff, conflicts_iff, marks_iff)
      ((((((c.files, (links_iff v.files c.files v.links).1 c.links), c.streams), c.opens), c.counts), c.conflicts), (c.marks, c.held)),
)
