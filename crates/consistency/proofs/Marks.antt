-- The marks of what goes with its last open: the test answers true exactly when the statements hold.
use Rattle.base.{specs.Base.{ℕ, ◌≡◌, true, false, List, ◌↔◌, ◌≢◌, root, zero_file, BareStream, zero_bare, bare_at, FileNo, File, Link, Open}, proofs.Laws.{refl, ◌∙◌, ap, not_both, by_cases, and_iff, not_iff, guard_iff, fails_iff}}
use Rattle.tables.specs.Tables.{file_at, file_has_open, stream_has_open}
use Rattle.consistency.proofs.Numbered.{file_iff, each_iff}
use Rattle.consistency.specs.{Relations.has_children, Consistent.{MarksConsistent, MarksHeld}, Test.{file_mark_test, stream_mark_test, marks_test}}

-- what a marked file is
abbrev FileMark : List Link → List Open → FileNo → Type 0
FileMark ls os n = ((n ≢ root) × (has_children ls n ≡ false)) × (file_has_open os n ≡ true)

file_mark : (ls : List Link) (os : List Open) (n : ℕ) (f : File)
    → (file_mark_test ls os n f ≡ true) ↔ (f.delete_pending ≡ true → FileMark ls os (record { 0 = n }))
unfolding file_mark_test
file_mark ls os n f =
    let r = fails_iff (file_iff (record { 0 = n }) root) in (
      λ h p. let q = simp (file_mark_test, guard_iff, and_iff, not_iff) at h in ((r.0 (q p).0.0, (q p).0.1), (q p).1),
      λ h. simp (file_mark_test, guard_iff, and_iff, not_iff) (λ p. ((r.1 (h p).0.0, (h p).0.1), (h p).1)),
    )

stream_mark : (os : List Open) (n : ℕ) (s : BareStream)
    → (stream_mark_test os n s ≡ true) ↔ (s.delete_pending ≡ true → stream_has_open os (record { 0 = n }) ≡ true)
unfolding stream_mark_test
stream_mark os n s = (λ h. simp (stream_mark_test, guard_iff) at h, λ h. simp (stream_mark_test, guard_iff) h)

pub marks_iff : (fs : List File) (ls : List Link) (ss : List BareStream) (os : List Open)
    → (marks_test fs ls ss os ≡ true) ↔ (MarksConsistent fs ls × MarksHeld fs ss os)
unfolding marks_test file_at bare_at
marks_iff fs ls ss os =
    let files = each_iff (λ f. f.delete_pending) zero_file refl (file_mark_test ls os) (λ n f. FileMark ls os (record { 0 = n })) (file_mark ls os) fs in
    let streams = each_iff (λ s. s.delete_pending) zero_bare refl (stream_mark_test os) (λ n s. stream_has_open os (record { 0 = n }) ≡ true) (stream_mark os) ss in (
      λ h.
          let p = simp (marks_test, and_iff) at h in
          let f = files.0 p.0 in (
            record {
              root_unmarked = by_cases (file_at fs root).delete_pending (λ u. absurd ((f 0 u).0.0 refl)) (λ u. u);
              marked_childless = λ n u. (f n.0 u).0.1;
            },
            record { files = λ n u. (f n.0 u).1; streams = λ s. streams.0 p.1 s.0 },
          ),
      λ c.
          simp (marks_test, and_iff) (
            files.1
                (λ i u.
                let n : FileNo = record { 0 = i } in
                let other : n ≢ root = λ e. not_both u (ap (λ (m : FileNo). (file_at fs m).delete_pending) e ∙ c.0.root_unmarked) in
                ((other, c.0.marked_childless n u), c.1.files n u)),
            streams.1 (λ i. c.1.streams (record { 0 = i })),
          ),
    )
