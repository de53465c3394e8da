-- A file written at a number other than the root's: the files stay consistent. And files with one added.
use Rattle.base.{specs.Base.{◌<◌, ◌≡◌, true, false, List, ◌≢◌, length, set, root, zero_file, is_directory, file_used, FileNo, File}, proofs.Laws.{sym, ◌∙◌, ap, get_or-set_same, not_both}}
use lib.Seq.{get_or-set_other}
use Rattle.consistency.{specs.{Good.GoodFile, Consistent.FilesConsistent}, proofs.{Slots.slots_set, Numbered.same-file}}
use Rattle.tables.specs.Tables.{file_at}

module _ (fs : List File) (n : FileNo) (file : File) (below : n.0 < length fs) where
  pub file_at_new : file_at (set fs n.0 file) n ≡ file
  unfolding file_at
  file_at_new = get_or-set_same fs n.0 file zero_file below

  pub file_at_other : (f : FileNo) → f.0 ≢ n.0 → file_at (set fs n.0 file) f ≡ file_at fs f
  unfolding file_at
  file_at_other f e = get_or-set_other fs n.0 f.0 file zero_file e

  pub files_with : FilesConsistent fs → file_used file ≡ true → GoodFile file → n.0 ≢ 0 → FilesConsistent (set fs n.0 file)
  files_with h u g r =
      record {
        slots = slots_set h.slots n.0 file (λ v. g) (λ v. absurd (not_both u v));
        root_directory =
            ap (λ (x : File). is_directory x.file_type) (file_at_other root (λ e. r (sym e))) ∙ h.root_directory;
      }

-- the second table is the first with a file at a number that was free
pub record FileAdded (fs gs : List File) (n : FileNo) : Type 0 where
  pub was_free : file_used (file_at fs n) ≡ false
  pub there : file_used (file_at gs n) ≡ true
  pub others : (f : FileNo) → f.0 ≢ n.0 → file_at gs f ≡ file_at fs f

module _ {fs gs : List File} {n : FileNo} (added : FileAdded fs gs n) where
  pub not_added : (f : FileNo) → file_used (file_at fs f) ≡ true → f.0 ≢ n.0
  not_added f u e =
      not_both u (ap (λ (g : FileNo). file_used (file_at fs g)) (same-file f n e) ∙ added.was_free)

  -- a used file stays as it is
  pub used_kept_lem : (f : FileNo) → file_used (file_at fs f) ≡ true → file_at gs f ≡ file_at fs f
  used_kept_lem f u = added.others f (not_added f u)

  -- a used file is the new one, or it was used before
  pub used_before : (f : FileNo) → f.0 ≢ n.0 → file_used (file_at gs f) ≡ true → file_used (file_at fs f) ≡ true
  used_before f e u = ap file_used (sym (added.others f e)) ∙ u
