-- Files and links where no mark has come: the marks stay consistent, if no marked file gets a child.
use Rattle.base.{specs.Base.{◌≡◌, true, false, List, get_or, set, root, zero_file, FileNo, File, Link}, proofs.Laws.{not_both, refuted, set_placed}}
use Rattle.consistency.specs.{Relations.has_children, Consistent.MarksConsistent}
use Rattle.tables.specs.Tables.{file_at}
use Rattle.store.proofs.Sequences.Facts.{MarksKept}

pub marks_with : {fs gs : List File} {ls ms : List Link} → MarksConsistent fs ls → MarksKept fs gs
    → ((f : FileNo) → (file_at fs f).delete_pending ≡ true → has_children ls f ≡ false → has_children ms f ≡ false)
    → MarksConsistent gs ms
marks_with h kept childless =
    record {
      root_unmarked = refuted _ (λ u. not_both (kept root u) h.root_unmarked);
      marked_childless = λ f u. childless f (kept f u) (h.marked_childless f (kept f u));
    }

-- a file written, marked only if the one at its number was
pub marks-kept : (fs : List File) (n : FileNo) (file : File)
    → (file.delete_pending ≡ true → (file_at fs n).delete_pending ≡ true) → MarksKept fs (set fs n.0 file)
unfolding file_at
marks-kept fs n file h f =
    set_placed zero_file (λ j x. x.delete_pending ≡ true → (get_or fs j zero_file).delete_pending ≡ true) fs n.0 file h
    (λ j u. u) f.0
