-- New attributes of a data file: consistent names stay so.
use Rattle.base.{specs.Base.{◌<◌, ℕ, writes, Namespace, file_used, is_directory, is_used, root, zero_file, File, FileNo, get_or, length, set, Bool, true, List, ◌≢◌, some, ◌≡◌}, proofs.Laws.{true≢false, set_placed, ◌∙◌, ap, refl, subst, sym}}
use Rattle.consistency.{proofs.{Derived.file_good, Numbered.{file_in, same-file}}, specs.{Good.{GoodAttributes, GoodFile}, Relations.type_at}}
use Rattle.tables.specs.Tables.{file_at}
use Rattle.store.proofs.Sequences.{Changes.{Marks.{marks-kept, marks_with}, Files.files_with, Types.{SameType, is_data_lem, links_kept, streams_kept}}, Facts.{AttributesFit, MarksKept, NamespaceConsistent}}
use Rattle.store.specs.Complete.{attribute_change, changed, with_attributes}

-- a file written anew with its type
pub same_types : (fs : List File) (f : FileNo) (file : File) → file.file_type ≡ type_at fs f
    → (g : FileNo) → SameType fs (set fs f.0 file) g
unfolding file_at
same_types fs f file e g =
    set_placed zero_file (λ j x. x.file_type ≡ (get_or fs j zero_file).file_type) fs f.0 file e (λ j. refl) g.0

module _ (ns : Namespace) (f : FileNo) (a : ℕ) (h : NamespaceConsistent ns) (fit : AttributesFit ns f a) where
  used : file_used (file_at ns.files f) ≡ true
  unfolding file_used is_used
  used = ap is_used (is_data_lem _ fit.data_file)

  good : GoodFile (with_attributes a (file_at ns.files f))
  unfolding with_attributes is_directory
  good =
      record {
        attributes = subst (λ (b : Bool). GoodAttributes b a) (sym (ap is_directory (is_data_lem _ fit.data_file))) fit.good;
        masks_within = (file_good h.files f used).masks_within;
      }

  below : f.0 < length ns.files
  below = file_in ns.files f used

  -- the root is a directory
  pub not_root_lem : f.0 ≢ 0
  unfolding is_directory
  not_root_lem e =
      true≢false
      (sym h.files.root_directory
      ∙ ap (λ (g : FileNo). is_directory (type_at ns.files g)) (sym (same-file f root e))
      ∙ ap is_directory (is_data_lem _ fit.data_file))

  -- a file keeps its mark
  pub attributes_unmarked : MarksKept ns.files (changed (attribute_change ns f (some a)) ns).files
  unfolding changed attribute_change writes with_attributes
  attributes_unmarked = marks-kept ns.files f _ (λ u. u)

  pub attributes_kept : NamespaceConsistent (changed (attribute_change ns f (some a)) ns)
  unfolding changed attribute_change writes with_attributes file_used
  attributes_kept =
      let file = with_attributes a (file_at ns.files f) in
      let same = same_types ns.files f file refl in
      record {
        files = files_with ns.files f file below h.files used good not_root_lem;
        links = links_kept ns.files (set ns.files f.0 file) same ns.links h.links;
        streams = streams_kept ns.files (set ns.files f.0 file) same ns.streams h.streams;
        marks = marks_with h.marks attributes_unmarked (λ g u c. c);
      }
