-- Files that agree in type: links and streams ask a file for its type alone.
use Rattle.base.{specs.Base.{◌≡◌, true, List, is_used, is_data, is_directory, file_used, link_used, BareStream, bare_used, FileType, Unused, Data, Directory, FileNo, File, Link}, proofs.Laws.{refl, sym, ◌∙◌, ap, subst, subst₂, false≢true}}
use Rattle.consistency.{specs.{Relations.type_at, Good.{GoodLink, GoodStream}, Consistent.{GoodLinkOf, LinksConsistent, GoodStreamOf, StreamsConsistent}}, proofs.{Slots.slots_good, Numbered.directory_used}}
use Rattle.tables.specs.Tables.{file_at}

pub is_data_lem : (t : FileType) → is_data t ≡ true → t ≡ Data
unfolding is_data
is_data_lem Unused h = absurd (false≢true h)
is_data_lem Data h = refl
is_data_lem Directory h = absurd (false≢true h)

-- the tables have one type at the number
abbrev pub SameType : List File → List File → FileNo → Type 0
SameType fs gs f = type_at gs f ≡ type_at fs f

-- where the used files have one type in both, links and streams are as good in the one as in the other
module _ (fs gs : List File) (same : (f : FileNo) → file_used (file_at fs f) ≡ true → SameType fs gs f) where
  pub link_still : (l : Link) → link_used l ≡ true → GoodLinkOf fs l → GoodLinkOf gs l
  unfolding file_used
  link_still l u g =
      subst₂ (λ (a b : FileType). GoodLink a b l) (sym (same l.file g.names_used_file))
      (sym (same l.parent (directory_used _ g.parent_directory))) g

  pub stream_still : (s : BareStream) → bare_used s ≡ true → GoodStreamOf fs s → GoodStreamOf gs s
  unfolding file_used
  stream_still s u g = subst (λ (t : FileType). GoodStream t s) (sym (same s.file g.names_used_file)) g

module _ (fs gs : List File) (same : (f : FileNo) → SameType fs gs f) where
  used_before : (f : FileNo) → file_used (file_at gs f) ≡ true → file_used (file_at fs f) ≡ true
  unfolding file_used
  used_before f u = ap is_used (sym (same f)) ∙ u

  pub links_kept : (ls : List Link) → LinksConsistent fs ls → LinksConsistent gs ls
  links_kept ls h =
      record {
        slots = slots_good (link_still fs gs (λ f u. same f)) h.slots;
        root_has_none = h.root_has_none;
        others_have_one = λ f r u. h.others_have_one f r (used_before f u);
        parents_lead_to_root = λ f u. h.parents_lead_to_root f (used_before f u);
        names_differ = h.names_differ;
      }

  pub streams_kept : (ss : List BareStream) → StreamsConsistent fs ss → StreamsConsistent gs ss
  streams_kept ss h =
      record {
        slots = slots_good (stream_still fs gs (λ f u. same f)) h.slots;
        one_unnamed = λ f u. h.one_unnamed f (used_before f u);
        directories_have_one = λ f u. h.directories_have_one f (ap is_directory (sym (same f)) ∙ u);
        names_differ = h.names_differ;
      }
