-- The files table: the test answers true exactly when the statements hold.
use Rattle.base.{specs.Base.{◌≡◌, true, List, ◌↔◌, same, zero_file, is_used, file_used, File}, proofs.Laws.{refl, ap, and_iff, not_iff, eqb_iff, beq_iff, same_iff}}
use Rattle.consistency.proofs.{Slots.{Decides, slots_iff}, Numbered.unused}
use Rattle.consistency.specs.{Good.{GoodFile, good_file, is_zero_file}, Consistent.FilesConsistent, Test.files_test}

pub file_decides : Decides file_used good_file is_zero_file zero_file GoodFile
unfolding file_used is_used good_file is_zero_file same
file_decides =
    record {
      zero_free = refl;
      decides_good =
          λ f u. (
            λ h.
                let p = simp (good_file, and_iff, beq_iff) at h in
                record { attributes = record { attributes_within = p.0.0; directory_bit = p.0.1 }; masks_within = p.1 },
            λ g. simp (good_file, and_iff, beq_iff) ((g.attributes.attributes_within, g.attributes.directory_bit), g.masks_within),
          );
      decides_zero =
          λ f u. (
            λ h.
                let t = unused f.file_type u in
                let p = simp (is_zero_file, and_iff, not_iff, eqb_iff, same_iff) at h in
                λ i. record { file_type = t i; attributes = p.0.0 i; masks = p.0.1 i; delete_pending = p.1 i },
            λ e. ap is_zero_file e,
          );
    }

pub files_iff : (fs : List File) → (files_test fs ≡ true) ↔ FilesConsistent fs
unfolding files_test
files_iff fs = (
  λ h.
      let p = simp (files_test, and_iff, slots_iff file_decides) at h in
      record { slots = p.1; root_directory = p.0 },
  λ c. simp (files_test, and_iff, slots_iff file_decides) (c.root_directory, c.slots),
)
