use Rattle.base.{specs.Base.{ℕ, file_slots, file_used, zero_file}, proofs.Laws.{refl, rules, eq-eqb}}
use borrow.Author.Tests.{tests}
use Rattle.std.proofs.lemmas.Iterator.{YieldsList-from_range}
use Rattle.std.proofs.lemmas.Iterator.Search.{all_from_yields_List}
use Rattle.children.proofs.Ranges.{all_placed}
use Rattle.consistency.specs.{Slots.{slot_test, slots_test}, Good.{good_file, is_zero_file}, Test.files_test}
use Rattle.layout.{specs.Layout.decode, proofs.Lengths.files_count}
use Rattle.tables.specs.Tables.{file_at}
use Rattle.audit_files.proofs.files_consistent.Goals as goal

pub returns-then-is_directory : goal.returns-then-is_directory
unfolding files_test slots_test file_at
returns-then-is_directory c =
    let b = c.args.b.now in
    let files = (decode b).volume.files in
    rw (← c.read_file_type.ensures, ← c.is_directory.ensures, c.if-is_directory.true, eq-eqb _ file_slots (files_count b))
    (all_placed zero_file _ (slot_test file_used good_file is_zero_file) files (files_count b) (λ i. refl)
    (all_from_yields_List (λ (i : ℕ). slot_test file_used good_file is_zero_file (file_at files (record { 0 = i }))) _ _ _ c.all.ensures.ran
    (YieldsList-from_range 0 file_slots file_slots refl refl) (λ x b q k. search (rules, tests))))

pub returns-else-is_directory : goal.returns-else-is_directory
unfolding files_test
returns-else-is_directory c = rw (← c.read_file_type.ensures, ← c.is_directory.ensures, c.if-is_directory.false)
