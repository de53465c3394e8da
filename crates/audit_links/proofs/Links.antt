-- A link by itself: what a used one that passes names; and two links.
use Rattle.base.{specs.Base.{◌<◌, ◌≡◌, Bool, true, not, ◌&&◌, List, length, same, is_used, is_directory, file_used, link_used, FileType, File, Link, file_name_limit}, proofs.Laws.{refl, eq-eqb, ne_eqb}}
use Rattle.consistency.{specs.{Slots.slot_test, Good.{good_link, is_zero_link, link_names_differ}, Test.good_link_of}, proofs.{Slots.slot_good, Numbered.{file_in, directory-file}, Links.link_decides}}
use Rattle.stored_names.specs.StoredNames.{units, well_stored}
use Rattle.name_tests.specs.NameTests.{good_file_name}

-- a used one: its name, its file and its parent
pub link_parts : (of above : FileType) (l : Link) → good_link of above l ≡ (good_file_name l.name && is_used of && is_directory above)
unfolding good_link good_file_name
link_parts of above l = refl

-- a slot, used or free
abbrev pub link_test : List File → Link → Bool
link_test fs = slot_test link_used (good_link_of fs) is_zero_link

-- a used one that passes names a file and a parent that the table of files has
module _ (fs : List File) (l : Link) (u : link_used l ≡ true) (h : link_test fs l ≡ true) where
  pub file_there : l.file.0 < length fs
  unfolding file_used
  file_there = file_in fs l.file (slot_good (link_decides fs) l u h).names_used_file

  -- and its name is well stored
  pub name_stored_lem : well_stored file_name_limit l.name ≡ true
  name_stored_lem = (slot_good (link_decides fs) l u h).name_stored

  pub parent_there : l.parent.0 < length fs
  parent_there = file_in fs l.parent (directory-file fs _ (slot_good (link_decides fs) l u h).parent_directory)

-- two links in different directories differ, and two in one by their names
module _ (l m : Link) where
  pub parents_differ : (l.parent.0 ≡ m.parent.0 → ⊥) → link_names_differ l m ≡ true
  unfolding link_names_differ
  parents_differ n = rw (ne_eqb l.parent.0 m.parent.0 n)

  pub parents_same : l.parent.0 ≡ m.parent.0 → link_names_differ l m ≡ not (same (units l.name) (units m.name))
  unfolding link_names_differ
  parents_same e = rw (eq-eqb l.parent.0 m.parent.0 e)
