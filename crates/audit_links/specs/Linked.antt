-- The links of a file by two tables, which have at each file's number how many links name it, and its parent.
use Rattle.std.specs.Prelude.{◌&&◌, ◌||◌}
use Rattle.base.specs.Base.{ℕ, zero, suc, Bool, true, false, cond, not, List, eqb, get_or, file_slots, file_used, File}

-- the root is at most a number of steps up; past the table's end a file is its own parent
unfoldable pub leads : List ℕ → ℕ → ℕ → Bool
leads up zero n = eqb n 0
leads up (suc steps) n = elim (eqb n 0) [ true ↦ true | false ↦ leads up steps (get_or up n n) ]

-- the links of the file at a number: none for the root, one for every other, and the root above it; asked of a used file
unfoldable pub linked_at : ℕ → List ℕ → ℕ → Bool
linked_at count up n = eqb count (cond (eqb n 0) 0 1) && leads up file_slots n

unfoldable pub file_linked : List ℕ → List ℕ → ℕ → File → Bool
file_linked counts up n f = not (file_used f) || linked_at (get_or counts n 0) up n
