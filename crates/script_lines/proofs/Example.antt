-- The paper's script prints what the paper says, by evaluation of the definitions: on the tables and on the model.
use Rattle.base.{specs.Base.{ℕ, ◌≡◌, false, List, [], ◌∷◌, ◌++◌, replicate, accounts, all_access}, proofs.Laws.refl}
use Rattle.format.specs.Format.{fresh_tables}
use Rattle.store.specs.{Calls.{store_step, model_step}, Model.fresh_model}
use Rattle.script_lines.specs.{Evaluate.computes, Script.script}

-- `O 0 2 1 2 0 0 0 a`, `O 0 1 1 1 0 0 0 a`, `C 1`, `C 1`
abbrev opens2 : List ℕ
opens2 = 0x4F ∷ 0x20 ∷ 0x30 ∷ 0x20 ∷ 0x32 ∷ 0x20 ∷ 0x31 ∷ 0x20 ∷ 0x32 ∷ 0x20 ∷ 0x30 ∷ 0x20 ∷ 0x30 ∷ 0x20 ∷ 0x30 ∷ 0x20 ∷ 0x61 ∷ []

abbrev opens1 : List ℕ
opens1 = 0x4F ∷ 0x20 ∷ 0x30 ∷ 0x20 ∷ 0x31 ∷ 0x20 ∷ 0x31 ∷ 0x20 ∷ 0x31 ∷ 0x20 ∷ 0x30 ∷ 0x20 ∷ 0x30 ∷ 0x20 ∷ 0x30 ∷ 0x20 ∷ 0x61 ∷ []

abbrev closes1 : List ℕ
closes1 = 0x43 ∷ 0x20 ∷ 0x31 ∷ []

abbrev pub example_lines : List (List ℕ)
example_lines = opens2 ∷ opens1 ∷ closes1 ∷ closes1 ∷ []

-- `00000000 2 1`, `C0000043 - 0`, `00000000 - 0`, `C0000008 - 0`
abbrev pub example_printed : List ℕ
example_printed =
    (0x30 ∷ 0x30 ∷ 0x30 ∷ 0x30 ∷ 0x30 ∷ 0x30 ∷ 0x30 ∷ 0x30 ∷ 0x20 ∷ 0x32 ∷ 0x20 ∷ 0x31 ∷ 0x0A ∷ [])
    ++ (0x43 ∷ 0x30 ∷ 0x30 ∷ 0x30 ∷ 0x30 ∷ 0x30 ∷ 0x34 ∷ 0x33 ∷ 0x20 ∷ 0x2D ∷ 0x20 ∷ 0x30 ∷ 0x0A ∷ [])
    ++ (0x30 ∷ 0x30 ∷ 0x30 ∷ 0x30 ∷ 0x30 ∷ 0x30 ∷ 0x30 ∷ 0x30 ∷ 0x20 ∷ 0x2D ∷ 0x20 ∷ 0x30 ∷ 0x0A ∷ [])
    ++ (0x43 ∷ 0x30 ∷ 0x30 ∷ 0x30 ∷ 0x30 ∷ 0x30 ∷ 0x30 ∷ 0x38 ∷ 0x20 ∷ 0x2D ∷ 0x20 ∷ 0x30 ∷ 0x0A ∷ [])

pub example_on_tables : script store_step (fresh_tables (replicate accounts all_access) false) example_lines ≡ example_printed
unfolding computes
example_on_tables = refl

pub example_on_model : script model_step (fresh_model (replicate accounts all_access) false) example_lines ≡ example_printed
unfolding computes
example_on_model = refl
