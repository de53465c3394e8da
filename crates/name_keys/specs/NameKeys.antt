-- The key of a name in a place. No rule depends on it: it only tells names apart quickly.
use Rattle.base.specs.Base.{ℕ, cond, List, [], eqb, length, get_or, file_name_limit}
use Rattle.std.specs.Prelude.{◌/◌, ◌%◌, ◌+◌, ◌*◌, ◌∷◌}

-- the weights of a unit's low byte and of its high one, by place
unfoldable pub low_weights : List ℕ
low_weights =
    0x6973 ∷ 0x7953 ∷ 0x534F ∷ 0x7289 ∷ 0x5351 ∷ 0x462F ∷ 0x4945 ∷ 0x691F ∷
    0x4497 ∷ 0x4C0D ∷ 0x6ECF ∷ 0x4A99 ∷ 0x476D ∷ 0x7471 ∷ 0x40F3 ∷ 0x5B7B ∷
    0x44CD ∷ 0x4B01 ∷ 0x7781 ∷ 0x7587 ∷ 0x48F1 ∷ 0x5ECF ∷ 0x4B9D ∷ 0x4689 ∷
    0x7657 ∷ 0x4791 ∷ 0x69D7 ∷ 0x4861 ∷ 0x4FD9 ∷ 0x7947 ∷ 0x5C93 ∷ 0x50B9 ∷
    []

unfoldable pub high_weights : List ℕ
high_weights =
    0x504F ∷ 0x4A9F ∷ 0x794F ∷ 0x47EB ∷ 0x49DF ∷ 0x4AF3 ∷ 0x72C7 ∷ 0x4659 ∷
    0x7CF5 ∷ 0x5C4D ∷ 0x45F7 ∷ 0x4741 ∷ 0x6DE3 ∷ 0x510B ∷ 0x6511 ∷ 0x75A7 ∷
    0x5277 ∷ 0x4535 ∷ 0x4F13 ∷ 0x4913 ∷ 0x677D ∷ 0x47B7 ∷ 0x6877 ∷ 0x574B ∷
    0x5723 ∷ 0x4D31 ∷ 0x4A71 ∷ 0x491D ∷ 0x51C7 ∷ 0x580D ∷ 0x6FAB ∷ 0x4C79 ∷
    []

unfoldable pub weighed : ℕ → ℕ → ℕ → ℕ
weighed unit low high = unit % 256 * low + unit / 256 * high

-- the units from place i on
unfoldable pub weighed_from : ℕ → List ℕ → ℕ
weighed_from i [] = 0
weighed_from i (u ∷ us) = weighed u (get_or low_weights i 0) (get_or high_weights i 0) + weighed_from (i + 1) us

-- 0 is no key
unfoldable pub name_key : ℕ → List ℕ → ℕ
name_key number us = number * 0x100000000 + weighed_from 0 us + 1

-- of a name as a record has it; no other list has one
unfoldable pub stored_key : ℕ → List ℕ → ℕ
stored_key number n = cond (eqb (length n) file_name_limit) (name_key number n) 0
