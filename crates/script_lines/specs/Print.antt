-- What is printed of a reply: the status in eight hexadecimal digits, the action's digit or `-`, and the handle.
use Rattle.base.specs.Base.{ℕ, zero, suc, cond, List, [], Option, none, some, length, take, ltb, Seen}
use Rattle.std.specs.Prelude.{◌/◌, ◌%◌, ◌+◌, ◌≤◌, ◌≡◌, ◌∷◌, ◌++◌}
use Rattle.script_lines.specs.Lines.{space}

abbrev pub line_end : ℕ
line_end = 0x0A

abbrev pub dash : ℕ
dash = 0x2D

-- 0 to 9, then A to F
unfoldable pub digit : ℕ → ℕ
digit n = cond (ltb n 10) (0x30 + n) (0x37 + n)

-- the lowest digits of a number, as many as asked for, before those that stand already
unfoldable pub digits_onto : ℕ → ℕ → ℕ → List ℕ → List ℕ
digits_onto base zero n after = after
digits_onto base (suc width) n after = digits_onto base width (n / base) (digit (n % base) ∷ after)

abbrev pub digits : ℕ → ℕ → ℕ → List ℕ
digits base width n = digits_onto base width n []

-- how many decimal digits a number has, where they are at most one more than `more`
unfoldable pub width_up_to : ℕ → ℕ → ℕ
width_up_to zero n = 1
width_up_to (suc more) n = cond (ltb n 10) 1 (suc (width_up_to more (n / 10)))

-- a number of 64 bits has at most 20
unfoldable pub decimal_width : ℕ → ℕ
decimal_width n = width_up_to 19 n

abbrev pub decimal_digits : ℕ → List ℕ
decimal_digits n = digits 10 (decimal_width n) n

abbrev pub hex_digits : ℕ → List ℕ
hex_digits n = digits 16 8 n

unfoldable pub action_byte : Option ℕ → ℕ
action_byte none = dash
action_byte (some a) = digit a

unfoldable pub printed : Seen → List ℕ
printed s =
    hex_digits s.status
    ++ (space ∷ action_byte s.action ∷ space ∷ [])
    ++ decimal_digits s.handle
    ++ (line_end ∷ [])

-- `?`
abbrev pub unknown_line : List ℕ
unknown_line = 0x3F ∷ line_end ∷ []

-- what stands before a place, and a text after it up to its end, where there is room for it
pub record Appended (before : List ℕ) (at : ℕ) (text : List ℕ) (end : ℕ) (after : List ℕ) : Type 0 where
  pub is : end ≤ length before → take end after ≡ take at before ++ text
  pub kept : length after ≡ length before
