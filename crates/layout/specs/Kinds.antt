-- The numbers of a kind and of a mark.
use Rattle.base.specs.Base.{ℕ, zero, suc, Bool, true, false, FileType, Unused, Data, Directory}

-- how many there are
abbrev pub kinds : ℕ
kinds = 3

abbrev pub marks : ℕ
marks = 2

unfoldable pub kind_number : FileType → ℕ
kind_number Unused = 0
kind_number Data = 1
kind_number Directory = 2

-- total: bytes with a larger number stand for no tables
unfoldable pub kind_of : ℕ → FileType
kind_of zero = Unused
kind_of (suc zero) = Data
kind_of (suc (suc n)) = Directory

unfoldable pub mark_number : Bool → ℕ
mark_number false = 0
mark_number true = 1

unfoldable pub mark_of : ℕ → Bool
mark_of zero = false
mark_of (suc n) = true
