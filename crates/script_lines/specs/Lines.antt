-- What a line of the script asks (document 01, "A program reads lines"). A line is its bytes, without the line end.
use Rattle.std.specs.Prelude.{◌+◌, ◌-◌, ◌*◌, ◌&&◌, ◌∷◌}
use Rattle.base.specs.Base.{ℕ, Bool, cond, List, [], Option, none, some, length, get_or, drop, eqb, leb, all, is_empty}
use Rattle.store.specs.Calls.{Call, opens, closes}

infixl 10 ◌>>=◌
unfoldable pub ◌>>=◌ : {A B : Type 0} → Option A → (A → Option B) → Option B
none >>= f = none
some a >>= f = f a

abbrev pub line_limit : ℕ
line_limit = 1024

abbrev pub space : ℕ
space = 0x20

abbrev pub most32 : ℕ
most32 = 0xFFFFFFFF

abbrev pub most64 : ℕ
most64 = 0xFFFFFFFFFFFFFFFF

unfoldable pub is_digit : ℕ → Bool
is_digit byte = leb 0x30 byte && leb byte 0x39

unfoldable pub is_ascii : ℕ → Bool
is_ascii byte = leb byte 0x7F

-- a number that a line has, and the bytes after it
pub record Field : Type 0 where
  pub value : ℕ
  pub rest : List ℕ

-- the digits up to the first byte that is none, after digits of this value; none where the value passes `most`
unfoldable pub digits_from : ℕ → ℕ → List ℕ → Option Field
digits_from most value [] = some (record { value = value; rest = [] })
digits_from most value (byte ∷ bytes) =
    let next = value * 10 + (byte - 0x30) in
    cond (is_digit byte) (cond (leb next most) (digits_from most next bytes) none)
    (some (record { value = value; rest = byte ∷ bytes }))

-- a decimal number, of at least one digit and at most `most`
unfoldable pub number : ℕ → List ℕ → Option Field
number most bytes = cond (is_digit (get_or bytes 0 0)) (digits_from most 0 bytes) none

-- a space, and the bytes after it
unfoldable pub spaced : Field → Option Field
spaced f = cond (eqb (get_or f.rest 0 0) space) (some (record { value = f.value; rest = drop 1 f.rest })) none

-- a number of 32 bits, with a space after it
unfoldable pub field : List ℕ → Option Field
field bytes = number most32 bytes >>= spaced

-- `account access share disposition options attributes fold path`
unfoldable pub open_line : List ℕ → Option Call
open_line bytes = do
  account ← field bytes
  access ← field account.rest
  share ← field access.rest
  disposition ← field share.rest
  options ← field disposition.rest
  attributes ← field options.rest
  fold ← field attributes.rest
  cond (leb fold.value 1 && all is_ascii fold.rest)
      (some
      (opens
      (record {
        account = account.value;
        access = access.value;
        share = share.value;
        disposition = disposition.value;
        options = options.value;
        attributes = attributes.value;
        fold = eqb fold.value 1;
      })
      fold.rest))
      none

-- `handle`
unfoldable pub close_line : List ℕ → Option Call
close_line bytes = do
  handle ← number most64 bytes
  cond (is_empty handle.rest) (some (closes (record { 0 = handle.value }))) none

-- `O `, or `C `, and what it asks
unfoldable pub command : ℕ → List ℕ → Option Call
command letter bytes = cond (eqb letter 0x4F) (open_line bytes) (cond (eqb letter 0x43) (close_line bytes) none)

unfoldable pub parse_line : List ℕ → Option Call
parse_line line =
    cond (leb (length line) line_limit && eqb (get_or line 1 0) space) (command (get_or line 0 0) (drop 2 line)) none
