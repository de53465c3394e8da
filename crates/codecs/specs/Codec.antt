-- A form in bytes of the values of a type, and how forms are put together. Every byte means something: no padding.
use Rattle.std.specs.Prelude.{ℕ, zero, suc, ◌+◌, ◌*◌, ◌<◌, ◌^◌}
use lib.{Dec.ltb, ListN.{length, take, drop}}
use mathlib.Core.{Path.◌≡◌, Bool.{Bool, true, ◌&&◌}, List.{List, [], ◌∷◌, ◌++◌}}
use Rattle.little_endian.specs.LittleEndian.{from_bytes, to_bytes, Bytes}

-- how many bytes a value takes; its bytes; and of so many bytes, what they stand for and whether for a value at all
pub record Codec (A : Type 0) : Type 0 where
  pub size : ℕ
  pub encode : A → List ℕ
  pub decode : List ℕ → A
  pub stands : List ℕ → Bool

-- a number in w bytes, least significant first
abbrev pub number : ℕ → Codec ℕ
number w = record { size = w; encode = to_bytes w; decode = from_bytes; stands = λ bs. true }

-- one of n cases by its number, in two bytes
abbrev pub cases : {A : Type 0} → ℕ → (ℕ → A) → (A → ℕ) → Codec A
cases n to from =
    record {
      size = 2;
      encode = λ x. to_bytes 2 (from x);
      decode = λ bs. to (from_bytes bs);
      stands = λ bs. ltb (from_bytes bs) n;
    }

-- one value, and another after it
infixr 20 ◌⊗◌
abbrev pub ◌⊗◌ : {A B : Type 0} → Codec A → Codec B → Codec (A × B)
c ⊗ d =
    record {
      size = c.size + d.size;
      encode = λ p. c.encode p.0 ++ d.encode p.1;
      decode = λ bs. (c.decode (take c.size bs), d.decode (drop c.size bs));
      stands = λ bs. c.stands (take c.size bs) && d.stands (drop c.size bs);
    }

-- the same bytes for the values of another type
abbrev pub via : {A B : Type 0} → (A → B) → (B → A) → Codec A → Codec B
via to from c =
    record {
      size = c.size;
      encode = λ b. c.encode (from b);
      decode = λ bs. to (c.decode bs);
      stands = c.stands;
    }

module _ {A : Type 0} (c : Codec A) where
  unfoldable pub encode_row : List A → List ℕ
  encode_row [] = []
  encode_row (x ∷ xs) = c.encode x ++ encode_row xs

  unfoldable pub decode_row : ℕ → List ℕ → List A
  decode_row zero bs = []
  decode_row (suc n) bs = c.decode (take c.size bs) ∷ decode_row n (drop c.size bs)

  unfoldable pub row_stands : ℕ → List ℕ → Bool
  row_stands zero bs = true
  row_stands (suc n) bs = c.stands (take c.size bs) && row_stands n (drop c.size bs)

  -- n values side by side
  abbrev pub row : ℕ → Codec (List A)
  row n = record { size = n * c.size; encode = encode_row; decode = decode_row n; stands = row_stands n }

-- every element has what F says
unfoldable pub Each : {A : Type 0} → (A → Type 0) → List A → Type 0
Each F [] = Unit {0}
Each F (x ∷ xs) = F x × Each F xs

-- what a number of w bytes, and a row of n values, must be to fit
abbrev pub Below : ℕ → ℕ → Type 0
Below w x = x < 256 ^ w

pub record RowFits {A : Type 0} (n : ℕ) (F : A → Type 0) (xs : List A) : Type 0 where
  pub count : length xs ≡ n
  pub each : Each F xs

-- a form loses nothing, either way, for values that fit
pub record Lawful {A : Type 0} (c : Codec A) (F : A → Type 0) : Type 0 where
  pub long : (x : A) → F x → length (c.encode x) ≡ c.size
  pub back : (x : A) → F x → c.decode (c.encode x) ≡ x
  pub forth : (bs : List ℕ) → Bytes bs → length bs ≡ c.size → c.stands bs ≡ true → c.encode (c.decode bs) ≡ bs
  pub stand : (x : A) → F x → c.stands (c.encode x) ≡ true
  pub fits : (bs : List ℕ) → Bytes bs → length bs ≡ c.size → F (c.decode bs)
