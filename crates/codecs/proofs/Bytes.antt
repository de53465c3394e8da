-- What every place of a list of numbers has, 0 past its end, every place of a part of it has. So a part of a list of bytes
-- is one.
use Prim.Native.Nat.{ℕ, zero, suc, ◌+◌, ◌<◌}
use lib.{ListN.{get_or, take, drop}, Seq.get_or-drop}
use mathlib.Core.List.{List, [], ◌∷◌}
use native.Mathlib.Omega.{arith}
use Rattle.little_endian.specs.LittleEndian.{Bytes}

module _ (P : ℕ → Type 0) where
  pub take_places : P 0 → (n : ℕ) (bs : List ℕ) → ((i : ℕ) → P (get_or bs i 0)) → (i : ℕ) → P (get_or (take n bs) i 0)
  take_places z zero bs h i = z
  take_places z (suc n) [] h i = z
  take_places z (suc n) (b ∷ bs) h zero = h 0
  take_places z (suc n) (b ∷ bs) h (suc i) = take_places z n bs (λ k. h (suc k)) i

  pub drop_places : (n : ℕ) (bs : List ℕ) → ((i : ℕ) → P (get_or bs i 0)) → (i : ℕ) → P (get_or (drop n bs) i 0)
  drop_places n bs h i = rw get_or-drop (h (n + i))

pub take_bytes : (n : ℕ) (bs : List ℕ) → Bytes bs → Bytes (take n bs)
take_bytes = take_places (λ b. b < 256) (omega arith)

pub drop_bytes : (n : ℕ) (bs : List ℕ) → Bytes bs → Bytes (drop n bs)
drop_bytes = drop_places (λ b. b < 256)
