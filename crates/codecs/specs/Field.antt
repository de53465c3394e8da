-- A value inside another: where its bytes stand, and what reading and writing them means.
use Rattle.std.specs.Prelude.{ℕ, ◌+◌, ◌≤◌}
use lib.{ListN.length, Seq.sets}
use mathlib.Core.{Path.◌≡◌, Bool.true, List.List}
use Rattle.little_endian.specs.LittleEndian.{part}
use Rattle.codecs.specs.Codec.{Codec}

-- the bytes of d stand at the place `at` of those of c: to read them is `get`, to write inside them is `put`,
-- and bytes that stand for a value of c do so while those of d do
pub record Field {A B : Type 0} (c : Codec A) (d : Codec B) (at : ℕ) (get : A → B) (put : A → B → A) : Type 0 where
  pub inside : at + d.size ≤ c.size
  pub reads : (bs : List ℕ) → length bs ≡ c.size → get (c.decode bs) ≡ d.decode (part bs at d.size)
  pub writes : (bs : List ℕ) (j : ℕ) (xs : List ℕ) → length bs ≡ c.size → j + length xs ≤ d.size
      → c.decode (sets bs (at + j) xs) ≡ put (c.decode bs) (d.decode (sets (part bs at d.size) j xs))
  pub held : (bs : List ℕ) → length bs ≡ c.size → c.stands bs ≡ true → d.stands (part bs at d.size) ≡ true
  pub stays : (bs : List ℕ) (j : ℕ) (xs : List ℕ) → length bs ≡ c.size → j + length xs ≤ d.size → c.stands bs ≡ true
      → d.stands (sets (part bs at d.size) j xs) ≡ true → c.stands (sets bs (at + j) xs) ≡ true
