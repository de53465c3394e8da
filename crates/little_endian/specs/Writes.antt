-- A list written in place.
use Rattle.std.specs.Prelude.{ℕ}
use lib.{ListN.length, Seq.sets}
use mathlib.Core.{Path.◌≡◌, List.List}

-- m is l with xs written from the place `at` on
pub record Wrote (l : List ℕ) (at : ℕ) (xs m : List ℕ) : Type 0 where
  pub is : m ≡ sets l at xs
  pub kept : length m ≡ length l
