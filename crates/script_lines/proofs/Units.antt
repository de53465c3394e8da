-- The bytes of a path copied as units, those of the longest line at most.
use Rattle.base.{specs.Base.{ℕ, ◌+◌, ◌-◌, ◌≤◌, ◌<◌, ◌≡◌, List, length, get_or, set, take, drop, leb}, proofs.Laws.{sym, ◌∙◌, ap, arith, by_cases, length-set, length-drop, take_all}}
use borrow.Author.Tests.{leb-true, leb-false}
use lib.Seq.{take-suc, take-suc-set, get_or-drop}
use native.Mathlib.Numerals.{add-one}
use Rattle.script_lines.specs.Lines.{line_limit}

-- the first bytes from a place on
pub record PathCopied (line : List ℕ) (from : ℕ) (units : List ℕ) (count : ℕ) : Type 0 where
  pub long : length units ≡ line_limit
  pub is : take count units ≡ take count (drop from line)

module _ {line : List ℕ} {from : ℕ} {units : List ℕ} {count : ℕ} (copied : PathCopied line from units count) where
  -- one byte more
  pub units_next : count < line_limit → from + count < length line
      → PathCopied line from (set units count (get_or line (from + count) 0)) (count + 1)
  units_next h b =
      let k = copied.long in
      let d = length-drop from line in
      record {
        long = length-set units count (get_or line (from + count) 0) ∙ k;
        is = rw (add-one, take-suc-set units count (get_or line (from + count) 0) (omega arith), take-suc (drop from line) count 0 (omega arith), copied.is, get_or-drop from line count 0);
      }

  -- as many as the longest line has, or as a line has
  pub units_all : count ≤ line_limit → (count < line_limit → length line - from ≤ count)
      → take count units ≡ take line_limit (drop from line)
  units_all h f =
      by_cases (leb line_limit count)
      (λ e.
      let b = leb-true line_limit count e in
      copied.is ∙ ap (λ (n : ℕ). take n (drop from line)) (let z : count ≡ line_limit = omega arith in z))
      (λ e.
      let b = leb-false line_limit count e in
      let k : length line - from ≤ count = f (omega arith) in
      let d = length-drop from line in
      copied.is ∙ take_all count (drop from line) (omega arith) ∙ sym (take_all line_limit (drop from line) (omega arith)))
