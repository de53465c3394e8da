-- Reading at a place of a line: one byte more, and where the reading ends.
use Rattle.base.{specs.Base.{ℕ, ◌+◌, ◌-◌, ◌*◌, ◌≤◌, ◌<◌, ◌≡◌, true, false, List, [], ◌∷◌, none, some, length, get_or, drop, leb, is_empty}, proofs.Laws.{◌∙◌, ap, arith, by_cases, and_left, none≢some, some_injective, eq-eqb, ne_eqb, le-leb, lt-leb, get_or_default, drop_next, drop_of_length-le}}
use lib.Seq.{get_or-drop, drop-drop}
use borrow.Author.Tests.{leb-true}
use Rattle.store.specs.Calls.{closes}
use Rattle.script_lines.specs.{Lines.{◌>>=◌, Field, line_limit, space, most32, most64, is_digit, digits_from, number, spaced, field, open_line, close_line, command, parse_line}, Found.field_at}

pub digit_low : (byte : ℕ) → is_digit byte ≡ true → 0x30 ≤ byte
unfolding is_digit
digit_low byte h = leb-true 0x30 byte (and_left (leb 0x30 byte) (leb byte 0x39) h)

module _ (most value : ℕ) (line : List ℕ) (at : ℕ) where
  pub digits_end : length line ≤ at → digits_from most value (drop at line) ≡ some (field_at line value (length line))
  unfolding digits_from
  digits_end h = rw (drop_of_length-le line h, drop_of_length-le line {i = length line} (omega arith))

  pub digits_stop : at < length line → is_digit (get_or line at 0) ≡ false
      → digits_from most value (drop at line) ≡ some (field_at line value at)
  unfolding digits_from
  digits_stop h e = rw (drop_next line at 0 h, e)

  pub digits_over : at < length line → is_digit (get_or line at 0) ≡ true
      → leb (value * 10 + (get_or line at 0 - 0x30)) most ≡ false → digits_from most value (drop at line) ≡ none
  unfolding digits_from
  digits_over h e f = rw (drop_next line at 0 h, e, f)

  pub digits_next : at < length line → is_digit (get_or line at 0) ≡ true
      → leb (value * 10 + (get_or line at 0 - 0x30)) most ≡ true
      → digits_from most value (drop at line) ≡ digits_from most (value * 10 + (get_or line at 0 - 0x30)) (drop (at + 1) line)
  unfolding digits_from
  digits_next h e f = rw (drop_next line at 0 h, e, f)

-- a number that is read is at most what is allowed
digits_most : (most value : ℕ) (bytes : List ℕ) (f : Field) → value ≤ most → digits_from most value bytes ≡ some f
    → f.value ≤ most
unfolding digits_from
digits_most most value [] f h e =
    let k : value ≡ f.value = ap (λ (g : Field). g.value) (some_injective _ _ e) in omega arith
digits_most most value (byte ∷ bytes) f h e =
    let next = value * 10 + (byte - 0x30) in
    by_cases (is_digit byte)
    (λ d.
    by_cases (leb next most) (λ l. digits_most most next bytes f (leb-true next most l) (rw (d, l) at e))
    (λ l. absurd (none≢some (rw (d, l) at e))))
    (λ d.
    let k : value ≡ f.value = ap (λ (g : Field). g.value) (some_injective _ _ (rw d at e)) in omega arith)

pub number_most : (most : ℕ) (bytes : List ℕ) (f : Field) → number most bytes ≡ some f → f.value ≤ most
unfolding number
number_most most bytes f e =
    by_cases (is_digit (get_or bytes 0 0)) (λ d. digits_most most 0 bytes f (omega arith) (rw d at e))
    (λ d. absurd (none≢some (rw d at e)))

-- the first of the bytes from a place on
pub first_at : (line : List ℕ) (at : ℕ) → get_or (drop at line) 0 0 ≡ get_or line at 0
first_at line at = get_or-drop at line 0 0 ∙ ap (λ (n : ℕ). get_or line n 0) (let z : at + 0 ≡ at = omega arith in z)

module _ (most : ℕ) (line : List ℕ) (at : ℕ) where
  pub number_end : length line ≤ at → number most (drop at line) ≡ none
  unfolding number is_digit
  number_end h = rw (drop_of_length-le line h)

  pub number_other : is_digit (get_or line at 0) ≡ false → number most (drop at line) ≡ none
  unfolding number
  number_other e = rw (first_at line at, e)

  pub number_is : is_digit (get_or line at 0) ≡ true → number most (drop at line) ≡ digits_from most 0 (drop at line)
  unfolding number
  number_is e = rw (first_at line at, e)

module _ (line : List ℕ) (at : ℕ) where
  pub field_none : number most32 (drop at line) ≡ none → field (drop at line) ≡ none
  unfolding field ◌>>=◌
  field_none e = rw e

  module _ (value end : ℕ) (e : number most32 (drop at line) ≡ some (field_at line value end)) where
    pub field_end : length line ≤ end → field (drop at line) ≡ none
    unfolding field ◌>>=◌ spaced
    field_end h = rw (e, drop_of_length-le line h)

    pub field_other : (get_or line end 0 ≡ space → ⊥) → field (drop at line) ≡ none
    unfolding field ◌>>=◌ spaced
    field_other n = rw (e, first_at line end, ne_eqb (get_or line end 0) space n)

    pub field_is : get_or line end 0 ≡ space → field (drop at line) ≡ some (field_at line value (end + 1))
    unfolding field ◌>>=◌ spaced
    field_is s = rw (e, first_at line end, eq-eqb (get_or line end 0) space s, drop-drop 1 end line)

    pub field_fits : value ≤ most32
    field_fits = number_most most32 (drop at line) (field_at line value end) e

module _ (line : List ℕ) (at : ℕ) where
  pub close_none : number most64 (drop at line) ≡ none → close_line (drop at line) ≡ none
  unfolding close_line ◌>>=◌
  close_none e = rw e

  module _ (value end : ℕ) (e : number most64 (drop at line) ≡ some (field_at line value end)) where
    pub close_longer : end < length line → close_line (drop at line) ≡ none
    unfolding close_line ◌>>=◌ is_empty
    close_longer h = rw (e, drop_next line end 0 h)

    pub close_is : length line ≤ end → close_line (drop at line) ≡ some (closes (record { 0 = value }))
    unfolding close_line ◌>>=◌ is_empty
    close_is h = rw (e, drop_of_length-le line h)

-- a line by its first two bytes
module _ (line : List ℕ) where
  pub line_long : line_limit < length line → parse_line line ≡ none
  unfolding parse_line
  line_long h = rw (lt-leb (length line) line_limit h)

  module _ (h : length line ≤ line_limit) where
    pub line_unspaced : (get_or line 1 0 ≡ space → ⊥) → parse_line line ≡ none
    unfolding parse_line
    line_unspaced n = rw (le-leb (length line) line_limit h, ne_eqb (get_or line 1 0) space n)

    pub line_short : length line < 2 → parse_line line ≡ none
    line_short k =
        let d = get_or_default line 0 {n = 1} (omega arith) in line_unspaced (λ e. let z : ⊥ = omega arith in z)

    pub line_command : get_or line 1 0 ≡ space → parse_line line ≡ command (get_or line 0 0) (drop 2 line)
    unfolding parse_line
    line_command e = rw (le-leb (length line) line_limit h, eq-eqb (get_or line 1 0) space e)

pub command_open : (letter : ℕ) (bytes : List ℕ) → letter ≡ 0x4F → command letter bytes ≡ open_line bytes
unfolding command
command_open letter bytes e = rw e

pub command-close : (letter : ℕ) (bytes : List ℕ) → letter ≡ 0x43 → command letter bytes ≡ close_line bytes
unfolding command
command-close letter bytes e = rw e

pub command_other : (letter : ℕ) (bytes : List ℕ) → (letter ≡ 0x4F → ⊥) → (letter ≡ 0x43 → ⊥) → command letter bytes ≡ none
unfolding command
command_other letter bytes n m = rw (ne_eqb letter 0x4F n, ne_eqb letter 0x43 m)
