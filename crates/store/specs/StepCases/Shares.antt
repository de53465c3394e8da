-- Share counts, and the share check from them beside the pair rule.
use Rattle.std.specs.Prelude.{◌≡◌, ◌∷◌}
use Rattle.base.specs.Base.{ℕ, cond, List, [], zero_counts, Open, ShareCounts, StreamNo, Terms}
use Rattle.sharing.specs.Sharing.{any_conflict, counts_of, share_check, with_open, without_open}
use Rattle.store.specs.{Evaluate.computes, StepCases.Form.{entry, failing}}

-- an open on stream 1 with this access and share; one on another stream
abbrev pub on : ℕ → ℕ → Open
on granted share = entry 1 1 1 granted share

abbrev pub elsewhere : Open
elsewhere = entry 2 1 2 0x1F01FF 0

abbrev pub terms : ℕ → ℕ → Terms
terms granted share = record { granted = granted; share = share }

pub data ShareCase : Type 0 where
  -- opens on stream 1 and its seven share counts
  counts : List Open → List ℕ → ShareCase
  -- beside them a new open on stream 1 on these terms passes, or conflicts
  passes : List Open → Terms → ShareCase
  conflicts : List Open → Terms → ShareCase

unfoldable pub counts_row : ShareCounts → List ℕ
counts_row c =
    c.opens
    ∷ c.readers
    ∷ c.writers
    ∷ c.deleters
    ∷ c.shared_read
    ∷ c.shared_write
    ∷ c.shared_delete
    ∷ []

-- the counts of opens that join one by one
unfoldable pub joined : List Open → ShareCounts
joined [] = zero_counts
joined (o ∷ os) = with_open o (joined os)

unfoldable pub answers : List Open → Terms → List (List ℕ)
answers os t =
    let s : StreamNo = record { 0 = 1 } in
    (cond (share_check (counts_of s (elsewhere ∷ os)) t) 1 0 ∷ [])
    ∷ (cond (any_conflict s t (elsewhere ∷ os)) 1 0 ∷ [])
    ∷ []

-- counted at once, joined one by one, and with one that joined and left
unfoldable pub observed_shares : ShareCase → List (List ℕ)
unfolding computes counts_row joined answers
observed_shares (counts os cs) =
    counts_row (counts_of (record { 0 = 1 }) (elsewhere ∷ os))
    ∷ counts_row (joined os)
    ∷ counts_row (without_open (on 0x1F01FF 7) (with_open (on 0x1F01FF 7) (joined os)))
    ∷ []
observed_shares (passes os t) = answers os t
observed_shares (conflicts os t) = answers os t

unfoldable pub expected_shares : ShareCase → List (List ℕ)
unfolding observed_shares
expected_shares (counts os cs) = cs ∷ cs ∷ cs ∷ []
expected_shares (passes os t) = (0 ∷ []) ∷ (0 ∷ []) ∷ []
expected_shares (conflicts os t) = (1 ∷ []) ∷ (1 ∷ []) ∷ []

abbrev pub SharesHold : List ShareCase → Type 0
SharesHold cases = failing observed_shares expected_shares 0 cases ≡ []

abbrev pub share_cases : List ShareCase
share_cases =
    -- counted opens, readers, writers, deleters, read sharers, write sharers, delete sharers
    counts [] (0 ∷ 0 ∷ 0 ∷ 0 ∷ 0 ∷ 0 ∷ 0 ∷ [])
    ∷ counts (on 0x1 0 ∷ []) (1 ∷ 1 ∷ 0 ∷ 0 ∷ 0 ∷ 0 ∷ 0 ∷ [])
    ∷ counts (on 0x20 1 ∷ []) (1 ∷ 1 ∷ 0 ∷ 0 ∷ 1 ∷ 0 ∷ 0 ∷ [])
    ∷ counts (on 0x2 2 ∷ []) (1 ∷ 0 ∷ 1 ∷ 0 ∷ 0 ∷ 1 ∷ 0 ∷ [])
    ∷ counts (on 0x4 4 ∷ []) (1 ∷ 0 ∷ 1 ∷ 0 ∷ 0 ∷ 0 ∷ 1 ∷ [])
    ∷ counts (on 0x10000 7 ∷ []) (1 ∷ 0 ∷ 0 ∷ 1 ∷ 1 ∷ 1 ∷ 1 ∷ [])
    ∷ counts (on 0x10027 0 ∷ []) (1 ∷ 1 ∷ 1 ∷ 1 ∷ 0 ∷ 0 ∷ 0 ∷ [])
    ∷ counts (on 0x1E01D8 7 ∷ []) (0 ∷ 0 ∷ 0 ∷ 0 ∷ 0 ∷ 0 ∷ 0 ∷ [])
    ∷ counts (on 0x20 3 ∷ on 0x20 4 ∷ on 0x20 2 ∷ on 0x80 7 ∷ on 1 2 ∷ on 4 1 ∷ on 0x27 3 ∷ []) (6 ∷ 5 ∷ 2 ∷ 0 ∷ 3 ∷ 4 ∷ 1 ∷ [])
    -- a kind is held and its sharers are fewer than the counted opens, or not
    ∷ conflicts (on 2 6 ∷ []) (terms 0x1 7)
    ∷ conflicts (on 2 6 ∷ []) (terms 0x20 7)
    ∷ passes (on 2 1 ∷ []) (terms 0x1 7)
    ∷ passes (on 2 1 ∷ []) (terms 0x20 7)
    ∷ conflicts (on 1 5 ∷ []) (terms 0x2 7)
    ∷ conflicts (on 1 5 ∷ []) (terms 0x4 7)
    ∷ passes (on 1 2 ∷ []) (terms 0x2 7)
    ∷ passes (on 1 2 ∷ []) (terms 0x4 7)
    ∷ conflicts (on 1 3 ∷ []) (terms 0x10000 7)
    ∷ passes (on 1 4 ∷ []) (terms 0x10000 7)
    ∷ conflicts (on 1 7 ∷ on 1 1 ∷ []) (terms 2 7)
    ∷ conflicts (on 1 1 ∷ on 1 7 ∷ []) (terms 2 7)
    ∷ passes (on 1 7 ∷ on 1 3 ∷ []) (terms 2 7)
    -- a kind isn't shared and its holders aren't zero, or are
    ∷ conflicts (on 0x1 7 ∷ []) (terms 2 6)
    ∷ conflicts (on 0x20 7 ∷ []) (terms 2 6)
    ∷ passes (on 0x10002 7 ∷ []) (terms 2 6)
    ∷ conflicts (on 0x2 7 ∷ []) (terms 1 5)
    ∷ conflicts (on 0x4 7 ∷ []) (terms 1 5)
    ∷ passes (on 0x10001 7 ∷ []) (terms 1 5)
    ∷ conflicts (on 0x10000 7 ∷ []) (terms 1 3)
    ∷ passes (on 0x3 7 ∷ []) (terms 1 3)
    ∷ conflicts (on 2 7 ∷ on 2 7 ∷ on 1 7 ∷ []) (terms 2 6)
    -- an uncounted open, there or new; opens on another stream alone
    ∷ passes (on 0x1E01D8 0 ∷ []) (terms 0x1F01FF 0)
    ∷ passes (on 0x1F01FF 0 ∷ []) (terms 0x1E01D8 0)
    ∷ passes (on 0x1F01FF 0 ∷ []) (terms 0x1E01D8 6)
    ∷ conflicts (on 1 7 ∷ []) (terms 2 0)
    ∷ passes (on 0x1E01D8 0 ∷ on 1 3 ∷ []) (terms 2 7)
    ∷ passes [] (terms 0x1F01FF 0)
    ∷ []
