-- The sharing rule. What holds of reading, writing and deleting alike is said once, over the kind.
use Rattle.std.specs.Prelude.{◌+◌, ◌-◌, ◌&&◌, ◌||◌}
use Rattle.base.specs.Base.{ℕ, Bool, cond, not, List, eqb, ltb, has, any, count, keep, Terms, terms_of, StreamNo, Open, ShareCounts}

-- the three kinds of access that are shared
pub data Kind : Type 0 where
  reading writing deleting : Kind

unfoldable pub access_bits : Kind → ℕ
access_bits reading = 0x21
access_bits writing = 0x6
access_bits deleting = 0x10000

unfoldable pub share_bit : Kind → ℕ
share_bit reading = 1
share_bit writing = 2
share_bit deleting = 4

-- some kind passes
unfoldable pub any_kind : (Kind → Bool) → Bool
any_kind p = p reading || p writing || p deleting

-- an open, by its granted access, has the kind; by its sharing mode, shares it
unfoldable pub holds : Kind → ℕ → Bool
holds k granted = has granted (access_bits k)

unfoldable pub shares : Kind → ℕ → Bool
shares k share = has share (share_bit k)

-- an open with none of the three kinds is uncounted
unfoldable pub counted : ℕ → Bool
counted granted = any_kind (λ k. holds k granted)

-- the pair rule (the paper's clash): two counted opens conflict when either has a kind that the other doesn't share
unfoldable pub conflict : Terms → Terms → Bool
conflict t t' =
    counted t.granted
    && counted t'.granted
    && any_kind
    (λ k. (holds k t.granted && not (shares k t'.share)) || (holds k t'.granted && not (shares k t.share)))

unfoldable pub conflicting : Open → Open → Bool
conflicting o o' = conflict (terms_of o) (terms_of o')

-- the opens of a list that are on the stream
unfoldable pub on_stream : StreamNo → Open → Bool
on_stream s o = eqb o.stream.0 s.0

-- some open on the stream conflicts with a new one
unfoldable pub any_conflict : StreamNo → Terms → List Open → Bool
any_conflict s t os = any (λ o. on_stream s o && conflict (terms_of o) t) os

-- the share counts of a list of opens: uncounted ones are in none of them
unfoldable pub is_holder : Kind → Open → Bool
is_holder k o = counted o.granted && holds k o.granted

unfoldable pub is_sharer : Kind → Open → Bool
is_sharer k o = counted o.granted && shares k o.share

-- seven counts: the counted opens, and of each kind the holders and the sharers
abbrev pub counts_over : ℕ → (Kind → ℕ) → (Kind → ℕ) → ShareCounts
counts_over opens holders sharers =
    record {
      opens = opens;
      readers = holders reading;
      writers = holders writing;
      deleters = holders deleting;
      shared_read = sharers reading;
      shared_write = sharers writing;
      shared_delete = sharers deleting;
    }

unfoldable pub counts_of_all : List Open → ShareCounts
counts_of_all os =
    counts_over (count (λ o. counted o.granted) os) (λ k. count (is_holder k) os) (λ k. count (is_sharer k) os)

-- the share counts of a stream (the paper's tallies), of the opens of a list
unfoldable pub counts_of : StreamNo → List Open → ShareCounts
counts_of s os = counts_of_all (keep (on_stream s) os)

-- a count by its kind
unfoldable pub holders : Kind → ShareCounts → ℕ
holders reading c = c.readers
holders writing c = c.writers
holders deleting c = c.deleters

unfoldable pub sharers : Kind → ShareCounts → ℕ
sharers reading c = c.shared_read
sharers writing c = c.shared_write
sharers deleting c = c.shared_delete

-- the share check (the paper's quick check) of a new open, from the counts: a kind is held and its sharers are fewer
-- than the counted opens, or a kind isn't shared and its holders aren't zero
unfoldable pub share_check : ShareCounts → Terms → Bool
share_check c t =
    counted t.granted
    && any_kind
    (λ k.
    (holds k t.granted && ltb (sharers k c) c.opens) || (not (shares k t.share) && not (eqb (holders k c) 0)))

-- the counts with one open more and with one less; an uncounted one changes none
unfoldable pub changed_by : (ℕ → ℕ → ℕ) → Open → ShareCounts → ShareCounts
changed_by ◌⊕◌ o c =
    counts_over (◌⊕◌ c.opens (cond (counted o.granted) 1 0)) (λ k. ◌⊕◌ (holders k c) (cond (is_holder k o) 1 0))
    (λ k. ◌⊕◌ (sharers k c) (cond (is_sharer k o) 1 0))

unfoldable pub with_open : Open → ShareCounts → ShareCounts
with_open = changed_by ◌+◌

unfoldable pub without_open : Open → ShareCounts → ShareCounts
without_open = changed_by ◌-◌
