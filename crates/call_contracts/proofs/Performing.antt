-- How a call keeps its promise: it refuses and leaves every byte, or it writes what the definition leaves.
use Rattle.base.{specs.Base.{ℕ, ◌≡◌, true, false, not, List, length, Tables, Step, Checked, refuse, ◌>>◌, refuse_if, concluded, refused_reply, Answers, seen, Status, FileCorruptError, Refused, Answer}, proofs.Laws.{eqb-true, refl, sym, ◌∙◌, ap, and_left, and_right, by_cases, not_both}}
use Rattle.audit.specs.Sound.{sound_bytes}
use Rattle.consistency.specs.Test.{consistent}
use Rattle.layout.{specs.{Layout.{tables_size, decode, stands_for_tables, Changed}, Calls.on_bytes}, proofs.Calls.{no_tables, on-tables, bytes_left, state_written}}
use Rattle.little_endian.specs.LittleEndian.{Bytes}
use Rattle.store.specs.Store.{when_consistent}
use Rattle.call_contracts.specs.Performs.{StandFor, Performs}

-- the answer of a refusal
abbrev pub refusal : Status → Answer
refusal s = record { outcome = Refused s; granted = 0 }

module _ (call : Tables → Step Tables) (bs : List ℕ) (bytes : Bytes bs) where
  -- bytes that stand for no tables
  pub performs_none : stands_for_tables bs ≡ false → Performs (refusal FileCorruptError) bs bs call
  performs_none e =
      record {
        answers = rw (no_tables call bs e) (record { reply = refl; state = refl });
        tables = λ s. absurd (not_both s e);
      }

  module _ (stands : stands_for_tables bs ≡ true) where
    -- a refusal: the definition leaves its tables, the code every byte
    pub performs_refusal : (s : Status) → call (decode bs) ≡ record { reply = refused_reply s; state = decode bs }
        → Performs (refusal s) bs bs call
    performs_refusal s e =
        record {
          answers =
              record {
                reply = rw (on-tables call bs stands, e);
                state = sym (bytes_left call bs stands bytes (ap (λ (q : Step Tables). q.state) e));
              };
          tables = λ _. record { stands = stands; is = sym (ap (λ (q : Step Tables). q.state) e) };
        }

    -- what was written stands for what the definition leaves
    pub performs_written : (a : Answer) (m : List ℕ) → Bytes m → Changed bs m (call (decode bs)).state
        → seen (record { outcome = a.outcome; granted = a.granted }) ≡ seen (call (decode bs)).reply → Performs a bs m call
    performs_written a m b c e =
        record {
          answers =
              record {
                reply = rw (on-tables call bs stands) e;
                state = state_written call bs stands m b c;
              };
          tables = λ _. record { stands = c.stays stands; is = c.is };
        }

-- sound bytes are as many as the tables have
pub sound_long : (bs : List ℕ) → sound_bytes bs ≡ true → length bs ≡ tables_size
unfolding sound_bytes stands_for_tables
sound_long bs e = eqb-true _ _ (and_left _ _ (and_left (stands_for_tables bs) _ e))

-- a call that asks for consistency first
module _ (answer : Tables → Checked (Step Tables)) (bs : List ℕ) where
  abbrev asking : Tables → Step Tables
  asking t = when_consistent t (answer t)

  pub performs_unsound : Bytes bs → sound_bytes bs ≡ false → Performs (refusal FileCorruptError) bs bs asking
  unfolding sound_bytes when_consistent concluded refuse_if ◌>>◌
  performs_unsound b e =
      by_cases (stands_for_tables bs)
      (λ s. performs_refusal asking bs b s FileCorruptError (rw (rw s at e)))
      (λ s. performs_none asking bs b s)

  pub sound_stands : sound_bytes bs ≡ true → stands_for_tables bs ≡ true
  unfolding sound_bytes
  sound_stands e = and_left (stands_for_tables bs) _ e

  pub sound_asks : sound_bytes bs ≡ true → asking (decode bs) ≡ concluded (decode bs) (answer (decode bs))
  unfolding sound_bytes when_consistent concluded refuse_if ◌>>◌
  sound_asks e = rw (and_right (stands_for_tables bs) _ e)
