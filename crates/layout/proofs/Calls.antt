-- A call on lent bytes, by what they stand for.
use Rattle.base.{specs.Base.{ℕ, ◌≡◌, true, false, List, refuse_if, ◌>>◌, concluded, Tables, Step, refused_reply, FileCorruptError}, proofs.Laws.{sym, ◌∙◌}}
use Rattle.little_endian.specs.LittleEndian.{Bytes}
use Rattle.layout.proofs.Tables.{decode-encode, encode-decode, encode_stands}
use Rattle.layout.specs.{Layout.{decode, stands_for_tables, Changed}, Fits.TablesFit, Calls.{in_bytes, on_bytes}}

module _ (call : Tables → Step Tables) (bs : List ℕ) where
  -- bytes that stand for no tables are left
  pub no_tables : stands_for_tables bs ≡ false → on_bytes call bs ≡ record { reply = refused_reply FileCorruptError; state = bs }
  unfolding on_bytes concluded refuse_if ◌>>◌
  no_tables e = rw e

  module _ (stands : stands_for_tables bs ≡ true) where
    pub on-tables : on_bytes call bs ≡ in_bytes (call (decode bs))
    unfolding on_bytes concluded refuse_if ◌>>◌
    on-tables = rw stands

    -- a call that leaves the tables, as a refusal does, leaves the bytes
    pub bytes_left : Bytes bs → (call (decode bs)).state ≡ decode bs → (on_bytes call bs).state ≡ bs
    bytes_left b e = rw (on-tables, e) (encode-decode bs b stands)

    module _ (fits : TablesFit (call (decode bs)).state) where
      pub decoded_after : decode (on_bytes call bs).state ≡ (call (decode bs)).state
      decoded_after = rw on-tables (decode-encode (call (decode bs)).state fits)

      pub stands_after : stands_for_tables (on_bytes call bs).state ≡ true
      stands_after = rw on-tables (encode_stands (call (decode bs)).state fits)

    -- bytes changed to stand for what the call leaves are what it leaves
    pub state_written : (m : List ℕ) → Bytes m → Changed bs m (call (decode bs)).state → m ≡ (on_bytes call bs).state
    state_written m b c = sym (encode-decode m b (c.stays stands)) ∙ rw (on-tables, c.is)
