-- The bytes of the tables that an image of sound tables keeps: as many, zero for the opens, sound, and each record right by
-- itself. Those of sound tables without opens are the tables' own.
use Rattle.base.{specs.Base.{ℕ, ◌-◌, ◌<◌, ◌≡◌, true, false, List, length, drop, replicate, any, open_used, open_slots, zero_open, Tables}, proofs.Laws.{refl, ◌∙◌, ap, and_both, not_is, refuted, any_at}}
use Rattle.audit.specs.Sound.{sound_bytes}
use Rattle.consistency.{specs.Consistent.Consistent, proofs.Equivalence.consistent_iff}
use Rattle.format.specs.Format.{fresh_opens}
use Rattle.image.specs.{Blocks.{image_blocks, record_of, place_of, size_of, without_opens}, Alone.record_alone, Image.restorable}
use Rattle.layout.{specs.{Layout.{tables_size, opens_at, encode, decode}, Fits.TablesFit}, proofs.Tables.{decode-encode, encode-length, encode_stands, encode-decode, stands_length}}
use Rattle.little_endian.specs.LittleEndian.{Bytes, part}
use Rattle.image_laws.specs.RoundTrip.{SameWithoutOpens}
use Rattle.image_laws.proofs.{SavedSound.{sound_stands, sound_consistent, restorable_sound, restorable_unopened}, SavedSlots.none_used, SavedTables.saved_consistent, SavedUnopened.unopened_same, SavedAlone.restorable_alone, SavedFits.{saved_fits, no_opens_behind}}

-- no open is used
fresh-unused : any open_used fresh_opens.rows ≡ false
unfolding open_used
fresh-unused =
    refuted _ (λ u. let p = any_at open_used zero_open fresh_opens.rows u in none_used open_used zero_open refl open_slots p.0 p.2)

-- the bytes of tables that fit, are consistent and have no open
restorable-tables : (t : Tables) → TablesFit t → Consistent t.volume t.opens → any open_used t.opens.rows ≡ false
    → restorable (encode t) ≡ true
unfolding restorable sound_bytes
restorable-tables t fit c none =
    rw (decode-encode t fit)
    (and_both (and_both (encode_stands t fit) ((consistent_iff t.volume t.opens).1 c)) (not_is none))

module _ (bs : List ℕ) (bytes : Bytes bs) (sound : sound_bytes bs ≡ true) where
  fit : TablesFit (without_opens (decode bs))
  fit = saved_fits bs bytes (stands_length bs (sound_stands bs sound))

  pub saved_length : length (encode (without_opens (decode bs))) ≡ tables_size
  saved_length = encode-length (without_opens (decode bs)) fit

  pub saved_opens_zero : drop opens_at (encode (without_opens (decode bs))) ≡ replicate (tables_size - opens_at) 0
  saved_opens_zero = no_opens_behind (decode bs) fit

  pub saved_restorable : restorable (encode (without_opens (decode bs))) ≡ true
  unfolding without_opens
  saved_restorable =
      restorable-tables (without_opens (decode bs)) fit (saved_consistent (decode bs) (sound_consistent bs sound)) fresh-unused

  pub saved_alone : (n : ℕ) → n < image_blocks
      → record_alone (record_of n)
      (part (encode (without_opens (decode bs))) (place_of (record_of n)) (size_of (record_of n)))
      ≡ true
  saved_alone = restorable_alone (encode (without_opens (decode bs))) saved_restorable

pub same_without_opens : SameWithoutOpens
same_without_opens bs bytes sound none =
    ap encode (unopened_same (decode bs) (sound_consistent bs sound) none) ∙ encode-decode bs bytes (sound_stands bs sound)

-- bytes that can be restored are those that an image of their tables keeps
pub restorable-same : (bs : List ℕ) → Bytes bs → restorable bs ≡ true → encode (without_opens (decode bs)) ≡ bs
restorable-same bs bytes ok = same_without_opens bs bytes (restorable_sound bs ok) (restorable_unopened bs ok)
