-- A stream written at a free number: when the streams stay consistent, also over files that have grown.
use Rattle.base.{specs.Base.{◌+◌, ◌≡◌, Bool, true, false, ◌&&◌, List, eqb, get_or, set, count, is_empty, is_directory, file_used, BareStream, zero_bare, bare_used, bare_at, FileNo, StreamNo, File}, proofs.Laws.{sym, ◌∙◌, ap, length-set, get_or-set_same, not_both, one, set_placed, FreeSlot, count-gained}}
use Rattle.consistency.{specs.{Good.StreamNamesDiffer, Relations.{type_at, stream_of, unnamed_of}, Consistent.{GoodStreamOf, StreamsConsistent}}, proofs.Slots.{slots_good, slots_set, two_set}}
use Rattle.lists.proofs.Set.{used_stays}
use Rattle.stored_names.specs.StoredNames.{units}
use Rattle.tables.specs.Tables.{file_at}
use Rattle.store.proofs.Sequences.{Facts.StreamsKept, Changes.Types.{SameType, stream_still}}

-- a stream that the files and streams may gain
pub record StreamSound (fs : List File) (ss : List BareStream) (b : BareStream) : Type 0 where
  pub used : bare_used b ≡ true
  pub good : GoodStreamOf fs b
  pub name_new : (t : StreamNo) → bare_used (bare_at ss t) ≡ true → StreamNamesDiffer (bare_at ss t) b
  pub one_unnamed : (f : FileNo) → file_used (file_at fs f) ≡ true → count (unnamed_of f) ss + one (unnamed_of f b) ≡ 1
  pub directories_have_one : (f : FileNo) → is_directory (type_at fs f) ≡ true
      → count (stream_of f) ss + one (stream_of f b) ≡ 1

-- a free slot is no file's stream
module _ (f : FileNo) (x : BareStream) (free : bare_used x ≡ false) where
  free_no_stream : stream_of f x ≡ false
  unfolding stream_of
  free_no_stream = ap (λ (u : Bool). u && eqb x.file.0 f.0) free

  free_not_unnamed : unnamed_of f x ≡ false
  unfolding unnamed_of
  free_not_unnamed = ap (λ (u : Bool). u && is_empty (units x.name)) free_no_stream

module _ (ss : List BareStream) (s : StreamNo) (b : BareStream) (slot : FreeSlot bare_used zero_bare ss s.0) where
  pub streams_with : (fs gs : List File) → ((f : FileNo) → file_used (file_at fs f) ≡ true → SameType fs gs f)
      → StreamsConsistent fs ss → StreamSound gs ss b → StreamsConsistent gs (set ss s.0 b)
  unfolding bare_at
  streams_with fs gs same h sound =
      record {
        slots =
            slots_set (slots_good (stream_still fs gs same) h.slots) s.0 b (λ u. sound.good)
            (λ u. absurd (not_both sound.used u));
        one_unnamed =
            λ f u.
            count-gained ss s.0 b zero_bare slot.below (unnamed_of f) (free_not_unnamed f _ slot.free)
            ∙ sound.one_unnamed f u;
        directories_have_one =
            λ f u.
            count-gained ss s.0 b zero_bare slot.below (stream_of f) (free_no_stream f _ slot.free)
            ∙ sound.directories_have_one f u;
        names_differ =
            two_set bare_used zero_bare StreamNamesDiffer (λ x y d e n. d (sym e) (sym n)) ss h.names_differ s.0 b
            (λ j w u e n. sound.name_new (record { 0 = j }) u (sym e) (sym n));
      }

  -- every used stream stays, and the new one, which is not marked, stands at its number
  pub stream-kept : b.delete_pending ≡ false → StreamsKept ss (set ss s.0 b)
  unfolding bare_at
  stream-kept unmarked =
      record {
        same_length = length-set ss s.0 b;
        used_kept = λ t u. used_stays slot b t.0 u;
        marks_kept =
            λ t.
            set_placed zero_bare (λ j x. x.delete_pending ≡ true → (get_or ss j zero_bare).delete_pending ≡ true) ss s.0 b
            (λ u. absurd (not_both u unmarked)) (λ j u. u) t.0;
      }

  pub stream_there : bare_at (set ss s.0 b) s ≡ b
  unfolding bare_at
  stream_there = get_or-set_same ss s.0 b zero_bare slot.below

pub kept_both : {ss ts us : List BareStream} → StreamsKept ss ts → StreamsKept ts us → StreamsKept ss us
kept_both h k =
    record {
      same_length = k.same_length ∙ h.same_length;
      used_kept = λ t u. let e = h.used_kept t u in k.used_kept t (ap bare_used e ∙ u) ∙ e;
      marks_kept = λ t u. h.marks_kept t (k.marks_kept t u);
    }
