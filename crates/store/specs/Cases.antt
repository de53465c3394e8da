-- Worked cases (document 01, "Bench cases"): what the object store and the model answer, and what stands in the tables
-- then. One table, one statement; proofs/Cases.antt proves it by evaluation.
use Rattle.std.specs.Prelude.{◌≡◌, ◌∷◌}
use Rattle.base.specs.Base.{ℕ, false, List, [], map, none, some, replicate, keep, accounts, all_access, Seen, seen, file_used, stream_used, File, Stream}
use Rattle.store.specs.{Calls.{Call, opens, closes, run, store_step, model_step}, Evaluate.{store_run, model_run}}

abbrev pub refused_with : ℕ → Seen
refused_with status = record { status = status; action = none; handle = 0; granted = 0 }

abbrev pub accepted_as : ℕ → ℕ → ℕ → Seen
accepted_as action handle granted = record { status = 0; action = some action; handle = handle; granted = granted }

abbrev pub done : Seen
done = record { status = 0; action = none; handle = 0; granted = 0 }

-- a case: the volume's masks, the calls that lead to its start, its calls with their replies, and after them the
-- attributes of the used files and the share counts of the used streams, in slot order
pub record Case : Type 0 where
  pub masks : List ℕ
  pub before : List Call
  pub calls : List Call
  pub replies : List Seen
  pub attributes : List ℕ
  pub counts : List (List ℕ)

-- what is observed of a case on both machines
pub record Observed : Type 0 where
  pub store_replies : List Seen
  pub model_replies : List Seen
  pub store_attributes : List ℕ
  pub model_attributes : List ℕ
  pub store_counts : List (List ℕ)

unfoldable pub attributes_of : List File → List ℕ
attributes_of fs = map (λ f. f.attributes) (keep file_used fs)

unfoldable pub seven_counts : Stream → List ℕ
seven_counts s =
    let c = s.counts in
    c.opens
    ∷ c.readers
    ∷ c.writers
    ∷ c.deleters
    ∷ c.shared_read
    ∷ c.shared_write
    ∷ c.shared_delete
    ∷ []

unfoldable pub observed : Case → Observed
observed c =
    let store = run store_step (store_run c.masks false c.before).state c.calls in
    let model = run model_step (model_run c.masks false c.before).state c.calls in
    record {
      store_replies = map seen store.replies;
      model_replies = map seen model.replies;
      store_attributes = attributes_of store.state.volume.files;
      model_attributes = attributes_of model.state.namespace.files;
      store_counts = map seven_counts (keep stream_used store.state.volume.streams);
    }

unfoldable pub expected : Case → Observed
expected c =
    record {
      store_replies = c.replies;
      model_replies = c.replies;
      store_attributes = c.attributes;
      model_attributes = c.attributes;
      store_counts = c.counts;
    }

-- the statement
abbrev pub Hold : List Case → Type 0
Hold cases = map observed cases ≡ map expected cases

-- account 0, exact case, attributes 0: access, share, disposition, options, path
abbrev pub asks : ℕ → ℕ → ℕ → ℕ → List ℕ → Call
asks access share disposition options path =
    opens
    (record {
      account = 0;
      access = access;
      share = share;
      disposition = disposition;
      options = options;
      attributes = 0;
      fold = false;
    })
    path

abbrev pub closes_handle : ℕ → Call
closes_handle h = closes (record { 0 = h })

-- `a`, `a\b` and `a:log`
abbrev pub a : List ℕ
a = 0x61 ∷ []

abbrev pub a\b : List ℕ
a\b = 0x61 ∷ 0x5C ∷ 0x62 ∷ []

abbrev pub a:log : List ℕ
a:log = 0x61 ∷ 0x3A ∷ 0x6C ∷ 0x6F ∷ 0x67 ∷ []

-- masks 0x1F01FF; G is the volume after case 5, where `a` has the open of that case
abbrev pub full_masks : List ℕ
full_masks = replicate accounts all_access

abbrev pub makes_a : Call
makes_a = asks 2 1 2 0 a

abbrev pub none7 : List ℕ
none7 = replicate 7 0

abbrev pub writer_of_a : List ℕ
writer_of_a = 1 ∷ 0 ∷ 1 ∷ 0 ∷ 1 ∷ 0 ∷ 0 ∷ []

-- one call on the fresh volume that changes nothing; one on G that leaves the attributes
abbrev pub refused_fresh : Call → ℕ → Case
refused_fresh call status =
    record {
      masks = full_masks;
      before = [];
      calls = call ∷ [];
      replies = refused_with status ∷ [];
      attributes = 0x10 ∷ [];
      counts = none7 ∷ [];
    }

abbrev pub on_g : Call → Seen → List (List ℕ) → Case
on_g call reply counts =
    record {
      masks = full_masks;
      before = makes_a ∷ [];
      calls = call ∷ [];
      replies = reply ∷ [];
      attributes = 0x10 ∷ 0x20 ∷ [];
      counts = counts;
    }

abbrev pub worked_cases : List Case
worked_cases =
    refused_fresh (asks 0 0 1 0 a) 0xC0000022
    ∷ refused_fresh (asks 1 8 1 0 a) 0xC000000D
    ∷ refused_fresh (asks 1 0 1 0 a) 0xC0000034
    ∷ refused_fresh (asks 1 0 2 0 a\b) 0xC000003A
    ∷ record {
      masks = full_masks;
      before = [];
      calls = makes_a ∷ [];
      replies = accepted_as 2 1 2 ∷ [];
      attributes = 0x10 ∷ 0x20 ∷ [];
      counts = none7 ∷ writer_of_a ∷ [];
    }
    ∷ on_g (asks 1 3 1 0 a) (accepted_as 1 2 1) (none7 ∷ (2 ∷ 1 ∷ 1 ∷ 0 ∷ 2 ∷ 1 ∷ 0 ∷ []) ∷ [])
    ∷ on_g (asks 1 1 1 0 a) (refused_with 0xC0000043) (none7 ∷ writer_of_a ∷ [])
    ∷ on_g (asks 0x80 0 1 0 a) (accepted_as 1 2 0x80) (none7 ∷ writer_of_a ∷ [])
    ∷ on_g (asks 0x80 7 5 0 a) (refused_with 0xC0000043) (none7 ∷ writer_of_a ∷ [])
    ∷ on_g (asks 1 0 3 0 a:log) (accepted_as 2 2 3) (none7 ∷ writer_of_a ∷ (1 ∷ 1 ∷ 1 ∷ 0 ∷ 0 ∷ 0 ∷ 0 ∷ []) ∷ [])
    ∷ record {
      masks = full_masks;
      before = makes_a ∷ [];
      calls = closes_handle 1 ∷ closes_handle 1 ∷ [];
      replies = done ∷ refused_with 0xC0000008 ∷ [];
      attributes = 0x10 ∷ 0x20 ∷ [];
      counts = none7 ∷ none7 ∷ [];
    }
    ∷ []

-- the readings that look right and aren't, where none of the cases above tells them apart: an uncounted open keeps step
-- 10 from adding share read, as a counted one does; and a handle is never issued twice
abbrev pub further_cases : List Case
further_cases =
    record {
      masks = replicate accounts 0x81;
      before = [];
      calls = asks 0x80 0 1 0 [] ∷ asks 1 0 1 0 [] ∷ asks 1 1 1 0 [] ∷ [];
      replies = accepted_as 1 1 0x80 ∷ accepted_as 1 2 1 ∷ refused_with 0xC0000043 ∷ [];
      attributes = 0x10 ∷ [];
      counts = (1 ∷ 1 ∷ 0 ∷ 0 ∷ 0 ∷ 0 ∷ 0 ∷ []) ∷ [];
    }
    ∷ record {
      masks = replicate accounts 0x81;
      before = [];
      calls = asks 1 0 1 0 [] ∷ asks 1 1 1 0 [] ∷ asks 1 0 1 0x20000 [] ∷ [];
      replies = accepted_as 1 1 1 ∷ accepted_as 1 2 1 ∷ refused_with 0xC0000043 ∷ [];
      attributes = 0x10 ∷ [];
      counts = (2 ∷ 2 ∷ 0 ∷ 0 ∷ 2 ∷ 0 ∷ 0 ∷ []) ∷ [];
    }
    ∷ record {
      masks = full_masks;
      before = makes_a ∷ closes_handle 1 ∷ [];
      calls = asks 1 3 1 0 a ∷ closes_handle 1 ∷ closes_handle 0 ∷ [];
      replies = accepted_as 1 2 1 ∷ refused_with 0xC0000008 ∷ refused_with 0xC0000008 ∷ [];
      attributes = 0x10 ∷ 0x20 ∷ [];
      counts = none7 ∷ (1 ∷ 1 ∷ 0 ∷ 0 ∷ 1 ∷ 1 ∷ 0 ∷ []) ∷ [];
    }
    ∷ []
