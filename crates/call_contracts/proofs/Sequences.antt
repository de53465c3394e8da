-- Every sequence of calls on lent bytes (specs/Sequences.antt has the statement): the tables that the bytes stand for go
-- through the calls as in the store's theorem.
use Rattle.base.{specs.Base.{ℕ, ◌<◌, ◌≡◌, Bool, true, List, ◌∷◌, map, length, eqb, Seen, seen, status_number, Answers, Answer, Tables, Step, Status, FileCorruptError, InvalidParameter, Done, refused_reply, Handle, Request}, proofs.Laws.{refl, sym, ◌∙◌, ap, ap₂, arith, eqb-true, eqb-false, by_cases}}
use Rattle.consistency.specs.Relations.{valid_masks}
use Rattle.format.{specs.{Format.format, Bytes.format_bytes}, proofs.{Bytes.{other_length, invalid_masks, formatted}, Decoded.{same_reply_lem, decoded_tables, success_stands}}}
use Rattle.layout.{specs.Layout.{tables_size, decode, stands_for_tables}, proofs.Calls.on-tables}
use Rattle.reply_numbers.specs.Numbers.{answer_seen}
use Rattle.store.{specs.{Store.{store_open, store_close, store_set_read_only}, Model.{Model, model_format}, Calls.{Call, opens, closes, sets_read_only, Run, run, store_step, model_step}, Sequences.Agree}, proofs.Sequences.{Theorem.every_sequence, Related.Related}}
use Rattle.call_contracts.specs.{Performs.{StandFor, Performs}, Sequences.{Made, no_call, next_call, AgreeInBytes, EverySequenceOfCalls}}

-- what each of the three calls promises is what a sequence asks of it
module _ {a : Answer} {before after : List ℕ} where
  pub open_made : (r : Request) (units : List ℕ) → Performs a before after (λ t. store_open t r units)
      → Performs a before after (λ t. store_step t (opens r units))
  unfolding store_step
  open_made r units p = p

  pub close-made : (h : Handle) → Performs a before after (λ t. store_close t h)
      → Performs a before after (λ t. store_step t (closes h))
  unfolding store_step
  close-made h p = p

  pub switch_made : (read_only : Bool) → Performs a before after (λ t. store_set_read_only t read_only)
      → Performs a before after (λ t. store_step t (sets_read_only read_only))
  unfolding store_step
  switch_made read_only p = p

-- the answers and the bytes of calls that were made are those of a run over the tables
record Follows (answers : List Answer) (after : List ℕ) (store : Run Tables) : Type 0 where
  same_answers : map answer_seen answers ≡ map seen store.replies
  bytes_stand_for : StandFor after store.state

-- a call on bytes that stand for tables is answered as it is on the tables
answered : {a : Answer} {before after : List ℕ} (c : Call) → Performs a before after (λ t. store_step t c)
    → stands_for_tables before ≡ true → answer_seen a ≡ seen (store_step (decode before) c).reply
answered c p s = p.answers.reply ∙ rw (on-tables (λ t. store_step t c) _ s)

follows : {before after : List ℕ} {calls : List Call} {answers : List Answer} → Made before calls answers after
    → stands_for_tables before ≡ true → Follows answers after (run store_step (decode before) calls)
unfolding run
follows no_call s = record { same_answers = refl; bytes_stand_for = record { stands = s; is = refl } }
follows (next_call {c = c} p rest) s =
    let left = p.tables s in
    let later = rw left.is at (follows rest left.stands) in
    record {
      same_answers = ap₂ (λ (x : Seen) (xs : List Seen). x ∷ xs) (answered c p s) later.same_answers;
      bytes_stand_for = later.bytes_stand_for;
    }

-- a format that a caller sees succeed
module _ (bytes masks : List ℕ) (read_only : Bool) (success : (seen (format_bytes bytes masks read_only).reply).status ≡ 0) where
  -- no refusal is seen as success, whose number is 0
  not_refused : (s : Status) → 0 < status_number s → (format_bytes bytes masks read_only).reply ≡ refused_reply s → ⊥
  unfolding seen
  not_refused s above q =
      let z : status_number s ≡ 0 = rw q at success in
      omega arith

  pub right_length : length bytes ≡ tables_size
  unfolding status_number
  right_length =
      by_cases (eqb (length bytes) tables_size) (λ e. eqb-true (length bytes) tables_size e)
      (λ e.
      absurd
      (not_refused FileCorruptError (omega arith)
      (ap (λ (s : Step (List ℕ)). s.reply) (other_length bytes masks read_only (eqb-false (length bytes) tables_size e)))))

  pub valid : valid_masks masks ≡ true
  unfolding status_number
  valid =
      by_cases (valid_masks masks) (λ e. e)
      (λ e.
      absurd
      (not_refused InvalidParameter (omega arith)
      (ap (λ (s : Step (List ℕ)). s.reply) (invalid_masks bytes masks read_only right_length e))))

  -- what format left stands for what it leaves of the tables
  pub format-left : StandFor (format_bytes bytes masks read_only).state (format (decode bytes) masks read_only).state
  format-left =
      record {
        stands = success_stands bytes masks read_only right_length valid;
        is = decoded_tables bytes masks read_only right_length;
      }

  format-done : (format (decode bytes) masks read_only).reply.outcome ≡ Done
  format-done = rw (← same_reply_lem bytes masks read_only right_length, formatted bytes masks read_only right_length valid)

  -- every sequence of calls on the tables that it leaves
  pub agree_from : (m : Model) (calls : List Call)
      → Agree (run store_step (format (decode bytes) masks read_only).state calls) (run model_step (model_format m masks read_only).state calls)
  agree_from m calls = every_sequence (decode bytes) m masks read_only format-done calls

-- tables and model that agree are related
pub agree_related : {s : Run Tables} {r : Run Model} → Agree s r → Related s.state r.state
agree_related a =
    record {
      consistent_tables = a.tables_consistent;
      opens_are_entries = a.opens_are_entries;
      same_namespace = a.same_namespace;
      next_handle = a.next_handle;
    }

-- an answer that is done is seen as success
done_success : (a : Answer) → a.outcome ≡ Done → (answer_seen a).status ≡ 0
unfolding seen
done_success a e = rw e

pub every_sequence_of_calls : EverySequenceOfCalls
every_sequence_of_calls bytes m masks read_only a left formats done calls answers after made =
    let success : (seen (format_bytes bytes masks read_only).reply).status ≡ 0 =
    ap (λ (x : Seen). x.status) (sym formats.reply) ∙ done_success a done in
    let f = rw (← formats.state) at (format-left bytes masks read_only success) in
    let agree = agree_from bytes masks read_only success m calls in
    let ran = rw f.is at (follows made f.stands) in
    record {
      same_answers = ran.same_answers ∙ ap (map seen) agree.same_replies;
      bytes_stand_for = ran.bytes_stand_for;
      agree = agree;
    }
