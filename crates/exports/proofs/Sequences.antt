-- Every sequence of exported calls (specs/Sequences.antt has the statement): the tables that the bytes stand for go through
-- the calls as the model does, from the last format that succeeded.
use Rattle.base.{specs.Base.{ℕ, ◌≡◌, Bool, true, false, cond, List, [], ◌∷◌, ◌++◌, length, get_or, replicate, seen, Reply, Seen, Tables, Step, done, refused_reply, InvalidParameter, ◌>>◌, refuse_if, concluded, Handle}, proofs.Laws.{refl, sym, ◌∙◌, ap, ap₂, and_both, by_cases, length-replicate}}
use Rattle.audit.specs.Sound.{sound_bytes}
use Rattle.call_contracts.{specs.Performs.StandFor, proofs.Sequences.{right_length, valid, format-left, agree_from, agree_related}}
use Rattle.consistency.{specs.Relations.valid_masks, proofs.Equivalence.consistent_iff}
use Rattle.format.{specs.{Format.{checked_masks, format, fresh_tables}, Bytes.format_bytes}, proofs.{Bytes.{invalid_masks, formatted}, Decoded.tables-formatted}}
use Rattle.layout.{specs.Layout.{tables_size, decode, stands_for_tables}, proofs.{Tables.stands_length, Calls.on-tables}}
use Rattle.store.{specs.{Store.{store_open, store_close, store_set_read_only}, Model.{Model, fresh_model, model_format}, Calls.{Call, opens, closes, sets_read_only, run, store_step, model_step}, Sequences.Agree}, proofs.Sequences.Steps.together}
use Rattle.exports.specs.{Interface.{flag, masks_of, path_of, request_of, status_alone, open_numbers, verdict}, Returns.{Returns, ReturnsOf}, Sequences.{HostCall, host_opens, host_closes, host_sets_read_only, call_of, numbers_of, Export, formats, calls, audits, Promises, Made, no_call, next_call, model_numbers, Since, begun, gone_on, since, store_run, model_run, AgreeInNumbers, EverySequenceOfExports}}

-- what each exported call promises is what a sequence asks of it
module _ {got before after : List ℕ} where
  pub open_promised : (account access share disposition options attributes fold : ℕ) (path : List ℕ)
      → ReturnsOf open_numbers got before after (λ t. store_open t (request_of account access share disposition options attributes fold) (path_of path))
      → Promises (calls (host_opens account access share disposition options attributes fold path)) got before after
  unfolding Promises call_of numbers_of store_step
  open_promised account access share disposition options attributes fold path p = p

  pub close_promised : (h : ℕ) → ReturnsOf status_alone got before after (λ t. store_close t (record { 0 = h }))
      → Promises (calls (host_closes h)) got before after
  unfolding Promises call_of numbers_of store_step
  close_promised h p = p

  pub switch_promised : (mark : ℕ) → ReturnsOf status_alone got before after (λ t. store_set_read_only t (flag mark))
      → Promises (calls (host_sets_read_only mark)) got before after
  unfolding Promises call_of numbers_of store_step
  switch_promised mark p = p

-- one call more at the end of a run
run_more : {S : Type 0} (step : S → Call → Step S) (s : S) (cs : List Call) (c : Call)
    → (run step s (cs ++ (c ∷ []))).state ≡ (step (run step s cs).state c).state
unfolding run
run_more step s [] c = refl
run_more step s (d ∷ cs) c = run_more step (step s d).state cs c

module _ (masks : List ℕ) (read_only : Bool) where
  -- format of the model, by its masks
  model_formatted : (m : Model) → valid_masks masks ≡ true → model_format m masks read_only ≡ done (fresh_model masks read_only)
  unfolding model_format checked_masks concluded refuse_if ◌>>◌
  model_formatted m v = rw v

  model_refused : (m : Model) → valid_masks masks ≡ false
      → model_format m masks read_only ≡ record { reply = refused_reply InvalidParameter; state = m }
  unfolding model_format checked_masks concluded refuse_if ◌>>◌
  model_refused m v = rw v

  -- fresh tables, and the bytes that stand for them
  module _ (bytes : List ℕ) (long : length bytes ≡ tables_size) (v : valid_masks masks ≡ true) where
    success : (seen (format_bytes bytes masks read_only).reply).status ≡ 0
    unfolding seen
    success = rw (formatted bytes masks read_only long v)

    fresh-left : StandFor (format_bytes bytes masks read_only).state (fresh_tables masks read_only)
    fresh-left =
        rw (← (ap (λ (s : Step Tables). s.state) (tables-formatted bytes masks read_only long v)))
        (format-left bytes masks read_only success)

    fresh_agree : (m : Model) (cs : List Call)
        → Agree (run store_step (fresh_tables masks read_only) cs) (run model_step (model_format m masks read_only).state cs)
    fresh_agree m cs =
        rw (tables-formatted bytes masks read_only long v) at (agree_from bytes masks read_only success m cs)

module _ (m : Model) where
  -- where a sequence stands: valid masks, and bytes that stand for the tables of the calls since
  record At (before : List ℕ) (s : Since) : Type 0 where
    masks_valid : valid_masks s.masks ≡ true
    stand_for : StandFor before (store_run s).state

  agree_at : (s : Since) → valid_masks s.masks ≡ true → Agree (store_run s) (model_run m s)
  agree_at s v =
      fresh_agree s.masks s.read_only (replicate tables_size 0) (length-replicate {A = ℕ} tables_size 0) v m s.calls

  -- an exported call leads from one place to the next, and returns what the model answers
  record Leads (e : Export) (got after : List ℕ) (s : Since) : Type 0 where
    next : Since
    is : (es : List Export) → since s (e ∷ es) ≡ since next es
    there : At after next
    answered : (es : List Export) → got ∷ model_numbers (model_run m next).state es ≡ model_numbers (model_run m s).state (e ∷ es)

  module _ {before : List ℕ} (s : Since) (at : At before s) where
    abbrev agrees : Agree (store_run s) (model_run m s)
    agrees = agree_at s at.masks_valid

    long : length before ≡ tables_size
    long = stands_length before at.stand_for.stands

    -- the audit finds the tables sound
    sound : sound_bytes before ≡ true
    unfolding sound_bytes
    sound =
        and_both at.stand_for.stands
        (rw at.stand_for.is ((consistent_iff _ _).1 agrees.tables_consistent))

    audit_leads : (got after : List ℕ) → Promises audits got before after → Leads audits got after s
    unfolding Promises since model_numbers
    audit_leads got after p =
        record {
          next = s;
          is = λ es. refl;
          there = rw p.1 at;
          answered = λ es. ap (λ (ns : List ℕ). ns ∷ model_numbers (model_run m s).state es) (p.0 ∙ rw sound);
        }

    -- a call on the bytes is the call on the tables, which the model answers alike
    module _ (got after : List ℕ) (c : HostCall) (p : Promises (calls c) got before after) where
      same_numbers_lem : got ≡ numbers_of c (seen (model_step (model_run m s).state (call_of c)).reply)
      unfolding Promises
      same_numbers_lem =
          p.returns.numbers
          ∙ ap (λ (r : Reply). numbers_of c (seen r))
          (rw (on-tables (λ t. store_step t (call_of c)) before at.stand_for.stands, at.stand_for.is)
          (together (agree_related agrees) (call_of c)).same_reply)

      call_leads : Leads (calls c) got after s
      unfolding Promises since model_numbers
      call_leads =
          record {
            next = gone_on s c;
            is = λ es. refl;
            there =
                record {
                  masks_valid = at.masks_valid;
                  stand_for =
                      rw (run_more store_step (fresh_tables s.masks s.read_only) s.calls (call_of c), ← at.stand_for.is)
                      (p.tables at.stand_for.stands);
                };
            answered =
                λ es.
                ap₂ (λ (ns : List ℕ) (x : Model). ns ∷ model_numbers x es) same_numbers_lem
                (run_more model_step (model_format m s.masks s.read_only).state s.calls (call_of c));
          }

    -- a format begins anew, or leaves everything
    module _ (got after bytes : List ℕ) (mark : ℕ) (p : Promises (formats bytes mark) got before after) where
      format-succeeds : valid_masks (masks_of bytes) ≡ true → Leads (formats bytes mark) got after s
      unfolding Promises since model_numbers run
      format-succeeds v =
          record {
            next = begun bytes mark;
            is = λ es. rw v;
            there =
                record {
                  masks_valid = v;
                  stand_for = rw p.bytes (fresh-left (masks_of bytes) (flag mark) before long v);
                };
            answered =
                λ es.
                rw
                (model_formatted (masks_of bytes) (flag mark) m v, model_formatted (masks_of bytes) (flag mark) (model_run m s).state v)
                (ap (λ (ns : List ℕ). ns ∷ model_numbers (fresh_model (masks_of bytes) (flag mark)) es)
                (p.numbers ∙ rw (formatted before (masks_of bytes) (flag mark) long v)));
          }

      format_refused_lem : valid_masks (masks_of bytes) ≡ false → Leads (formats bytes mark) got after s
      unfolding Promises since model_numbers
      format_refused_lem v =
          record {
            next = s;
            is = λ es. rw v;
            there = rw (p.bytes, invalid_masks before (masks_of bytes) (flag mark) long v) at;
            answered =
                λ es.
                rw (model_refused (masks_of bytes) (flag mark) (model_run m s).state v)
                (ap (λ (ns : List ℕ). ns ∷ model_numbers (model_run m s).state es)
                (p.numbers ∙ rw (invalid_masks before (masks_of bytes) (flag mark) long v)));
          }

    leads : (got after : List ℕ) (e : Export) → Promises e got before after → Leads e got after s
    leads got after (formats bytes mark) p =
        by_cases (valid_masks (masks_of bytes)) (format-succeeds got after bytes mark p) (format_refused_lem got after bytes mark p)
    leads got after (calls c) p = call_leads got after c p
    leads got after audits p = audit_leads got after p

  follows : {before after : List ℕ} {es : List Export} {got : List (List ℕ)} → Made before es got after → (s : Since) → At before s
      → AgreeInNumbers got after m s es
  unfolding since model_numbers
  follows no_call s at = record { same_numbers = refl; bytes_stand_for = at.stand_for; agree = agree_at s at.masks_valid }
  follows (next_call {between = between} {got = ns} {e = e} {es = es} p rest) s at =
      let step = leads s at ns between e p in
      let later = follows rest step.next step.there in
      record {
        same_numbers = ap (λ (xs : List (List ℕ)). ns ∷ xs) later.same_numbers ∙ step.answered es;
        bytes_stand_for = rw (step.is es) later.bytes_stand_for;
        agree = rw (step.is es) later.agree;
      }

pub every_sequence_of_exports : EverySequenceOfExports
unfolding Promises run
every_sequence_of_exports bytes m masks mark left p es got after made =
    let success : (seen (format_bytes bytes (masks_of masks) (flag mark)).reply).status ≡ 0 = sym (ap (λ (ns : List ℕ). get_or ns 0 0) p.numbers) in
    follows m made _
    (record {
      masks_valid = valid bytes (masks_of masks) (flag mark) success;
      stand_for = rw p.bytes (fresh-left (masks_of masks) (flag mark) bytes (right_length bytes (masks_of masks) (flag mark) success) (valid bytes (masks_of masks) (flag mark) success));
    })
