-- A line answered on lent bytes, by what it asks.
use Rattle.std.specs.Prelude as code
use Rattle.base.{specs.Base.{ℕ, ◌≡◌, List, some, take, drop, Answer, Handle, Request}, proofs.Laws.{refl, sym, ◌∙◌}}
use Rattle.call_contracts.{specs.Performs.Performs, proofs.Sequences.{open_made, close-made}}
use Rattle.reply_numbers.specs.Numbers.{answer_seen}
use Rattle.script_lines.{specs.{Lines.{line_limit, parse_line}, Print.{printed, unknown_line}, Script.{performed, answered}, Found.{as_call, Prints}, declared.{buffers.Printed.Printed, AskedLine.{AskedLine, TheVariants.{Open, Close}}}}, proofs.Asked.path_fits}
use Rattle.store.specs.{Store.{store_open, store_close}, Calls.{Call, opens, closes, store_step}}
use Rattle.script_answers.specs.Answers.{AnswersLine}

module _ (line : List ℕ) (x : Printed) (before : List ℕ) where
  pub line_unknown : {asked : code.Option AskedLine} → as_call line asked ≡ parse_line line → asked ≡ code.None → Prints x unknown_line
      → AnswersLine line x before before
  unfolding as_call answered performed
  line_unknown read e p =
      let r = rw e at read in
      record {
        text = rw (← r) p;
        state = rw (← r);
        tables = λ s. rw (← r) (record { stands = s; is = refl });
      }

  module _ (a : Answer) (after : List ℕ) where
    line_call : (call : Call) → parse_line line ≡ some call → Performs a before after (λ t. store_step t call)
        → Prints x (printed (answer_seen a)) → AnswersLine line x before after
    unfolding answered performed
    line_call call e done p =
        record {
          text = rw (e, ← done.answers.reply) p;
          state = rw e done.answers.state;
          tables = λ s. rw e (done.tables s);
        }

    -- the path's units are all of the bytes from its place on
    pub line_open : {asked : code.Option AskedLine} {r : Request} {at : ℕ} {units : List ℕ} → as_call line asked ≡ parse_line line
        → asked ≡ code.Some (Open r at) → units ≡ take line_limit (drop at line) → Performs a before after (λ t. store_open t r units)
        → Prints x (printed (answer_seen a)) → AnswersLine line x before after
    unfolding as_call
    line_open {r = r} {at = at} read e path done p =
        let asks = rw e at read in
        line_call (opens r (drop at line)) (sym asks)
        (open_made r (drop at line) (rw (path ∙ path_fits line r at asks) at done)) p

    pub line_close : {asked : code.Option AskedLine} {h : Handle} → as_call line asked ≡ parse_line line → asked ≡ code.Some (Close h)
        → Performs a before after (λ t. store_close t h) → Prints x (printed (answer_seen a)) → AnswersLine line x before after
    unfolding as_call
    line_close {h = h} read e done p = line_call (closes h) (sym (rw e at read)) (close-made h done) p
