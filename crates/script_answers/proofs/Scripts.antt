-- Every script on lent bytes (specs/Scripts.antt has the statement): the tables that the bytes stand for go through the
-- lines as the model does.
use Rattle.base.{specs.Base.{ℕ, ◌≡◌, true, List, [], ◌∷◌, ◌++◌, Option, none, some, seen, Reply, Tables}, proofs.Laws.{refl, ◌∙◌, ap, ap₂}}
use Rattle.call_contracts.{specs.Sequences.no_call, proofs.Sequences.{agree_related, every_sequence_of_calls}}
use Rattle.layout.{specs.Layout.{decode, stands_for_tables}, proofs.Calls.on-tables}
use Rattle.script_lines.specs.{Lines.parse_line, Print.printed, Script.{Answered, performed, answered, script}}
use Rattle.store.{specs.{Model.Model, Calls.{Call, run, store_step, model_step}}, proofs.Sequences.{Steps.together, Related.Related}}
use Rattle.script_answers.specs.{Answers.bytes_step, Scripts.{LinesAnswered, no_line, next_line, EveryScript}}

-- a line prints on bytes that stand for tables what it prints on the tables
text_on_tables : (bs : List ℕ) → stands_for_tables bs ≡ true → (asked : Option Call)
    → (performed bytes_step bs asked).bytes ≡ (performed store_step (decode bs) asked).bytes
unfolding performed
text_on_tables bs s none = refl
text_on_tables bs s (some call) = rw (on-tables (λ t. store_step t call) bs s)

-- so does a script
script_on_tables : {before text after : List ℕ} {lines : List (List ℕ)} → LinesAnswered before lines text after
    → stands_for_tables before ≡ true → text ≡ script store_step (decode before) lines
unfolding script answered
script_on_tables no_line s = refl
script_on_tables {before} (next_line {line = line} answers rest) s =
    let left = answers.tables s in
    ap₂ (λ (x y : List ℕ). x ++ y) (answers.text.is ∙ text_on_tables before s (parse_line line))
    (rw left.is at (script_on_tables rest left.stands))

-- a line on related tables and model
record AnsweredAlike (s : Answered Tables) (r : Answered Model) : Type 0 where
  bytes : s.bytes ≡ r.bytes
  related : Related s.state r.state

line_alike : {t : Tables} {m : Model} → Related t m → (asked : Option Call)
    → AnsweredAlike (performed store_step t asked) (performed model_step m asked)
unfolding performed
line_alike related none = record { bytes = refl; related = related }
line_alike related (some call) =
    let both = together related call in
    record { bytes = ap (λ (r : Reply). printed (seen r)) both.same_reply; related = both.related_after }

script_alike : {t : Tables} {m : Model} → Related t m → (lines : List (List ℕ))
    → script store_step t lines ≡ script model_step m lines
unfolding script answered
script_alike related [] = refl
script_alike {t = t} {m = m} related (line ∷ lines) =
    let now = line_alike related (parse_line line) in
    ap₂ (λ (x y : List ℕ). x ++ y) now.bytes
    (script_alike {t = (performed store_step t (parse_line line)).state} {m = (performed model_step m (parse_line line)).state}
    now.related lines)

-- what format leaves is what a sequence of no calls leaves
pub every_script : EveryScript
unfolding run
every_script bytes m masks read_only a left formats done lines text after answers =
    let none = every_sequence_of_calls bytes m masks read_only a left formats done [] [] left no_call in
    rw none.bytes_stand_for.is at (script_on_tables answers none.bytes_stand_for.stands) ∙ script_alike (agree_related none.agree) lines
