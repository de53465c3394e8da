-- What an exported call returns follows from what the call below it answers.
use mathlib.Core.Path.{fun_ext}
use Rattle.base.{specs.Base.{ℕ, ◌≡◌, Bool, true, List, [], ◌∷◌, take, Tables, Step, Namespace, seen, Seen, Answers, Answer, Success, Done, Refused, Outcome, Request, refuse_if, ◌>>◌, ◌>>=◌}, proofs.Laws.{refl, ◌∙◌, ap, ap₂, subst}}
use Rattle.call_contracts.specs.Performs.{Performs}
use Rattle.format.specs.Bytes.{format_bytes}
use Rattle.paths.specs.Paths.{parse_path}
use Rattle.reply_numbers.specs.Numbers.{answer_seen, action_or}
use Rattle.store.specs.{Target.target, Prepare.prepare, Complete.{View, decide}, Store.{when_consistent, store_open}}
use Rattle.exports.specs.{Interface.{masks_of, path_of, status_alone, open_numbers}, Returns.{Returns, ReturnsOf, MasksRead, ReadsAs}, declared.{PathUnits.PathUnits, Masks.Masks}}

-- an open whose units step 4 reads alike is the same open
module _ (r : Request) (units path : List ℕ)
    (same : (wants_directory wants_file : Bool) → parse_path wants_directory wants_file units ≡ parse_path wants_directory wants_file path) where
  target_alike : (ns : Namespace) → target ns r units ≡ target ns r path
  unfolding target
  target_alike ns = rw (same _ _)

  decide_alike : (v : View) (ns : Namespace) → decide v ns r units ≡ decide v ns r path
  unfolding decide prepare
  decide_alike v ns = rw (target_alike ns)

  open_alike : (t : Tables) → store_open t r units ≡ store_open t r path
  unfolding store_open
  open_alike t = rw (decide_alike _ _)

-- the access granted is seen as it stands
granted_seen : (o : Outcome) (granted : ℕ) → granted ≡ (seen (record { outcome = o; granted = granted })).granted
unfolding seen
granted_seen (Success x h) granted = refl
granted_seen Done granted = refl
granted_seen (Refused s) granted = refl

module _ {a : Answer} where
  pub returned_status : {status : ℕ} {after : List ℕ} {s : Step (List ℕ)} → Answers a after s → status ≡ (answer_seen a).status
      → Returns status_alone (status ∷ []) after s
  returned_status answers e =
      record { numbers = ap (λ (n : ℕ). n ∷ []) (e ∙ ap (λ (x : Seen). x.status) answers.reply); bytes = answers.state }

  pub format_returned : (before : List ℕ) (read_only : Bool) {status : ℕ} {m : Masks} {after bytes : List ℕ} → MasksRead m bytes
      → Answers a after (format_bytes before (take m.count m.masks) read_only) → status ≡ (answer_seen a).status
      → Returns status_alone (status ∷ []) after (format_bytes before (masks_of bytes) read_only)
  format_returned before read_only read answers e = rw (← read.is) (returned_status answers e)

  module _ {before after : List ℕ} where
    pub status_returned : {status : ℕ} {call : Tables → Step Tables} → Performs a before after call → status ≡ (answer_seen a).status
        → ReturnsOf status_alone (status ∷ []) before after call
    status_returned p e = record { returns = returned_status p.answers e; tables = p.tables }

    pub open_returned : (r : Request) {units : PathUnits} {bytes : List ℕ} {status action granted handle : ℕ}
        → ReadsAs units bytes
        → Performs a before after (λ t. store_open t r (take units.count units.units))
        → status ≡ (answer_seen a).status → action ≡ action_or (answer_seen a).action → granted ≡ a.granted
        → handle ≡ (answer_seen a).handle
        → ReturnsOf open_numbers (status ∷ action ∷ granted ∷ handle ∷ []) before after (λ t. store_open t r (path_of bytes))
    open_returned r {units} {bytes} read p s x g h =
        let q : Performs a before after (λ t. store_open t r (path_of bytes)) =
        subst (Performs a before after) (fun_ext (λ t. open_alike r (take units.count units.units) (path_of bytes) read.same t)) p in
        record {
          returns =
              record {
                numbers = rw (s, x, g ∙ granted_seen a.outcome a.granted, h) (ap open_numbers q.answers.reply);
                bytes = q.answers.state;
              };
          tables = q.tables;
        }
