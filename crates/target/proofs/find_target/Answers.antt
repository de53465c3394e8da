-- The steps in the definition's order.
use Rattle.std.proofs.lemmas.Result.{err_from_is_err_and}
use Rattle.base.{specs.Base.{◌≡◌, Bool, ◌&&◌, namespace, ◌>>=◌, as_checked}, proofs.Laws.{sym}}
use Rattle.layout.specs.Layout.{decode}
use Rattle.target.proofs.{Steps.{Reached, protected, path_refused, path_protected, path_leads}}
use Rattle.target.proofs.find_target.Goals as goal
use Rattle.target.proofs.find_target.Goals.{After-parse_path-parsed, After-writes_volume}

-- steps 1 to 3 refuse nothing
reached : (p : After-parse_path-parsed) →
    let s = p.args in
    Reached s.r s.path.now p.parse_path-parsed.result
reached p =
    record {
      parameters = sym p.if-bad_parameters.ensures;
      access = sym p.if-bad_access.ensures;
      types = sym p.if-wants_both.ensures;
      is = rw (← p.wants_directory.ensures, ← p.wants_file.ensures) p.parse_path-parsed.ensures.is;
    }

pub returns-in-Invalid : goal.returns-in-Invalid
unfolding as_checked
returns-in-Invalid c = sym (path_refused _ _ _ (reached (goal.at.returns-in-Invalid c).After-parse_path-parsed) c.in-Invalid.is)

-- step 5's test
tested : (w : After-writes_volume) {t : Bool} →
    let s = w.args in
    (w.read_mark.result && w.writes_volume.result) ≡ t
    → protected (namespace (decode s.b.now).volume) s.r ≡ t
unfolding namespace
tested w e = rw (← w.read_mark.ensures, ← w.writes_volume.ensures) e

pub returns-then-read_mark-writes_volume : goal.returns-then-read_mark-writes_volume
unfolding as_checked
returns-then-read_mark-writes_volume c =
    let at = goal.at.returns-then-read_mark-writes_volume c in
    sym
    (path_protected _ _ _ (reached at.After-parse_path-parsed) c.in_default.not-Invalid
    (tested at.After-writes_volume c.if-read_mark-writes_volume.true))

-- nothing refuses the path before it is walked
pub returns-in_err-place : goal.returns-in_err-place
unfolding as_checked ◌>>=◌
returns-in_err-place c =
    let at = goal.at.returns-in_err-place c in
    let a = c.args in
    let q = err_from_is_err_and c.from_residual.result c.from_residual.ensures.1 in
    let leads =
    path_leads (namespace (decode a.b.now).volume) a.r a.path.now (reached at.After-parse_path-parsed) c.in_default.not-Invalid
    (tested at.After-writes_volume c.if-read_mark-writes_volume.false) in
    rw (q.1, q.2, leads, ← c.in_err-place.ensures)

pub returns : goal.returns
unfolding as_checked ◌>>=◌
returns c =
    let at = goal.at.returns c in
    let a = c.args in
    let leads =
    path_leads (namespace (decode a.b.now).volume) a.r a.path.now (reached at.After-parse_path-parsed) c.in_default.not-Invalid
    (tested at.After-writes_volume c.if-read_mark-writes_volume.false) in
    rw (leads, ← c.in_ok-place.ensures, ← c.leaf_of.ensures _) c.target_at.ensures
