-- What refuses a path whole: its length, and a backslash at its end.
use Rattle.base.{specs.Base.{false, ◌&&◌, ◌≡◌}, proofs.Laws.{sym, ◌∙◌}}
use Rattle.units.specs.Units.{backslash}
use Rattle.paths.proofs.{Judging.{path_long, path_trail, path_fits}}
use Rattle.paths.specs.{Paths.ends_in, Positions.as_path}
use Rattle.paths.proofs.parse_path.Goals as goal
use Rattle.paths.proofs.parse_path.Goals.{else-wants_file-via-then-wants_file+else-ends_in_backslash, else-wants_file-via-else-wants_file}

pub returns-then-path-gt-PATH_LIMIT : goal.returns-then-path-gt-PATH_LIMIT
unfolding as_path
returns-then-path-gt-PATH_LIMIT c =
    let s = c.args in
    record { is = path_long s.wants_directory s.wants_file s.path.now c.if-path-gt-PATH_LIMIT.true; places = tt }

pub returns-then-ends_in_backslash : goal.returns-then-ends_in_backslash
unfolding as_path
returns-then-ends_in_backslash c =
    let e = c in
    let s = e.args in
    record {
      is = path_trail s.wants_directory s.wants_file s.path.now e.if-path-gt-PATH_LIMIT.false c.if-wants_file.true (sym c.ends_in_backslash.ensures ∙ c.if-ends_in_backslash.true);
      places = tt;
    }

pub returns : goal.returns
returns c =
    let s = c.args in
    let untrailed : (s.wants_file && ends_in backslash s.path.now) ≡ false =
    elim c.else-wants_file.branch [
      | else-wants_file-via-then-wants_file+else-ends_in_backslash w ↦ rw w.if-wants_file.true (sym w.ends_in_backslash.ensures ∙ w.if-ends_in_backslash.false)
      | else-wants_file-via-else-wants_file w ↦ rw w.if-wants_file.false
    ] in
    record {
      is = c.parse_components.ensures.is ∙ path_fits s.wants_directory s.wants_file s.path.now c.if-path-gt-PATH_LIMIT.false untrailed;
      places = c.parse_components.ensures.places;
    }
