-- Without a colon the component is the file's name.
use Rattle.components.proofs.Places.{Searched, split_found, first_within, rest_within}
use Rattle.units.specs.Units.{colon}
use Rattle.paths.proofs.{Parsing.leaf_file}
use Rattle.paths.proofs.leaf_parts.Goals as goal

pub returns-then-colon-units : goal.returns-then-colon-units
returns-then-colon-units c =
    let f : Searched colon c.args.path.now c.args.component c.units_before-units.result.now c.find_sign-colon.result = record { before = c.units_before-units.ensures; found = c.find_sign-colon.ensures } in
    let e = c.stream_parts.ensures in
    record {
      is = rw (split_found f c.if-colon-units.true) e.is;
      places = λ within. e.places (first_within f within, rest_within f within c.if-colon-units.true);
    }

pub returns : goal.returns
returns c =
    let f : Searched colon c.args.path.now c.args.component c.units_before-units.result.now c.find_sign-colon.result = record { before = c.units_before-units.ensures; found = c.find_sign-colon.ensures } in
    leaf_file f c.if-colon-units.false
