-- A type follows the second colon, or the stream's name ends the component.
use Rattle.base.{specs.Base.{◌≡◌, true}, proofs.Laws.{sym, ◌∙◌}}
use Rattle.components.{specs.Positions.part_of, proofs.Places.{Searched, past}}
use Rattle.units.specs.Units.{colon, data_type, equal_units}
use Rattle.paths.proofs.{Parsing.{stream_typed, stream_untyped, stream_empty, stream_only}}
use Rattle.paths.proofs.stream_parts.Goals as goal

pub returns-then-is_data_type : goal.returns-then-is_data_type
returns-then-is_data_type c =
    let f : Searched colon c.args.path.now c.args.rest c.units_before-units.result.now c.find_sign-colon.result = record { before = c.units_before-units.ensures; found = c.find_sign-colon.ensures } in
    let typed : equal_units true (part_of c.args.path.now (past c.args.rest c.find_sign-colon.result)) data_type ≡ c.is_data_type.result = rw (← c.part_of.ensures) (sym c.is_data_type.ensures) in
    stream_typed f c.args.file c.if-colon-units.true (typed ∙ c.if-is_data_type.true)

pub returns-else-is_data_type : goal.returns-else-is_data_type
returns-else-is_data_type c =
    let f : Searched colon c.args.path.now c.args.rest c.units_before-units.result.now c.find_sign-colon.result = record { before = c.units_before-units.ensures; found = c.find_sign-colon.ensures } in
    let typed : equal_units true (part_of c.args.path.now (past c.args.rest c.find_sign-colon.result)) data_type ≡ c.is_data_type.result = rw (← c.part_of.ensures) (sym c.is_data_type.ensures) in
    stream_untyped f c.args.file c.if-colon-units.true (typed ∙ c.if-is_data_type.false)

pub returns-then-rest-colon : goal.returns-then-rest-colon
returns-then-rest-colon c =
    let f : Searched colon c.args.path.now c.args.rest c.units_before-units.result.now c.find_sign-colon.result = record { before = c.units_before-units.ensures; found = c.find_sign-colon.ensures } in
    stream_empty f c.args.file c.if-colon-units.false c.if-rest-colon.true

pub returns-else-rest-colon : goal.returns-else-rest-colon
returns-else-rest-colon c =
    let f : Searched colon c.args.path.now c.args.rest c.units_before-units.result.now c.find_sign-colon.result = record { before = c.units_before-units.ensures; found = c.find_sign-colon.ensures } in
    stream_only f c.args.file c.if-colon-units.false c.if-rest-colon.false
