-- What evaluation unfolds: a proof that names `computes` computes with all of these.
use Rattle.store.specs.Evaluate.{computes as store}
use Rattle.script_lines.specs.{Lines.{◌>>=◌, is_digit, is_ascii, digits_from, number, spaced, field, open_line, close_line, command, parse_line}, Print.{digit, digits_onto, width_up_to, decimal_width, action_byte, printed}, Script.{performed, answered, script}}

unfoldable pub computes : Unit {0}
unfolding store ◌>>=◌ is_digit is_ascii digits_from number spaced field open_line close_line command parse_line digit
    digits_onto width_up_to decimal_width action_byte printed performed answered script
computes = tt
