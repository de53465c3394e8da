-- Each turn leaves fewer.
use Rattle.script_io.proofs.answer_input.Given as goal

abbrev pub decreases-loop-left : goal.decreases-loop-left
decreases-loop-left g l = l.left
