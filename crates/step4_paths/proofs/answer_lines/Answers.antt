-- A line's places are within the input.
use Rattle.base.{specs.Base.{ℕ, List, ◌≤◌, ◌≡◌, length}, proofs.Laws.{arith}}
use Rattle.components.{specs.Positions.{Within, place_of}, proofs.Places.{place-within}}
use Rattle.step4_paths.proofs.answer_lines.Goals as goal

-- the line's places
line : (input : List ℕ) (at end : ℕ) → at ≤ length input → end ≡ place_of 0x0A input at → Within input (record { start = at; end = end })
line input at end h e = rw e (place-within 0x0A input at h)

pub overflow_add-at : goal.overflow_add-at
overflow_add-at g c = omega (arith, line c.args.input.now c.loop-at.at c.line_end-end.result (omega arith) c.line_end-end.ensures)

pub loop-at-smaller : goal.loop-at-smaller
loop-at-smaller g c = omega (arith, line c.args.input.now c.loop-at.at c.line_end-end.result (omega arith) c.line_end-end.ensures)

pub slice_bounds-line-count : goal.slice_bounds-line-count
slice_bounds-line-count g c = omega (arith, line c.args.input.now c.loop-at.at c.line_end-end.result (omega arith) c.line_end-end.ensures)

pub slice_bounds-line-start : goal.slice_bounds-line-start
slice_bounds-line-start g c = omega (arith, line c.args.input.now c.loop-at.at c.line_end-end.result (omega arith) c.line_end-end.ensures)

pub slice_bounds-line-end : goal.slice_bounds-line-end
slice_bounds-line-end g c = omega (arith, line c.args.input.now c.loop-at.at c.line_end-end.result (omega arith) c.line_end-end.ensures)
