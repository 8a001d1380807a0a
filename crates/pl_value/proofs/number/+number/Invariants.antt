use Rattle.std.proofs.Common.{◌≡◌, map, drop}
use Rattle.pl_value.specs.Frames.{rows_of}
use Rattle.pl_value.specs.Meaning.{Calls, Sub, step, steps_read}
use Rattle.pl_value.specs.Number.{number_value}
use Rattle.pl_value.proofs.number.+number.Given as goal

abbrev pub invariant-steps_number-loop-step : goal.invariant-steps_number-loop-step
invariant-steps_number-loop-step g l =
    (calls : Calls g.row.C.Denot) (sub : Sub g.row.C.Denot) (caller : g.row.C.Denot)
    → steps_read (map (step calls sub) l.steps) (number_value l.fn.first) (rows_of l.frame) caller
    ≡ steps_read (map (step calls sub) (drop l.step-index l.steps)) (number_value l.so_far) (rows_of l.frame) caller
