use Rattle.std.proofs.Common.{◌≡◌, [], map, drop, not, Some}
use Rattle.pl_resolved.specs.declared.expression.RCase.{out-RCase}
use Rattle.std.specs.Option.{option_copied, option_map}
use Rattle.pl_value.specs.Frames.{rows_of}
use Rattle.pl_value.specs.Meaning.{value, values, joined, steps_read, step, chosen, arm, coalesced}
use Rattle.pl_value.proofs.expression.+value.Given as goal

abbrev pub invariant-values-loop-part : goal.invariant-values-loop-part
invariant-values-loop-part g l =
    values (map (value g.C.Caller.calls (g.S.Subqueries.sub l.sub)) l.parts) [] (rows_of l.frame) l.fn.caller
    ≡ values (map (value g.C.Caller.calls (g.S.Subqueries.sub l.sub)) (drop l.part-index l.parts)) l.done (rows_of l.frame) l.caller

abbrev pub invariant-joined-loop-part : goal.invariant-joined-loop-part
invariant-joined-loop-part g l =
    joined l.fixed (map (value g.C.Caller.calls (g.S.Subqueries.sub l.sub)) l.parts) (Some (not l.fixed)) (rows_of l.frame) l.fn.caller
    ≡ joined l.fixed (map (value g.C.Caller.calls (g.S.Subqueries.sub l.sub)) (drop l.part-index l.parts)) l.so_far (rows_of l.frame) l.caller

abbrev pub invariant-steps-loop-step : goal.invariant-steps-loop-step
invariant-steps-loop-step g l =
    steps_read (map (step g.C.Caller.calls (g.S.Subqueries.sub l.sub)) l.steps) l.fn.first (rows_of l.frame) l.fn.caller
    ≡ steps_read (map (step g.C.Caller.calls (g.S.Subqueries.sub l.sub)) (drop l.step-index l.steps)) l.so_far (rows_of l.frame) l.caller

abbrev pub invariant-chosen-loop-arm : goal.invariant-chosen-loop-arm
invariant-chosen-loop-arm g l =
    chosen (option_copied l.x) (map (arm g.C.Caller.calls (g.S.Subqueries.sub l.sub)) (out-RCase l.case).arms) (option_map (value g.C.Caller.calls (g.S.Subqueries.sub l.sub)) (out-RCase l.case).otherwise) (rows_of l.frame) l.fn.caller
    ≡ chosen (option_copied l.x) (map (arm g.C.Caller.calls (g.S.Subqueries.sub l.sub)) (drop l.arm-index l.arm-items)) (option_map (value g.C.Caller.calls (g.S.Subqueries.sub l.sub)) (out-RCase l.case).otherwise) (rows_of l.frame) l.caller

abbrev pub invariant-coalesced-loop-part : goal.invariant-coalesced-loop-part
invariant-coalesced-loop-part g l =
    coalesced l.to (map (value g.C.Caller.calls (g.S.Subqueries.sub l.sub)) l.parts) (rows_of l.frame) l.fn.caller
    ≡ coalesced l.to (map (value g.C.Caller.calls (g.S.Subqueries.sub l.sub)) (drop l.part-index l.parts)) (rows_of l.frame) l.caller
