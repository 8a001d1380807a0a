use Rattle.std.proofs.Common.{◌≡◌, drop, map}
use Rattle.pl_value.specs.Meaning.{Calls, Sub, arm, step, value}
use Rattle.pl_inside.proofs.asking.+asking.Given as goal

abbrev pub invariant-any_has_query-loop-part : goal.invariant-any_has_query-loop-part
invariant-any_has_query-loop-part g l =
    (calls : Calls g.row.C.Denot) (these those : Sub g.row.C.Denot) → map (value calls these) (drop l.part-index l.parts) ≡ map (value calls those) (drop l.part-index l.parts)
    → map (value calls these) l.parts ≡ map (value calls those) l.parts

abbrev pub invariant-any_step_has_query-loop-step : goal.invariant-any_step_has_query-loop-step
invariant-any_step_has_query-loop-step g l =
    (calls : Calls g.row.C.Denot) (these those : Sub g.row.C.Denot) → map (step calls these) (drop l.step-index l.steps) ≡ map (step calls those) (drop l.step-index l.steps)
    → map (step calls these) l.steps ≡ map (step calls those) l.steps

abbrev pub invariant-any_arm_has_query-loop-arm : goal.invariant-any_arm_has_query-loop-arm
invariant-any_arm_has_query-loop-arm g l =
    (calls : Calls g.row.C.Denot) (these those : Sub g.row.C.Denot) → map (arm calls these) (drop l.arm-index l.arms) ≡ map (arm calls those) (drop l.arm-index l.arms)
    → map (arm calls these) l.arms ≡ map (arm calls those) l.arms
