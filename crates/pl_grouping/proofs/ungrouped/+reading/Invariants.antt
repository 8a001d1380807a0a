use Rattle.std.proofs.Common.{◌≡◌, drop, map}
use Rattle.pl_grouping.specs.Columns.{any_reads, arm_reads, asking, one_behind_does, one_does, reads_as, step_reads}
use Rattle.pl_grouping.proofs.ungrouped.+reading.Given as goal

abbrev pub invariant-any_reads-loop-tree : goal.invariant-any_reads-loop-tree
invariant-any_reads-loop-tree l =
    any_reads (asking l.of) (map (reads_as (asking l.of)) l.list) l.list
    ≡ any_reads (asking l.of) (map (reads_as (asking l.of)) (drop l.tree-index l.list))
    (drop l.tree-index l.list)

abbrev pub invariant-any_step_reads-loop-step : goal.invariant-any_step_reads-loop-step
invariant-any_step_reads-loop-step l =
    one_behind_does l.begun (map (step_reads (asking l.of)) l.steps) l.steps
    ≡ one_behind_does l.left (map (step_reads (asking l.of)) (drop l.step-index l.steps))
    (drop l.step-index l.steps)

abbrev pub invariant-any_arm_reads-loop-arm : goal.invariant-any_arm_reads-loop-arm
invariant-any_arm_reads-loop-arm l =
    one_does (map (arm_reads (asking l.of)) l.arms) l.arms
    ≡ one_does (map (arm_reads (asking l.of)) (drop l.arm-index l.arms))
    (drop l.arm-index l.arms)
