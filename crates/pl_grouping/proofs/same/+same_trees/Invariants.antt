use Rattle.std.proofs.Common.{◌≡◌, drop, map}
use Rattle.pl_grouping.specs.Equality.{all_same, same, same_arm, same_step}
use Rattle.pl_grouping.proofs.same.+same_trees.Given as goal

abbrev pub invariant-same_exprs-loop-first : goal.invariant-same_exprs-loop-first
invariant-same_exprs-loop-first l =
    all_same (map same l.a) l.b ≡ all_same (map same (drop l.first-index l.a)) l.rest

abbrev pub invariant-same_steps-loop-first : goal.invariant-same_steps-loop-first
invariant-same_steps-loop-first l =
    all_same (map same_step l.a) l.b ≡ all_same (map same_step (drop l.first-index l.a)) l.rest

abbrev pub invariant-same_arms-loop-first : goal.invariant-same_arms-loop-first
invariant-same_arms-loop-first l =
    all_same (map same_arm l.a) l.b ≡ all_same (map same_arm (drop l.first-index l.a)) l.rest
