use Rattle.std.proofs.Common.{◌≡◌, ◌*◌, ◌+◌, drop}
use Rattle.pl_engine.specs.Engines.{kept, world}
use Rattle.pl_quick.proofs.Plans.{PairedBy}
use Rattle.pl_quick.proofs.making.+making.Given as goal
use Rattle.pl_quick.specs.Acts.{IsForArm, IsForOne}

abbrev pub invariant-arms_for-loop-branch : goal.invariant-arms_for-loop-branch
invariant-arms_for-loop-branch l = record {
  so_far : PairedBy (λ a b. IsForArm l.depth a b (world l.fn.engine)) l.arms l.branches (drop l.branch-index l.branches);
  is : world l.engine ≡ world l.fn.engine;
  keeps : kept l.engine ≡ kept l.fn.engine;
}

abbrev pub invariant-acts_for-loop-s : goal.invariant-acts_for-loop-s
invariant-acts_for-loop-s l = record {
  so_far : PairedBy (λ a s. IsForOne l.depth a s (world l.fn.engine)) l.acts l.statements (drop l.s-index l.statements);
  is : world l.engine ≡ world l.fn.engine;
  keeps : kept l.engine ≡ kept l.fn.engine;
}

abbrev pub decreases-act_for : goal.decreases-act_for
decreases-act_for l = 8 * l.depth

abbrev pub decreases-acts_for : goal.decreases-acts_for
decreases-acts_for l = 8 * l.depth + 1

abbrev pub decreases-arm_for : goal.decreases-arm_for
decreases-arm_for l = 8 * l.depth + 2

abbrev pub decreases-otherwise_for : goal.decreases-otherwise_for
decreases-otherwise_for l = 8 * l.depth + 2

abbrev pub decreases-acts_within : goal.decreases-acts_within
decreases-acts_within l = 8 * l.depth + 2

abbrev pub decreases-arms_for : goal.decreases-arms_for
decreases-arms_for l = 8 * l.depth + 3

abbrev pub decreases-assign_for : goal.decreases-assign_for
decreases-assign_for l = 8 * l.depth + 3

abbrev pub decreases-simple_act : goal.decreases-simple_act
decreases-simple_act l = 8 * l.depth + 4
