use Rattle.std.proofs.Common.{◌≡◌, length}
use Rattle.pl_world.specs.pl_change.Changes.{assigned}
use Rattle.pl_altering.proofs.assigning.assign.Given as goal

abbrev pub invariant-loop-columns : goal.invariant-loop-columns
invariant-loop-columns l = assigned l.fn.columns l.fn.values l.fn.row ≡ assigned l.columns l.values l.made

abbrev pub decreases-loop-columns : goal.decreases-loop-columns
decreases-loop-columns l = length l.columns
