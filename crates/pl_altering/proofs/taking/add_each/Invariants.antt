use Rattle.std.proofs.Common.{◌≡◌, [], None, length, reverse}
use Rattle.pl_altering.proofs.Turns.{Left}
use Rattle.pl_altering.proofs.taking.add_each.Given as goal
use Rattle.pl_world.specs.Changes.{Setting, writes}

abbrev pub invariant-loop-row : goal.invariant-loop-row
invariant-loop-row g l = (s : Setting) → s.change ≡ l.command.change.now → s.change.returning ≡ [] → Left l.command (writes s None) l.fn.found (reverse l.left) l.rows l.fn.calling l.calling

abbrev pub decreases-loop-row : goal.decreases-loop-row
decreases-loop-row g l = length l.left
