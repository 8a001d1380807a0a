use Rattle.std.proofs.Common.{drop}
use Rattle.pl_altering.proofs.Over.{over}
use Rattle.pl_altering.proofs.Turns.{Left}
use Rattle.pl_altering.proofs.running.insert_values.Given as goal
use Rattle.pl_world.specs.Changes.{adds_values}

abbrev pub invariant-loop-row : goal.invariant-loop-row
invariant-loop-row g l = Left l.command (adds_values (over l.command l.inside)) l.list (drop l.row-index l.list) l.rows l.fn.calling l.calling
