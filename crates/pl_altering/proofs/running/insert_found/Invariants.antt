use Rattle.std.proofs.Common.{drop}
use Rattle.pl_altering.proofs.Over.{over}
use Rattle.pl_altering.proofs.Turns.{Left}
use Rattle.pl_altering.proofs.running.insert_found.Given as goal
use Rattle.pl_world.specs.Changes.{adds_found}

abbrev pub invariant-loop-row : goal.invariant-loop-row
invariant-loop-row g l = Left l.command (adds_found (over l.command l.inside) l.parts) l.found (drop l.row-index l.found) l.rows l.fn.calling l.calling
