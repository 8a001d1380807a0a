use Rattle.std.proofs.Common.{take}
use Rattle.pl_calling.proofs.ending.tell.Given as goal
use Rattle.pl_engine.specs.Holding.{said}
use Rattle.pl_undo.specs.Database.{Database}

abbrev pub invariant-loop-piece : goal.invariant-loop-piece
invariant-loop-piece g l = (db : Database) → g.P.Port.fits db l.fn.port → g.P.Port.took db (said (take l.piece-index l.pieces)) l.fn.port l.port × g.P.Port.fits db l.port
