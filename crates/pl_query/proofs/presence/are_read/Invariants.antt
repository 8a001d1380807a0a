use Rattle.std.proofs.Common.{drop}
use Rattle.pl_query.specs.Presence.{AreRead}
use Rattle.pl_value.specs.Frames.{rows_of}
use Rattle.pl_query.proofs.presence.are_read.Given as goal

abbrev pub invariant-loop-item : goal.invariant-loop-item
invariant-loop-item g l = AreRead g.row.C.Denot (drop l.item-index l.items) (rows_of l.frame) → AreRead g.row.C.Denot l.items (rows_of l.frame)
