use Rattle.std.proofs.Common.{◌≡◌, drop, map}
use Rattle.pl_tables.specs.Undo.{pushed_key}
use Rattle.pl_tables.proofs.putting.push_rows.Given as goal

abbrev pub invariant-loop-slot : goal.invariant-loop-slot
invariant-loop-slot l = map (pushed_key (drop l.slot-index l.slots)) l.keys.items ≡ map (pushed_key l.slots) l.fn.keys.items
