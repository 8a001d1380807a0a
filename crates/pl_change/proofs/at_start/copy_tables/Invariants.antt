use Rattle.std.proofs.Common.{◌≡◌, map, take}
use Rattle.pl_change.specs.Running.{copy_of}
use Rattle.pl_change.proofs.at_start.copy_tables.Given as goal

abbrev pub invariant-loop-name : goal.invariant-loop-name
invariant-loop-name l = l.list.items ≡ map (copy_of l.journal.now.tables) (take l.name-index l.names)
