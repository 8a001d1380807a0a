use Rattle.std.proofs.Common.{◌≡◌, drop}
use Rattle.pl_names.specs.Names.{around}
use Rattle.pl_targets.specs.Values.{nothing_set, settings_on}
use Rattle.pl_targets.proofs.values.settings_of.Given as goal

abbrev pub invariant-loop-assignment : goal.invariant-loop-assignment
invariant-loop-assignment l = settings_on l.assignments l.columns nothing_set (around l.names) l.fn.made ≡ settings_on (drop l.assignment-index l.assignments) l.columns l.done (around l.names) l.made
