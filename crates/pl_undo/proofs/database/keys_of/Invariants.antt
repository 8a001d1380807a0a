use Rattle.std.proofs.Common.{◌≡◌, ◌++◌, drop}
use Rattle.pl_undo.specs.Database.{keys_in}
use Rattle.pl_undo.proofs.database.keys_of.Given as goal

abbrev pub invariant-loop-rule : goal.invariant-loop-rule
invariant-loop-rule l = l.keys.items ++ keys_in (drop l.rule-index l.rules) ≡ keys_in l.rules
