use Rattle.std.proofs.Common.{◌≡◌, drop}
use Rattle.pl_body_rules.specs.Raising.{has}
use Rattle.pl_body_rules.proofs.raising.has.Given as goal

abbrev pub invariant-loop-option : goal.invariant-loop-option
invariant-loop-option l = has l.kind l.options ≡ has l.kind (drop l.option-index l.options)
