use Rattle.std.proofs.Common.{◌≡◌, drop}
use Rattle.std.specs.List.{list_all}
use Rattle.pl_body_rules.specs.Conditions.{is_caught}
use Rattle.pl_body_rules.proofs.conditions.caught_state.Given as goal

abbrev pub invariant-loop-caught : goal.invariant-loop-caught
invariant-loop-caught l = list_all is_caught l.conditions ≡ list_all is_caught (drop l.caught-index l.conditions)
