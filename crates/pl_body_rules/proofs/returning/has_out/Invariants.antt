use Rattle.std.proofs.Common.{◌≡◌, drop}
use Rattle.std.specs.List.{list_any}
use Rattle.pl_body_rules.specs.Returning.{goes_out}
use Rattle.pl_body_rules.proofs.returning.has_out.Given as goal

abbrev pub invariant-loop-param : goal.invariant-loop-param
invariant-loop-param l = list_any (λ param. goes_out param.way) l.params ≡ list_any (λ param. goes_out param.way) (drop l.param-index l.params)
