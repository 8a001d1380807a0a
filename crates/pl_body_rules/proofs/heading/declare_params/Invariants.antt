use Rattle.std.proofs.Common.{◌≡◌, drop}
use Rattle.pl_body_rules.specs.Heading.{with_params}
use Rattle.pl_body_rules.proofs.heading.declare_params.Given as goal

abbrev pub invariant-loop-param : goal.invariant-loop-param
invariant-loop-param l = with_params l.params l.fn.variables ≡ with_params (drop l.param-index l.params) l.variables
