use Rattle.std.proofs.Common.{◌≡◌, drop, map}
use Rattle.pl_control.proofs.arguments.arguments_on.Given as goal
use Rattle.pl_names.specs.Names.{around}
use Rattle.pl_scope.specs.Expressions.{arguments_on}
use Rattle.pl_scope.specs.Resolution.{argument_part}
use Rattle.pl_typing.specs.Calls.{no_arguments}

abbrev pub invariant-loop-part : goal.invariant-loop-part
invariant-loop-part l = arguments_on (map argument_part l.list) no_arguments (around l.names) l.fn.made ≡ arguments_on (map argument_part (drop l.part-index l.list)) l.done (around l.names) l.made
