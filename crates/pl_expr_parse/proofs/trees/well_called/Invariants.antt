use Rattle.std.proofs.Common.{◌≡◌, drop}
use Rattle.pl_expr_parse.specs.Trees.{well_called}
use Rattle.pl_expr_parse.proofs.trees.well_called.Given as goal

abbrev pub invariant-loop-at : goal.invariant-loop-at
invariant-loop-at l = well_called l.may_name l.arguments ≡ well_called l.may_name (drop l.at l.arguments)
