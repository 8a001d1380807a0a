use Rattle.std.proofs.Common.{◌≡◌, length}
use Rattle.pl_body_grammar.specs.Trees.{are_values}
use Rattle.pl_body_commands.proofs.trees.are_values.Given as goal

abbrev pub invariant-loop-arguments : goal.invariant-loop-arguments
invariant-loop-arguments l = are_values l.fn.arguments ≡ are_values l.arguments

abbrev pub decreases-loop-arguments : goal.decreases-loop-arguments
decreases-loop-arguments l = length l.arguments
