use Rattle.std.proofs.Common.{◌≡◌, ◌++◌, length, map, reverse}
use Rattle.pl_body_grammar.specs.Trees.{value_in}
use Rattle.pl_body_commands.proofs.trees.values_backwards.Given as goal

abbrev pub invariant-loop-argument : goal.invariant-loop-argument
invariant-loop-argument l = l.values ++ reverse (map value_in l.arguments) ≡ reverse (map value_in l.fn.arguments)

abbrev pub decreases-loop-argument : goal.decreases-loop-argument
decreases-loop-argument l = length l.arguments
