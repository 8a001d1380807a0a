use Rattle.std.proofs.Common.{rules, arith}
use Rattle.std.proofs.lemmas.Grind.{common_steps}
use Rattle.pl_grouping.proofs.Equations.{same_unary, same_binary, same_combined, same_call}
use Rattle.pl_grouping.proofs.same.+same_trees.Goals as goal

pub same_tree-returns-in-Unary : goal.same_tree-returns-in-Unary
same_tree-returns-in-Unary t c =
    rw (c.in-Unary.is, same_unary) (first_of (search rules, grind (arith, common_steps)))

pub same_tree-returns-in-Binary : goal.same_tree-returns-in-Binary
same_tree-returns-in-Binary t c =
    rw (c.in-Binary.is, same_binary) (first_of (search rules, grind (arith, common_steps)))

pub same_tree-returns-in-Combined : goal.same_tree-returns-in-Combined
same_tree-returns-in-Combined t c =
    rw (c.in-Combined.is, same_combined) (first_of (search rules, grind (arith, common_steps)))

pub same_tree-returns-in-Call : goal.same_tree-returns-in-Call
same_tree-returns-in-Call t c =
    rw (c.in-Call.is, same_call) (first_of (search rules, grind (arith, common_steps)))
