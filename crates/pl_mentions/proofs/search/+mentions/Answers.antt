use Rattle.std.proofs.Common.{rules, arith}
use Rattle.std.proofs.lemmas.Grind.{common_steps}
use Rattle.pl_mentions.proofs.Equations.{has_case}
use Rattle.pl_tree.specs.declared.tree.Expr.{the_lemmas}
use Rattle.pl_mentions.proofs.search.+mentions.Goals as goal

pub mentions-returns-else-any_arm : goal.mentions-returns-else-any_arm
mentions-returns-else-any_arm t c =
    rw (c.in-Case.is, has_case) (first_of (search (rules, the_lemmas), grind (arith, the_lemmas, common_steps)))
