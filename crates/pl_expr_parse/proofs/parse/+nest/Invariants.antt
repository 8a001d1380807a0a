use Rattle.pl_expr_parse.proofs.parse.+nest.Given as goal

abbrev pub decreases-inside : goal.decreases-inside
decreases-inside l = l.depth
