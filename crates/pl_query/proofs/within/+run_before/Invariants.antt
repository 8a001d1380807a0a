use Rattle.pl_query.proofs.within.+run_before.Given as goal

abbrev pub decreases-run_before : goal.decreases-run_before
decreases-run_before g l = l.limit
