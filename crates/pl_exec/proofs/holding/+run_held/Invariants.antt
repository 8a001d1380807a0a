use Rattle.pl_exec.proofs.holding.+run_held.Given as goal

abbrev pub decreases-run_held : goal.decreases-run_held
decreases-run_held l = l.room
