use Rattle.pl_exec.proofs.running.+run.Given as goal

abbrev pub decreases-run : goal.decreases-run
decreases-run g l = l.room
