use Rattle.pl_calling.proofs.arguments.evaluate_all.Given as goal
use Rattle.pl_engine.specs.Engines.{kept, world}

abbrev pub ghosts-values_of : goal.ghosts-values_of
ghosts-values_of g a = record { begin = world a.engine.now; stays = kept a.engine.now }
