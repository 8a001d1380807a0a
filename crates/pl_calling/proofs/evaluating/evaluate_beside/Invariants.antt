use Rattle.pl_calling.proofs.evaluating.evaluate_beside.Given as goal
use Rattle.pl_engine.specs.Engines.{kept, world}

abbrev pub ghosts-value_of : goal.ghosts-value_of
ghosts-value_of g a = record { begin = world a.engine.now; stays = kept a.engine.now }
