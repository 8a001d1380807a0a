use Rattle.pl_calling.proofs.querying.query.Given as goal
use Rattle.pl_engine.specs.Engines.{kept, world}

abbrev pub ghosts-rows_of : goal.ghosts-rows_of
ghosts-rows_of g a = record { begin = world a.engine.now; stays = kept a.engine.now }
