use Rattle.pl_altering.proofs.changing.change_begun.Given as goal
use Rattle.pl_querying.specs.pl_engine.Engines.{kept, world}

abbrev pub ghosts-change_by : goal.ghosts-change_by
ghosts-change_by g a = record { begin = world a.engine.now; stays = kept a.engine.now }
