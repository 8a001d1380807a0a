use Rattle.pl_world.proofs.Runs.{handler_count, handler_database, handler_handled, handler_steps}
use Rattle.pl_world.proofs.Runs.{handler_variables}
use Rattle.pl_world.proofs.laws.handlers_begin.Goals as goal

pub returns : goal.returns
returns c = record {
  database = handler_database;
  variables = handler_variables;
  steps = handler_steps;
  row_count = handler_count;
  handled = handler_handled;
}
