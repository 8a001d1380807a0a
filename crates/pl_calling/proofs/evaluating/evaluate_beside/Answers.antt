use Rattle.std.proofs.Common.{◌++◌}
use Rattle.pl_calling.proofs.Telling.{read_error, read_stopped, read_value}
use Rattle.pl_calling.proofs.evaluating.evaluate_beside.Goals as goal
use Rattle.pl_engine.specs.Engines.{world}
use Rattle.pl_engine.specs.Texts.{do_bodies}
use Rattle.pl_engine.specs.pl_world.Expressions.{value_over}
use Rattle.pl_engine.specs.pl_world.Statements.{runner_for}
use Rattle.pl_engine.specs.pl_world.Variables.{row_of}

pub returns-in-Ok-Ok-clause-is : goal.returns-in-Ok-Ok-clause-is
returns-in-Ok-Ok-clause-is g c =
    read_value (value_over (runner_for do_bodies c.args.calls.now.room) c.args.at c.args.e.now (row_of (world c.args.engine.now).frame ++ c.args.beside.now) (world c.args.engine.now)) c.args.at c.in-Ok-Ok.field-0 c.in-Ok-Ok.v c.in-Ok-Ok.field-0-is c.in-Ok-Ok.ensures.is

pub returns-in-Ok-Err-clause-is : goal.returns-in-Ok-Err-clause-is
returns-in-Ok-Err-clause-is g c =
    read_error (value_over (runner_for do_bodies c.args.calls.now.room) c.args.at c.args.e.now (row_of (world c.args.engine.now).frame ++ c.args.beside.now) (world c.args.engine.now)) c.args.at c.in-Ok-Err.field-0 c.in-Ok-Err.f c.in-Ok-Err.field-0-is c.in-Ok-Err.ensures.is

pub returns-in-Err-clause-is : goal.returns-in-Err-clause-is
returns-in-Err-clause-is g c =
    read_stopped (value_over (runner_for do_bodies c.args.calls.now.room) c.args.at c.args.e.now (row_of (world c.args.engine.now).frame ++ c.args.beside.now) (world c.args.engine.now)) c.args.at c.in-Err.stop c.in-Err.ensures.is
