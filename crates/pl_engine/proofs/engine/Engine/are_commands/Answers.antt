use Rattle.std.proofs.Common.{◌∙◌, ◌&&◌, ap}
use Rattle.std.specs.List.{list_all}
use Rattle.pl_engine.proofs.Turned.{each_command}
use Rattle.pl_engine.proofs.engine.Engine.are_commands.Goals as goal
use Rattle.pl_engine.specs.Engines.{is_command}
use Rattle.pl_engine.specs.declared.call.Call.{Call}
use Rattle.pl_variables.specs.declared.frames.Frame.{Frame}

pub returns : goal.returns
returns c =
    c.both_commands.ensures
    ∙ (ap (λ (f : Frame Call). is_command f && list_all is_command c.below.result.now) c.newest.ensures
    ∙ each_command c.args.self.now.frames.newest c.below.result.now c.args.self.now.frames.below c.below.ensures)
