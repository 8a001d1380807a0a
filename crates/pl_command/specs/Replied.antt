-- An answer without its lines.
use Rattle.std.specs.Prelude.{Result, Ok, Err}
use Rattle.pl_command.specs.declared.answers.Answer.{Answer}
use Rattle.pl_control.specs.pl_engine.declared.stop.Stop.{Stop}
use Rattle.pl_world.specs.declared.session.Reply.{Reply}

abbrev pub replied : Result Answer Stop → Result Reply Stop
replied (Ok answer) = Ok answer.reply
replied (Err stop) = Err stop
