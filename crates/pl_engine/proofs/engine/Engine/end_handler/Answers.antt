use Rattle.pl_engine.proofs.Marking.{handler_ended}
use Rattle.pl_engine.proofs.engine.Engine.end_handler.Goals as goal

pub returns-clause-is : goal.returns-clause-is
returns-clause-is c = λ o. handler_ended o c.args.self.now c.close.new.self c.unhandle.new.self c.close.ensures.is c.unhandle.ensures.is
