use Rattle.pl_engine.proofs.Marking.{handler_begun}
use Rattle.pl_engine.proofs.engine.Engine.begin_handler.Goals as goal

pub returns-clause-is : goal.returns-clause-is
returns-clause-is c =
    handler_begun c.args.label c.args.f c.in_ok-state.state c.in_ok-message.message c.args.mark.at c.args.self.now c.go_back.new.self c.handle.new.self c.declare_error.new.self c.declare_error.result c.go_back.ensures.is c.in_ok-state.ensures c.in_ok-message.ensures c.in_ok-handle.ensures.is c.declare_error.ensures.is
