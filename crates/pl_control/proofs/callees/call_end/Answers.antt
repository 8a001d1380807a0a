use Rattle.pl_control.proofs.Bodies.{after_other}
use Rattle.pl_control.proofs.callees.call_end.Goals as goal

pub returns-in_default : goal.returns-in_default
returns-in_default c = λ w. after_other c.args.end c.in_default.not-Return w
