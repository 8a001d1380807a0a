use Rattle.pl_scope.proofs.Following.{follows_err, follows_ok}
use Rattle.pl_scope.proofs.operands.asked_of.Goals as goal

pub returns-in-Ok : goal.returns-in-Ok
returns-in-Ok c = follows_ok _ _ _ _ c.in-Ok.is c.asked.ensures

pub returns-in-Err : goal.returns-in-Err
returns-in-Err c = follows_err _ _ _ c.in-Err.is
