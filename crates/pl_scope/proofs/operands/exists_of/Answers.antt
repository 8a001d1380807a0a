use Rattle.std.proofs.Common.{Ok}
use Rattle.pl_typing.specs.Subqueries.{exists}
use Rattle.pl_scope.proofs.Following.{follows_err, follows_ok}
use Rattle.pl_scope.proofs.operands.exists_of.Goals as goal

pub returns-in-Ok : goal.returns-in-Ok
returns-in-Ok c = follows_ok _ (λ q. Ok (exists q.number)) _ _ c.in-Ok.is c.exists_at.ensures

pub returns-in-Err : goal.returns-in-Err
returns-in-Err c = follows_err _ (λ q. Ok (exists q.number)) _ c.in-Err.is
