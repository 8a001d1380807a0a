use Rattle.std.proofs.Common.{Ok}
use Rattle.pl_scope.specs.Joining.{joined_by}
use Rattle.pl_scope.proofs.Following.{follows_err, follows_ok}
use Rattle.pl_scope.proofs.entering.joined_on.Goals as goal

pub returns-in-Ok : goal.returns-in-Ok
returns-in-Ok c = follows_ok _ (λ on. Ok (joined_by c.args.both c.args.kind on)) _ _ c.in-Ok.is c.joined_by.ensures

pub returns-in-Err : goal.returns-in-Err
returns-in-Err c = follows_err _ (λ on. Ok (joined_by c.args.both c.args.kind on)) _ c.in-Err.is
