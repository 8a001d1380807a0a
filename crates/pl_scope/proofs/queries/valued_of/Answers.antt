use Rattle.std.proofs.Common.{Ok}
use Rattle.pl_names.specs.Sources.{valued}
use Rattle.pl_scope.proofs.Following.{follows_err, follows_ok}
use Rattle.pl_scope.proofs.queries.valued_of.Goals as goal

pub returns-in-Ok : goal.returns-in-Ok
returns-in-Ok c = follows_ok _ (λ x. Ok (valued x c.args.name c.args.alias c.args.row)) _ _ c.in-Ok.is c.valued_at.ensures

pub returns-in-Err : goal.returns-in-Err
returns-in-Err c = follows_err _ (λ x. Ok (valued x c.args.name c.args.alias c.args.row)) _ c.in-Err.is
