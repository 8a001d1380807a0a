use Rattle.pl_raise.proofs.Found.{here_err, here_ok}
use Rattle.pl_raise.proofs.settling.settle.Goals as goal

pub returns-in-Ok : goal.returns-in-Ok
returns-in-Ok g c =
    here_ok c.args.found c.args.at c.args.engine.now c.in-Ok.it c.in-Ok.is

pub returns-in-Err : goal.returns-in-Err
returns-in-Err g c =
    here_err c.args.found c.args.at c.args.engine.now c.in-Err.state c.raise_in_run.result c.in-Err.is c.raise_in_run.ensures
