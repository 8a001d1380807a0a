use Rattle.std.proofs.Common.{Err, subst}
use Rattle.pl_asking.proofs.Acts.{as_type_err, as_type_ok, quiet_if, quiet_is}
use Rattle.pl_asking.proofs.Valued.{kept_next}
use Rattle.pl_asking.proofs.declaring.add_as.Goals as goal
use Rattle.pl_calc.specs.Answer.{Gives}
use Rattle.pl_calling.specs.pl_engine.Engines.{world}
use Rattle.pl_world.specs.Conversions.{converted}

pub returns-in-Ok-clause-is : goal.returns-in-Ok-clause-is
returns-in-Ok-clause-is c =
    let f = c.args.fresh in
    quiet_if c.args.engine.now c.add.new.engine c.add.result (as_type_ok f.ty c.args.v.now c.args.at (world c.args.engine.now) (kept_next c.args.at f.name f.ty f.is_required) c.in-Ok.v c.in-Ok.ensures) c.add.ensures.is

pub returns-in-State-clause-is : goal.returns-in-State-clause-is
returns-in-State-clause-is c =
    let f = c.args.fresh in
    let is = subst (λ fail. Gives (Err fail) (converted f.ty c.args.v.now)) c.in-State.is c.in-Err.ensures in
    quiet_is c.raise_in_run.result c.args.engine.now c.args.engine.now (as_type_err f.ty c.args.v.now c.args.at (world c.args.engine.now) (kept_next c.args.at f.name f.ty f.is_required) c.in-State.state is) c.raise_in_run.ensures
