use Rattle.std.proofs.Common.{Err, subst}
use Rattle.pl_asking.proofs.Acts.{as_type_err, as_type_ok, quiet_is}
use Rattle.pl_asking.proofs.Valued.{number_next}
use Rattle.pl_asking.proofs.converting.as_bound.Goals as goal
use Rattle.pl_base.specs.declared.types.Ty.TheVariants.{Int as Integer}
use Rattle.pl_calc.specs.Answer.{Gives}
use Rattle.pl_calling.specs.pl_engine.Engines.{world}
use Rattle.pl_world.specs.Conversions.{converted}

pub returns-in-Ok : goal.returns-in-Ok
returns-in-Ok c = quiet_is c.number_of.result c.args.engine.now c.args.engine.now (as_type_ok Integer c.args.v.now c.args.at (world c.args.engine.now) (number_next c.args.at) c.in-Ok.v c.in-Ok.ensures) c.number_of.ensures

pub returns-in-Err-State : goal.returns-in-Err-State
returns-in-Err-State c =
    let is = subst (λ f. Gives (Err f) (converted Integer c.args.v.now)) c.in-Err-State.field-0-is c.in-Err-State.ensures in
    quiet_is c.raise_in_run.result c.args.engine.now c.args.engine.now (as_type_err Integer c.args.v.now c.args.at (world c.args.engine.now) (number_next c.args.at) c.in-Err-State.state is) c.raise_in_run.ensures
