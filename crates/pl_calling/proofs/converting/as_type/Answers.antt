use Rattle.std.proofs.Common.{Err, subst}
use Rattle.pl_base.specs.declared.state.State.{State}
use Rattle.pl_calc.specs.Answer.{Gives}
use Rattle.pl_calling.proofs.Entered.{typed, untyped}
use Rattle.pl_calling.proofs.converting.as_type.Goals as goal
use Rattle.pl_engine.specs.Engines.{Quiet, world}
use Rattle.pl_engine.specs.pl_world.Conversions.{converted}
use Rattle.pl_engine.specs.pl_world.Errors.{raised}

pub returns-in-Ok : goal.returns-in-Ok
returns-in-Ok c = typed c.args.to c.args.v.now c.in-Ok.v c.args.at c.args.engine.now c.in-Ok.ensures

pub returns-in-Err-State : goal.returns-in-Err-State
returns-in-Err-State c =
    untyped c.args.to c.args.v.now c.in-Err-State.state c.args.at c.args.engine.now c.raise.result (subst (λ f. Gives (Err f) (converted c.args.to c.args.v.now)) c.in-Err-State.field-0-is c.in-Err-State.ensures)
    (subst (λ (s : State). Quiet (raised s c.args.at (world c.args.engine.now)) c.raise.result c.args.engine.now c.args.engine.now) c.run_state.ensures c.raise.ensures)
