use Rattle.std.proofs.Common.{Bool, Err, ap, refl, subst, sym}
use Rattle.pl_asking.proofs.Acts.{quiet_is, truth_err, truth_ok}
use Rattle.pl_asking.proofs.converting.as_truth.Goals as goal
use Rattle.pl_base.specs.declared.types.Ty.TheVariants.{Bool as Boolean}
use Rattle.pl_base.specs.declared.value.Value.TheVariants.{Bool as Truth}
use Rattle.pl_calc.specs.Answer.{Gives}
use Rattle.pl_calling.specs.pl_engine.Engines.{world}
use Rattle.pl_world.specs.Conversions.{converted}
use Rattle.pl_world.specs.declared.outcome.Outcome.TheVariants as outcome

pub returns-in-Ok : goal.returns-in-Ok
returns-in-Ok c =
    quiet_is _ c.args.engine.now c.args.engine.now (truth_ok c.args.v.now c.args.at (world c.args.engine.now) c.in-Ok.v c.in-Ok.ensures)
    (refl, ap (λ (b : Bool). outcome.Return (Truth b)) (sym c.is_true.ensures), refl, refl, refl, refl)

pub returns-in-Err-State : goal.returns-in-Err-State
returns-in-Err-State c =
    let is = subst (λ f. Gives (Err f) (converted Boolean c.args.v.now)) c.in-Err-State.field-0-is c.in-Err-State.ensures in
    quiet_is c.raise_in_run.result c.args.engine.now c.args.engine.now (truth_err c.args.v.now c.args.at (world c.args.engine.now) c.in-Err-State.state is) c.raise_in_run.ensures
