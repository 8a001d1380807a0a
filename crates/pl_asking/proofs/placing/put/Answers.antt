use Rattle.std.proofs.Common.{◌∙◌, Err, ap, subst, sym}
use Rattle.pl_asking.proofs.Acts.{as_type_err, as_type_ok, put_is, put_next, quiet_is}
use Rattle.pl_asking.proofs.placing.put.Goals as goal
use Rattle.pl_calc.specs.Answer.{Gives}
use Rattle.pl_calling.specs.pl_engine.Engines.{world}
use Rattle.pl_world.specs.Conversions.{converted}
use Rattle.pl_world.specs.Resolving.{Variable}

pub returns-in-Ok-clause-is : goal.returns-in-Ok-clause-is
returns-in-Ok-clause-is c =
    let w = world c.args.engine.now in
    let is = ap (λ (x : Variable). converted x.ty c.args.v.now) (sym c.to.view_is) ∙ c.in-Ok.ensures in
    quiet_is c.keep.result c.args.engine.now c.keep.new.engine (put_is c.args.to c.args.v.now c.args.at w ∙ as_type_ok c.args.to.ty c.args.v.now c.args.at w (put_next c.args.to c.args.at) c.in-Ok.v is) c.keep.ensures.is

pub returns-in-State-clause-is : goal.returns-in-State-clause-is
returns-in-State-clause-is c =
    let w = world c.args.engine.now in
    let fails = subst (λ (x : Variable). Gives (Err c.in-Err.fail) (converted x.ty c.args.v.now)) c.to.view_is c.in-Err.ensures in
    let is = subst (λ f. Gives (Err f) (converted c.args.to.ty c.args.v.now)) c.in-State.is fails in
    quiet_is c.raise_in_run.result c.args.engine.now c.args.engine.now (put_is c.args.to c.args.v.now c.args.at w ∙ as_type_err c.args.to.ty c.args.v.now c.args.at w (put_next c.args.to c.args.at) c.in-State.state is) c.raise_in_run.ensures
