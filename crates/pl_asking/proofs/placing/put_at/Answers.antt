use Rattle.std.proofs.Common.{Err, subst}
use Rattle.pl_asking.proofs.Acts.{put_it, quiet_if, quiet_is, resolved_err, resolved_ok}
use Rattle.pl_asking.proofs.placing.put_at.Goals as goal
use Rattle.pl_calling.specs.pl_engine.Engines.{world}
use Rattle.pl_typing.specs.Resolved.{Gives}
use Rattle.pl_typing.specs.declared.fail.ScopeFail.{ScopeFail}
use Rattle.pl_world.specs.Resolving.{Variable, aiming}

pub returns-in-Ok-clause-is : goal.returns-in-Ok-clause-is
returns-in-Ok-clause-is c =
    let w = world c.args.engine.now in
    quiet_if c.args.engine.now c.put.new.engine c.put.result (resolved_ok (aiming c.args.target.now w.database.objects w.frame.static) c.args.at w (put_it c.args.v.now c.args.at w) c.in-Ok.to c.in-Ok.ensures) c.put.ensures.is

pub returns-in-Err-State-clause-is : goal.returns-in-Err-State-clause-is
returns-in-Err-State-clause-is c =
    let w = world c.args.engine.now in
    let m = aiming c.args.target.now w.database.objects w.frame.static in
    let is = subst (λ (f : ScopeFail). Gives {A = Variable} (Err f) m) c.in-Err-State.field-0-is c.in-Err-State.ensures in
    quiet_is c.raise.result c.args.engine.now c.args.engine.now (resolved_err m c.args.at w (put_it c.args.v.now c.args.at w) c.in-Err-State.state is) c.raise.ensures
