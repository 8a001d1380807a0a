use Rattle.std.proofs.Common.{sym}
use Rattle.pl_asking.proofs.Acts.{declared_last, declared_steps, kept_here, kept_not, quiet_is, quiet_step}
use Rattle.pl_asking.proofs.declaring.add.Goals as goal
use Rattle.pl_calling.specs.pl_engine.Engines.{world}
use Rattle.pl_world.specs.Assigning.{takes}
use Rattle.pl_world.specs.Variables.{declared}

pub returns-then-not-takes-clause-is : goal.returns-then-not-takes-clause-is
returns-then-not-takes-clause-is c =
    let w = world c.args.engine.now in
    let f = c.args.fresh in
    quiet_is c.raise.result c.args.engine.now c.args.engine.now (kept_not (takes f.is_required c.args.v) (declared f.name f.ty f.is_required c.args.v w) c.args.at w (sym c.if-not-takes.ensures)) c.raise.ensures

pub returns-clause-is : goal.returns-clause-is
returns-clause-is c =
    let w = world c.args.engine.now in
    let f = c.args.fresh in
    quiet_is _ c.args.engine.now c.declare.new.self (kept_here (takes f.is_required c.args.v) (declared f.name f.ty f.is_required c.args.v w) c.args.at w (sym c.if-not-takes.ensures))
    (quiet_step c.args.engine.now c.declare.new.self c.in_ok-declare.ensures.is (declared_steps f.name f.ty f.is_required c.args.v w) (declared_last f.name f.ty f.is_required c.args.v w))
