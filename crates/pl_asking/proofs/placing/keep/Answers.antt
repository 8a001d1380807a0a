use Rattle.std.proofs.Common.{◌∙◌, ap, refl, sym}
use Rattle.pl_asking.proofs.Acts.{kept_here, kept_not, quiet_is, quiet_step}
use Rattle.pl_asking.proofs.placing.keep.Goals as goal
use Rattle.pl_calling.specs.pl_engine.Engines.{world}
use Rattle.pl_world.specs.Assigning.{takes}
use Rattle.pl_world.specs.Resolving.{Variable}
use Rattle.pl_world.specs.Variables.{with_value}

pub returns-then-not-takes-clause-is : goal.returns-then-not-takes-clause-is
returns-then-not-takes-clause-is c =
    let w = world c.args.engine.now in
    let not = ap (λ (x : Variable). takes x.is_required c.args.v) (sym c.to.view_is) ∙ sym c.if-not-takes.ensures in
    quiet_is c.raise.result c.args.engine.now c.args.engine.now (kept_not (takes c.args.to.is_required c.args.v) (with_value c.args.to.at c.args.v w) c.args.at w not) c.raise.ensures

pub returns-clause-is : goal.returns-clause-is
returns-clause-is c =
    let w = world c.args.engine.now in
    let is = ap (λ (x : Variable). takes x.is_required c.args.v) (sym c.to.view_is) ∙ sym c.if-not-takes.ensures in
    let set = c.set.ensures.is ∙ ap (λ (x : Variable). with_value x.at c.args.v w) c.to.view_is in
    quiet_is _ c.args.engine.now c.set.new.self (kept_here (takes c.args.to.is_required c.args.v) (with_value c.args.to.at c.args.v w) c.args.at w is)
    (quiet_step c.args.engine.now c.set.new.self set refl refl)
