use Rattle.std.proofs.Common.{refl}
use Rattle.pl_asking.proofs.AtOnce.{of_some}
use Rattle.pl_asking.proofs.Valued.{value_of_it}
use Rattle.pl_asking.proofs.values.value.Goals as goal
use Rattle.pl_asking.specs.Values.{AtOnce, read_value}
use Rattle.pl_calling.proofs.of_pl_engine.Joins.{answered, becomes, ended, lawful, same_world, start}
use Rattle.pl_calling.specs.pl_engine.Engines.{world}
use Rattle.pl_calling.specs.pl_engine.Texts.{do_bodies}
use Rattle.pl_world.specs.Errors.{resolved}
use Rattle.pl_world.specs.Resolving.{reading}
use Rattle.pl_world.specs.Statements.{runner_for}
use Rattle.pl_world.specs.World.{World}

pub returns-in-Some-clause-is : goal.returns-in-Some-clause-is
returns-in-Some-clause-is g c =
    let law = lawful g.P.Port g.met.P.Port.none g.met.P.Port.joins g.met.P.Port.rises in
    let r = runner_for do_bodies c.args.calls.now.room in
    let w = world c.args.engine.now in
    ended law (becomes law (start law (read_value r c.args.at c.args.e.now w) c.args.engine.now c.args.port.now c.requires.fits)
    (of_some (AtOnce c.args.e.now w) c.value_at_once.result c.in-Some.v c.in-Some.is c.value_at_once.ensures r c.args.at)) refl

pub returns-in-None-clause-is : goal.returns-in-None-clause-is
returns-in-None-clause-is g c =
    let law = lawful g.P.Port g.met.P.Port.none g.met.P.Port.joins g.met.P.Port.rises in
    let r = runner_for do_bodies c.args.calls.now.room in
    let w = world c.args.engine.now in
    let meaning = reading c.args.e.now w.database.objects w.frame.static in
    answered law _ _ _ (same_world law {new = c.resolve_expr-e.new.self} (start law (read_value r c.args.at c.args.e.now w) c.args.engine.now c.args.port.now c.requires.fits) c.resolve_expr-e.ensures.is
    (λ (x : World). resolved meaning c.args.at x (value_of_it r c.args.at x)) refl)
    (c.evaluate_it.ensures.is meaning c.resolve_expr-e.ensures.gives)
