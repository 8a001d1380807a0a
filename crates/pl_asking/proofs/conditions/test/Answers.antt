use Rattle.std.proofs.Common.{refl}
use Rattle.pl_asking.proofs.AtOnce.{of_some}
use Rattle.pl_asking.proofs.conditions.test.Goals as goal
use Rattle.pl_asking.specs.Values.{TestedAtOnce}
use Rattle.pl_calling.proofs.of_pl_engine.Joins.{becomes, ended, lawful, start}
use Rattle.pl_calling.specs.pl_engine.Asks.{truth}
use Rattle.pl_calling.specs.pl_engine.Engines.{world}
use Rattle.pl_calling.specs.pl_engine.Texts.{do_bodies}
use Rattle.pl_world.specs.Control.{tested}
use Rattle.pl_world.specs.Statements.{runner_for}

pub returns-in-Some-clause-is : goal.returns-in-Some-clause-is
returns-in-Some-clause-is g c =
    let law = lawful g.P.Port g.met.P.Port.none g.met.P.Port.joins g.met.P.Port.rises in
    let r = runner_for do_bodies c.args.calls.now.room in
    let w = world c.args.engine.now in
    ended law (becomes law (start law (tested r c.args.at c.args.e.now w truth) c.args.engine.now c.args.port.now c.requires.fits)
    (of_some (TestedAtOnce c.args.e.now w) c.truth_at_once.result c.in-Some.holds c.in-Some.is c.truth_at_once.ensures r c.args.at)) refl
