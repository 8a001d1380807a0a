use Rattle.std.proofs.Common.{◌∙◌, refl, rules}
use Rattle.pl_asking.proofs.AtOnce.{of_some}
use Rattle.pl_asking.proofs.Valued.{gives_is, gives_none, value_of_it}
use Rattle.pl_asking.proofs.values.returns.Goals as goal
use Rattle.pl_asking.specs.Values.{GivenAtOnce}
use Rattle.pl_calling.proofs.of_pl_engine.Joins.{answered, becomes, ended, lawful, same_world, start}
use Rattle.pl_calling.specs.pl_engine.Engines.{world}
use Rattle.pl_calling.specs.pl_engine.Texts.{do_bodies}
use Rattle.pl_world.specs.Control.{returns}
use Rattle.pl_world.specs.Errors.{resolved}
use Rattle.pl_world.specs.Resolving.{giving}
use Rattle.pl_world.specs.Statements.{runner_for}
use Rattle.pl_world.specs.World.{World}

pub returns-in_default-clause-is : goal.returns-in_default-clause-is
returns-in_default-clause-is g c =
    let law = lawful g.P.Port g.met.P.Port.none g.met.P.Port.joins g.met.P.Port.rises in
    let r = runner_for do_bodies c.args.calls.now.room in
    let w = world c.args.engine.now in
    ended law (becomes law (start law (returns r c.args.at c.args.e.now w) c.args.engine.now c.args.port.now c.requires.fits)
    (gives_none r c.args.at c.args.e.now w (search rules))) refl

pub returns-in-Some-given_at_once-clause-is : goal.returns-in-Some-given_at_once-clause-is
returns-in-Some-given_at_once-clause-is g c =
    let law = lawful g.P.Port g.met.P.Port.none g.met.P.Port.joins g.met.P.Port.rises in
    let r = runner_for do_bodies c.args.calls.now.room in
    let w = world c.args.engine.now in
    ended law (becomes law (start law (returns r c.args.at c.args.e.now w) c.args.engine.now c.args.port.now c.requires.fits)
    (gives_is r c.args.at c.args.e.now c.get-due.result.now w (search rules)
    ∙ of_some (GivenAtOnce c.get-due.result.now w) c.given_at_once.result c.in-Some-given_at_once.v c.in-Some-given_at_once.is c.given_at_once.ensures r c.args.at)) refl

pub returns-in-None-clause-is : goal.returns-in-None-clause-is
returns-in-None-clause-is g c =
    let law = lawful g.P.Port g.met.P.Port.none g.met.P.Port.joins g.met.P.Port.rises in
    let r = runner_for do_bodies c.args.calls.now.room in
    let w = world c.args.engine.now in
    let meaning = giving c.get-due.result.now w.database.objects w.frame.static in
    let way = becomes law (start law (returns r c.args.at c.args.e.now w) c.args.engine.now c.args.port.now c.requires.fits)
    (gives_is r c.args.at c.args.e.now c.get-due.result.now w (search rules)) in
    answered law _ _ _ (same_world law {new = c.give-e.new.engine} way c.give-e.ensures.is (λ (x : World). resolved meaning c.args.at x (value_of_it r c.args.at x)) refl)
    (c.evaluate_it.ensures.is meaning c.give-e.ensures.gives)
