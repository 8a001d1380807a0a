use Rattle.std.proofs.Common.{Option, ap, refl}
use Rattle.pl_asking.proofs.values.default_value.Goals as goal
use Rattle.pl_asking.specs.Values.{read_default}
use Rattle.pl_calling.proofs.of_pl_engine.Joins.{answered, becomes, ended, lawful, start}
use Rattle.pl_calling.specs.pl_engine.Engines.{world}
use Rattle.pl_calling.specs.pl_engine.Texts.{do_bodies}
use Rattle.pl_tree.specs.declared.tree.Expr.{Expr}
use Rattle.pl_world.specs.Statements.{runner_for}
use Rattle.std.proofs.Common.{rules, Some, ◌≡◌}

pub returns-in-Some-clause-is : goal.returns-in-Some-clause-is
returns-in-Some-clause-is g c =
    let law = lawful g.P.Port g.met.P.Port.none g.met.P.Port.joins g.met.P.Port.rises in
    let r = runner_for do_bodies c.args.calls.now.room in
    let w = world c.args.engine.now in
    let is : c.args.default.now ≡ Some c.get.result.now = search rules in
    answered law _ _ _ (becomes law (start law (read_default r c.args.at c.args.default.now w) c.args.engine.now c.args.port.now c.requires.fits)
    (ap (λ (d : Option Expr). read_default r c.args.at d w) is)) c.value.ensures.is

pub returns-in-None-clause-is : goal.returns-in-None-clause-is
returns-in-None-clause-is g c =
    let law = lawful g.P.Port g.met.P.Port.none g.met.P.Port.joins g.met.P.Port.rises in
    let r = runner_for do_bodies c.args.calls.now.room in
    let w = world c.args.engine.now in
    ended law (becomes law (start law (read_default r c.args.at c.args.default.now w) c.args.engine.now c.args.port.now c.requires.fits)
    (ap (λ (d : Option Expr). read_default r c.args.at d w) c.in-None.is)) refl
