use Rattle.std.proofs.Common.{◌∙◌, Option, ap, refl}
use Rattle.pl_bodies.specs.declared.statement.Otherwise.{Otherwise}
use Rattle.pl_engine.proofs.Joins.{becomes, ended, lawful, start}
use Rattle.pl_engine.specs.Engines.{world}
use Rattle.pl_engine.specs.Texts.{do_bodies}
use Rattle.pl_flow.proofs.Lists.{all_none}
use Rattle.pl_flow.proofs.branching.otherwise.Goals as goal
use Rattle.pl_engine.specs.pl_world.Control.{else_of}
use Rattle.pl_engine.specs.pl_world.Running.{all}
use Rattle.pl_engine.specs.pl_world.Statements.{runner_for}

pub returns-in-None-clause-is : goal.returns-in-None-clause-is
returns-in-None-clause-is g c =
    let law = lawful g.P.Port g.met.P.Port.none g.met.P.Port.joins g.met.P.Port.rises in
    let r = runner_for do_bodies c.args.runner.now.room in
    let w = world c.args.engine.now in
    ended law (becomes law (start law (all r (else_of c.args.otherwise.now) w) c.args.engine.now c.args.port.now c.requires.fits)
    (ap (λ (o : Option Otherwise). all r (else_of o) w) c.in-None.is ∙ all_none r w)) refl
