use Rattle.std.proofs.Common.{Option, Some, ◌∙◌, ap, refl, subst, sym}
use Rattle.pl_base.specs.States.{FEATURE_NOT_SUPPORTED}
use Rattle.pl_control.proofs.Noting.{refused}
use Rattle.pl_control.proofs.definitions.define_read.Goals as goal
use Rattle.pl_control.specs.Noted.{defined}
use Rattle.pl_engine.proofs.Joins.{lawful}
use Rattle.pl_engine.specs.Answers.{Answers}
use Rattle.pl_engine.specs.Engines.{world}
use Rattle.pl_tree.specs.declared.command.Definition.{Definition}
use Rattle.pl_engine.specs.pl_world.Commands.{defining}

pub returns-in-None-clause-is : goal.returns-in-None-clause-is
returns-in-None-clause-is g c =
    let law = lawful g.P.Port g.met.P.Port.none g.met.P.Port.joins g.met.P.Port.rises in
    let w = world c.args.engine.now in
    refused law c.args.at c.args.definition c.args.text {old = c.args.engine.now} {new = c.args.engine.now} c.requires.fits FEATURE_NOT_SUPPORTED c.failure.result
    (ap (λ (d : Option Definition). defining d c.args.text w.changing w.database) c.in-None.is) refl c.failure.ensures

pub returns-in-Some-clause-is : goal.returns-in-Some-clause-is
returns-in-Some-clause-is g c =
    subst (λ (d : Option Definition). Answers g.P.Port (defined c.args.at d c.args.text (world c.args.engine.now)) c.carry_out.result c.args.engine.now c.carry_out.new.engine c.args.port.now c.carry_out.new.port)
    (ap (λ (d : Definition). Some d) c.get.ensures ∙ sym c.in-Some.is) c.carry_out.ensures.is
