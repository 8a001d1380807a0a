use Rattle.std.proofs.Common.{Err, Option, Result, Some, subst, sym, refl}
use Rattle.pl_base.specs.declared.state.State.{State}
use Rattle.pl_control.proofs.Noting.{carried, refused}
use Rattle.pl_control.proofs.definitions.carry_out.Goals as goal
use Rattle.pl_engine.proofs.Joins.{answered, before, lawful}
use Rattle.pl_engine.specs.Changing.{Defined}
use Rattle.pl_engine.specs.Engines.{world}
use Rattle.pl_typing.specs.declared.fail.ScopeFail.{ScopeFail}
use Rattle.pl_engine.specs.pl_world.Commands.{defining}
use Rattle.pl_engine.specs.pl_world.World.{World}

pub note-requires : goal.note-requires
note-requires g c = record { fits = subst (λ (w : World). g.P.Port.fits w.last c.args.port.now) (sym c.in-Ok.ensures.is.2) c.requires.fits }

pub returns-in-Ok-clause-is : goal.returns-in-Ok-clause-is
returns-in-Ok-clause-is g c =
    let law = lawful g.P.Port g.met.P.Port.none g.met.P.Port.joins g.met.P.Port.rises in
    answered law _ _ _ (carried law c.args.at (Some c.args.definition.now) c.args.text {old = c.args.engine.now} {new = c.define.new.self} c.requires.fits c.in-Ok.notice c.in-Ok.ensures.is) c.note.ensures

pub returns-in-Err-State-clause-is : goal.returns-in-Err-State-clause-is
returns-in-Err-State-clause-is g c =
    let law = lawful g.P.Port g.met.P.Port.none g.met.P.Port.joins g.met.P.Port.rises in
    let w = world c.args.engine.now in
    let is = subst (λ (f : ScopeFail). let r : Result (Option State) ScopeFail = Err f in Defined (defining (Some c.args.definition.now) c.args.text w.changing w.database) r w (world c.define.new.self)) c.in-Err-State.field-0-is c.in-Err-State.ensures.is in
    refused law c.args.at (Some c.args.definition.now) c.args.text {old = c.args.engine.now} {new = c.define.new.self} c.requires.fits c.in-Err-State.state c.failure.result is.0 is.1 c.failure.ensures

pub returns-in-Err-Memory-clause-is : goal.returns-in-Err-Memory-clause-is
returns-in-Err-Memory-clause-is g c = before (lawful g.P.Port g.met.P.Port.none g.met.P.Port.joins g.met.P.Port.rises) refl
