use Rattle.std.proofs.Common.{◌∙◌, Err, ap, refl, subst}
use Rattle.pl_asking.proofs.Valued.{declares_as, declares_not}
use Rattle.pl_asking.proofs.declaring.declare.Goals as goal
use Rattle.pl_base.specs.declared.types.Ty.{Ty}
use Rattle.pl_bodies.specs.declared.declaration.DeclarationKind.{DeclarationKind}
use Rattle.pl_calling.proofs.of_pl_engine.Joins.{acted, answered, becomes, before, lawful, start}
use Rattle.pl_calling.specs.pl_engine.Engines.{world}
use Rattle.pl_calling.specs.pl_engine.Texts.{do_bodies}
use Rattle.pl_typing.specs.Resolved.{Gives}
use Rattle.pl_typing.specs.declared.fail.ScopeFail.{ScopeFail}
use Rattle.pl_world.specs.Blocks.{one_declared}
use Rattle.pl_world.specs.Resolving.{typing}
use Rattle.pl_world.specs.Statements.{runner_for}

pub returns-in-Ok-clause-is : goal.returns-in-Ok-clause-is
returns-in-Ok-clause-is g c =
    let law = lawful g.P.Port g.met.P.Port.none g.met.P.Port.joins g.met.P.Port.rises in
    let r = runner_for do_bodies c.args.calls.now.room in
    let w = world c.args.engine.now in
    let name = c.args.d.now.name in
    answered law _ _ _ (becomes law (start law (one_declared r c.args.at name c.args.d.now.kind w) c.args.engine.now c.args.port.now c.requires.fits)
    (ap (λ (k : DeclarationKind). one_declared r c.args.at name k w) c.in-Variable.is
    ∙ declares_as r c.args.at name c.in-Variable.ty c.in-Variable.is_not_null c.in-Variable.default w c.in-Ok.ty c.in-Ok.ensures)) c.add_with.ensures.is

pub returns-in-State-clause-is : goal.returns-in-State-clause-is
returns-in-State-clause-is g c =
    let law = lawful g.P.Port g.met.P.Port.none g.met.P.Port.joins g.met.P.Port.rises in
    let r = runner_for do_bodies c.args.calls.now.room in
    let w = world c.args.engine.now in
    let name = c.args.d.now.name in
    let is = subst (λ (f : ScopeFail). Gives {A = Ty} (Err f) (typing c.in-Variable.ty w.database.objects w.frame.static)) c.in-State.is c.in-Err.ensures in
    acted law (becomes law (start law (one_declared r c.args.at name c.args.d.now.kind w) c.args.engine.now c.args.port.now c.requires.fits)
    (ap (λ (k : DeclarationKind). one_declared r c.args.at name k w) c.in-Variable.is
    ∙ declares_not r c.args.at name c.in-Variable.ty c.in-Variable.is_not_null c.in-Variable.default w c.in-State.state is)) c.raise.ensures

pub returns-in-Memory-clause-is : goal.returns-in-Memory-clause-is
returns-in-Memory-clause-is g c = before (lawful g.P.Port g.met.P.Port.none g.met.P.Port.joins g.met.P.Port.rises) refl

pub returns-in-Cursor-clause-is : goal.returns-in-Cursor-clause-is
returns-in-Cursor-clause-is g c =
    let law = lawful g.P.Port g.met.P.Port.none g.met.P.Port.joins g.met.P.Port.rises in
    let r = runner_for do_bodies c.args.calls.now.room in
    let w = world c.args.engine.now in
    let name = c.args.d.now.name in
    acted law (becomes law (start law (one_declared r c.args.at name c.args.d.now.kind w) c.args.engine.now c.args.port.now c.requires.fits)
    (ap (λ (k : DeclarationKind). one_declared r c.args.at name k w) c.in-Cursor.is)) c.raise-in-Cursor.ensures
