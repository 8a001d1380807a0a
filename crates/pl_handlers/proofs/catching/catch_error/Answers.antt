use Rattle.std.proofs.Common.{◌≡◌, ◌∙◌, List, None, Option, Some, ap, sym}
use Rattle.pl_bodies.specs.declared.statement.Block.{out-Block}
use Rattle.pl_bodies.specs.declared.statement.Handler.{Handler}
use Rattle.pl_bodies.specs.declared.statement.Statement.{Statement}
use Rattle.pl_flow.proofs.of_pl_engine.Joins.{answered, lawful}
use Rattle.pl_flow.specs.pl_engine.Handling.{kept_at}
use Rattle.pl_handlers.proofs.Handled.{caught_here, uncaught}
use Rattle.pl_conditions.specs.pl_world.Blocks.{handler_for}
use Rattle.pl_conditions.specs.pl_world.Statements.{runner_for}
use Rattle.pl_flow.specs.pl_engine.Texts.{do_bodies}
use Rattle.pl_handlers.proofs.catching.catch_error.Goals as goal

pub returns-in-Some-clause-is : goal.returns-in-Some-clause-is
returns-in-Some-clause-is g c =
    let law = lawful g.P.Port g.met.P.Port.none g.met.P.Port.joins g.met.P.Port.rises in
    let r = runner_for do_bodies c.args.runner.now.room in
    let handlers : List Handler = (out-Block c.args.block.now).handlers in
    let same : c.as_slice.result.now ≡ handlers = c.as_slice.ensures in
    let statements : c.as_slice-statements.result.now ≡ c.in-Some.statements.now = c.as_slice-statements.ensures in
    let which : Option (List Statement) = handler_for c.as_slice.result.now c.args.f in
    let is : Some c.in-Some.statements.now ≡ which = c.in-Some.ensures in
    let found : handler_for handlers c.args.f ≡ Some c.as_slice-statements.result.now =
    ap (λ (hs : List Handler). handler_for hs c.args.f) (sym same) ∙ (sym is ∙ ap (λ (ss : List Statement). Some ss) (sym statements)) in
    answered law _ _ _ (caught_here law r (out-Block c.args.block.now).label handlers (kept_at c.args.mark.at c.args.engine.now) c.args.engine.now c.args.port.now c.requires.fits c.args.f c.as_slice-statements.result.now found) c.handle.ensures.is

pub returns-in-None-clause-is : goal.returns-in-None-clause-is
returns-in-None-clause-is g c =
    let law = lawful g.P.Port g.met.P.Port.none g.met.P.Port.joins g.met.P.Port.rises in
    let r = runner_for do_bodies c.args.runner.now.room in
    let handlers : List Handler = (out-Block c.args.block.now).handlers in
    let same : c.as_slice.result.now ≡ handlers = c.as_slice.ensures in
    let which : Option (List Statement) = handler_for c.as_slice.result.now c.args.f in
    let is : None ≡ which = c.in-None.ensures in
    let none : handler_for handlers c.args.f ≡ None = ap (λ (hs : List Handler). handler_for hs c.args.f) (sym same) ∙ sym is in
    uncaught law r (out-Block c.args.block.now).label handlers (kept_at c.args.mark.at c.args.engine.now) c.args.engine.now c.args.port.now c.requires.fits c.unprotect.new.self c.args.f none c.unprotect.ensures.is
