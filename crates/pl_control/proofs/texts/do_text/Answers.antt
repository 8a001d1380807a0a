use Rattle.std.proofs.Common.{◌≡◌, Err, Ok, Result, ◌∙◌, ap, refl, subst, sym}
use Rattle.pl_base.specs.declared.state.State.{State}
use Rattle.pl_bodies.specs.declared.statement.Body.{Body}
use Rattle.pl_control.proofs.Bodies.{does_failed, does_read}
use Rattle.pl_control.proofs.texts.do_text.Goals as goal
use Rattle.pl_engine.proofs.Joins.{acted, answered, becomes, before, lawful, start}
use Rattle.pl_engine.specs.Engines.{world}
use Rattle.pl_engine.specs.Texts.{do_bodies}
use Rattle.pl_typing.specs.Resolved.{Gives}
use Rattle.pl_typing.specs.declared.fail.ScopeFail.{ScopeFail}
use Rattle.pl_engine.specs.pl_world.Statements.{runner_for}
use Rattle.pl_engine.specs.pl_world.Transactions.{body_read, does, unread}
use Rattle.pl_engine.specs.pl_world.declared.outcome.Outcome.TheVariants as outcome

pub returns-in-Ok-clause-is : goal.returns-in-Ok-clause-is
returns-in-Ok-clause-is g c =
    let law = lawful g.P.Port g.met.P.Port.none g.met.P.Port.joins g.met.P.Port.rises in
    let r = runner_for do_bodies c.args.runner.now.room in
    let w = world c.args.engine.now in
    let is = c.in-Ok.ensures ∙ ap (λ (b : Body). let x : Result Body State = Ok b in x) (sym c.get.ensures) in
    answered law _ _ _ (becomes law (start law (does r c.args.at c.args.language.now c.args.text.now w) c.args.engine.now c.args.port.now c.requires.fits)
    (does_read r c.args.at c.args.language.now c.args.text.now w c.get.result.now is)) c.run_nameless.ensures.is

pub returns-in-Err-State-clause-is : goal.returns-in-Err-State-clause-is
returns-in-Err-State-clause-is g c =
    let law = lawful g.P.Port g.met.P.Port.none g.met.P.Port.joins g.met.P.Port.rises in
    let r = runner_for do_bodies c.args.runner.now.room in
    let w = world c.args.engine.now in
    let is = subst (λ (f : ScopeFail). let x : Result Body ScopeFail = Err f in Gives x (body_read do_bodies c.args.language.now c.args.text.now)) c.in-Err-State.field-0-is c.in-Err-State.ensures in
    let told : c.unread.result ≡ unread c.in-Err-State.state = rw c.in-Err-State.field-0-is at c.unread.ensures in
    acted law {o = outcome.Fail c.unread.result} (becomes law (start law (does r c.args.at c.args.language.now c.args.text.now w) c.args.engine.now c.args.port.now c.requires.fits)
    (does_failed r c.args.at c.args.language.now c.args.text.now w c.in-Err-State.state is)) (refl, ap outcome.Fail (sym told), refl, refl, refl, refl)

pub returns-in-Err-Memory-clause-is : goal.returns-in-Err-Memory-clause-is
returns-in-Err-Memory-clause-is g c = before (lawful g.P.Port g.met.P.Port.none g.met.P.Port.joins g.met.P.Port.rises) refl
