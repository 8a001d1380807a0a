use Rattle.std.proofs.Common.{List, Ok, Err, Result, refl, subst, sym}
use Rattle.pl_base.specs.declared.fail.Fail.{Fail}
use Rattle.pl_control.specs.pl_calling.Ends.{settles}
use Rattle.pl_command.proofs.Using.{reads_off, reads_on, reads_stop}
use Rattle.pl_command.proofs.changing.change_rows.Goals as goal
use Rattle.pl_command.specs.Shown.{made_change, shows_change}
use Rattle.pl_control.proofs.of_pl_engine.Joins.{acted, before, lawful, refused, stopped}
use Rattle.pl_control.specs.pl_engine.Answers.{Done, Stopped}
use Rattle.pl_control.specs.pl_engine.Engines.{world}
use Rattle.pl_control.specs.pl_engine.Texts.{do_bodies}
use Rattle.pl_value.specs.Frames.{Row}
use Rattle.pl_world.specs.Changes.{changed}
use Rattle.pl_world.specs.Commands.{finished}
use Rattle.pl_world.specs.Errors.{Spot}
use Rattle.pl_world.specs.Sessions.{top}
use Rattle.pl_world.specs.Statements.{runner_for}
use Rattle.pl_world.specs.declared.session.Reply.{Reply}

pub returns-in_err-made-clause-is : goal.returns-in_err-made-clause-is
returns-in_err-made-clause-is g c =
    let law = lawful g.P.Port g.met.P.Port.none g.met.P.Port.joins g.met.P.Port.rises in
    let r = runner_for do_bodies c.args.calls.now.room in
    let w = world c.args.engine.now in
    let x = c.args.c.now in
    let s = subst (λ (at : Spot). Stopped g.P.Port (settles (finished (changed r at x w)) at) c.in_err-made.field-0.0 c.args.engine.now c.args.port.now c.change.new.port) c.top.ensures c.in_err-made.ensures.is in
    refused c.change.new.engine _ c.in_err-made.field-0.0 c.from_residual.ensures (reads_stop (finished (changed r top x w)) top (shows_change x) law c.requires.fits s)

pub returns-in_err-show_change-in-Ok-clause-is : goal.returns-in_err-show_change-in-Ok-clause-is
returns-in_err-show_change-in-Ok-clause-is g c =
    let law = lawful g.P.Port g.met.P.Port.none g.met.P.Port.joins g.met.P.Port.rises in
    let r = runner_for do_bodies c.args.calls.now.room in
    let w = world c.args.engine.now in
    let x = c.args.c.now in
    let d = subst (λ (at : Spot). Done g.P.Port (settles (finished (changed r at x w)) at) (Ok c.in-Ok.rows) c.args.engine.now c.change.new.engine c.args.port.now c.change.new.port) c.top.ensures
    (subst (λ (end : Result (List Row) Fail). Done g.P.Port (settles (finished (changed r c.top.result x w)) c.top.result) end c.args.engine.now c.change.new.engine c.args.port.now c.change.new.port) c.in-Ok.is c.in_ok-made.ensures.is) in
    refused c.change.new.engine _ _ c.from_residual-in_err-show_change-in-Ok.ensures
    (stopped law (reads_on (finished (changed r top x w)) top (shows_change x) law c.requires.fits c.in-Ok.rows d) (before law refl))

pub returns-in_ok-show_change-in-Ok-clause-is : goal.returns-in_ok-show_change-in-Ok-clause-is
returns-in_ok-show_change-in-Ok-clause-is g c =
    let law = lawful g.P.Port g.met.P.Port.none g.met.P.Port.joins g.met.P.Port.rises in
    let r = runner_for do_bodies c.args.calls.now.room in
    let w = world c.args.engine.now in
    let x = c.args.c.now in
    let d = subst (λ (at : Spot). Done g.P.Port (settles (finished (changed r at x w)) at) (Ok c.in-Ok.rows) c.args.engine.now c.change.new.engine c.args.port.now c.change.new.port) c.top.ensures
    (subst (λ (end : Result (List Row) Fail). Done g.P.Port (settles (finished (changed r c.top.result x w)) c.top.result) end c.args.engine.now c.change.new.engine c.args.port.now c.change.new.port) c.in-Ok.is c.in_ok-made.ensures.is) in
    acted law (reads_on (finished (changed r top x w)) top (shows_change x) law c.requires.fits c.in-Ok.rows d) c.in_ok-show_change-in-Ok.ensures

pub returns-in-Err-clause-is : goal.returns-in-Err-clause-is
returns-in-Err-clause-is g c =
    let law = lawful g.P.Port g.met.P.Port.none g.met.P.Port.joins g.met.P.Port.rises in
    let r = runner_for do_bodies c.args.calls.now.room in
    let w = world c.args.engine.now in
    let x = c.args.c.now in
    let d = subst (λ (at : Spot). Done g.P.Port (settles (finished (changed r at x w)) at) (Err c.in-Err.f) c.args.engine.now c.change.new.engine c.args.port.now c.change.new.port) c.top.ensures
    (subst (λ (end : Result (List Row) Fail). Done g.P.Port (settles (finished (changed r c.top.result x w)) c.top.result) end c.args.engine.now c.change.new.engine c.args.port.now c.change.new.port) c.in-Err.is c.in_ok-made.ensures.is) in
    subst (λ (answer : Reply). Done g.P.Port (made_change r x w) answer c.args.engine.now c.change.new.engine c.args.port.now c.change.new.port) (sym c.failed.ensures)
    (reads_off (finished (changed r top x w)) top (shows_change x) law c.requires.fits c.in-Err.f d)
