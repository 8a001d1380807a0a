use Rattle.std.proofs.Common.{List, Ok, Err, Result, refl, subst, sym}
use Rattle.pl_base.specs.declared.fail.Fail.{Fail}
use Rattle.pl_control.specs.pl_calling.Reading.{rows_read}
use Rattle.pl_command.proofs.Using.{reads_off, reads_on, reads_stop}
use Rattle.pl_command.proofs.selecting.select_rows.Goals as goal
use Rattle.pl_command.specs.Shown.{selected, shows}
use Rattle.pl_control.proofs.of_pl_engine.Joins.{acted, before, lawful, refused, stopped}
use Rattle.pl_control.specs.pl_engine.Answers.{Done, Stopped}
use Rattle.pl_control.specs.pl_engine.Engines.{Quiet, world}
use Rattle.pl_control.specs.pl_engine.Texts.{do_bodies}
use Rattle.pl_world.specs.Selection.{heads_of}
use Rattle.pl_resolved.specs.declared.query.Head.{Head}
use Rattle.pl_value.specs.Frames.{Row}
use Rattle.pl_world.specs.Errors.{Spot}
use Rattle.pl_world.specs.Expressions.{rows_over}
use Rattle.pl_world.specs.Sessions.{top}
use Rattle.pl_world.specs.Statements.{runner_for}
use Rattle.pl_world.specs.declared.session.Reply.{Reply}

pub returns-in_err-found-clause-is : goal.returns-in_err-found-clause-is
returns-in_err-found-clause-is g c =
    let law = lawful g.P.Port g.met.P.Port.none g.met.P.Port.joins g.met.P.Port.rises in
    let r = runner_for do_bodies c.args.calls.now.room in
    let w = world c.args.engine.now in
    let qs = c.args.queries.now in
    let s = subst (λ (at : Spot). Stopped g.P.Port (rows_read r at qs w) c.in_err-found.field-0.0 c.args.engine.now c.args.port.now c.query.new.port) c.top.ensures c.in_err-found.ensures.is in
    refused c.query.new.engine _ c.in_err-found.field-0.0 c.from_residual.ensures (reads_stop (rows_over r top qs w) top (shows (heads_of qs)) law c.requires.fits s)

pub returns-in_err-show-in-Ok-clause-is : goal.returns-in_err-show-in-Ok-clause-is
returns-in_err-show-in-Ok-clause-is g c =
    let law = lawful g.P.Port g.met.P.Port.none g.met.P.Port.joins g.met.P.Port.rises in
    let r = runner_for do_bodies c.args.calls.now.room in
    let w = world c.args.engine.now in
    let qs = c.args.queries.now in
    let d = subst (λ (at : Spot). Done g.P.Port (rows_read r at qs w) (Ok c.in-Ok.rows) c.args.engine.now c.query.new.engine c.args.port.now c.query.new.port) c.top.ensures
    (subst (λ (end : Result (List Row) Fail). Done g.P.Port (rows_read r c.top.result qs w) end c.args.engine.now c.query.new.engine c.args.port.now c.query.new.port) c.in-Ok.is c.in_ok-found.ensures.is) in
    refused c.query.new.engine _ _ c.from_residual-in_err-show-in-Ok.ensures
    (stopped law (reads_on (rows_over r top qs w) top (shows (heads_of qs)) law c.requires.fits c.in-Ok.rows d) (before law refl))

pub returns-in_ok-show-in-Ok-clause-is : goal.returns-in_ok-show-in-Ok-clause-is
returns-in_ok-show-in-Ok-clause-is g c =
    let law = lawful g.P.Port g.met.P.Port.none g.met.P.Port.joins g.met.P.Port.rises in
    let r = runner_for do_bodies c.args.calls.now.room in
    let w = world c.args.engine.now in
    let qs = c.args.queries.now in
    let d = subst (λ (at : Spot). Done g.P.Port (rows_read r at qs w) (Ok c.in-Ok.rows) c.args.engine.now c.query.new.engine c.args.port.now c.query.new.port) c.top.ensures
    (subst (λ (end : Result (List Row) Fail). Done g.P.Port (rows_read r c.top.result qs w) end c.args.engine.now c.query.new.engine c.args.port.now c.query.new.port) c.in-Ok.is c.in_ok-found.ensures.is) in
    acted law (reads_on (rows_over r top qs w) top (shows (heads_of qs)) law c.requires.fits c.in-Ok.rows d)
    (subst (λ (heads : List Head). Quiet (shows heads c.in-Ok.rows (world c.query.new.engine)) c.in_ok-show-in-Ok.field-0 c.query.new.engine c.query.new.engine) c.heads_of.ensures c.in_ok-show-in-Ok.ensures)

pub returns-in-Err-clause-is : goal.returns-in-Err-clause-is
returns-in-Err-clause-is g c =
    let law = lawful g.P.Port g.met.P.Port.none g.met.P.Port.joins g.met.P.Port.rises in
    let r = runner_for do_bodies c.args.calls.now.room in
    let w = world c.args.engine.now in
    let qs = c.args.queries.now in
    let d = subst (λ (at : Spot). Done g.P.Port (rows_read r at qs w) (Err c.in-Err.f) c.args.engine.now c.query.new.engine c.args.port.now c.query.new.port) c.top.ensures
    (subst (λ (end : Result (List Row) Fail). Done g.P.Port (rows_read r c.top.result qs w) end c.args.engine.now c.query.new.engine c.args.port.now c.query.new.port) c.in-Err.is c.in_ok-found.ensures.is) in
    subst (λ (answer : Reply). Done g.P.Port (selected r qs w) answer c.args.engine.now c.query.new.engine c.args.port.now c.query.new.port) (sym c.failed.ensures)
    (reads_off (rows_over r top qs w) top (shows (heads_of qs)) law c.requires.fits c.in-Err.f d)
