use Rattle.std.proofs.Common.{refl}
use Rattle.pl_port.specs.pl_engine.Texts.{do_bodies}
use Rattle.pl_reading.specs.declared.reading.Reading.TheVariants.{Spelled}
use Rattle.pl_session.proofs.Ends.{answered_end, answered_moments, unanswered, unanswered_moments}
use Rattle.pl_session.proofs.Opens.{ready_fits}
use Rattle.pl_session.specs.State.{session_in}
use Rattle.pl_session.specs.declared.state.SessionState.{SessionState}
use Rattle.pl_session.proofs.state.SessionState.answer.Goals as goal
use Rattle.pl_exec.specs.pl_world.Sessions.{does_command}

pub do_command-requires-clause-stands : goal.do_command-requires-clause-stands
do_command-requires-clause-stands g c = c.requires.ready.stands

pub do_command-requires-clause-fits : goal.do_command-requires-clause-fits
do_command-requires-clause-fits g c = ready_fits (g.H.Disk.view c.args.host.now) c.args.self.now c.requires.ready

pub returns-in_err-answer-clause-moments : goal.returns-in_err-answer-clause-moments
returns-in_err-answer-clause-moments g c =
    unanswered_moments (g.H.Disk.view c.args.host.now) (g.H.Disk.view c.do_command.new.host) c.args.self.now c.args.steps c.args.tree c.do_command.ensures.moments

pub returns-in_err-answer-clause-ended : goal.returns-in_err-answer-clause-ended
returns-in_err-answer-clause-ended g c =
    unanswered (g.H.Disk.view c.args.host.now) (g.H.Disk.view c.do_command.new.host) c.args.self.now c.args.steps c.args.tree _ c.in_err-answer.field-0.0 c.from_residual.result c.from_residual.ensures.1 c.in_err-answer.ensures.cause

pub returns-clause-moments : goal.returns-clause-moments
returns-clause-moments g c =
    let a = g.H.Disk.view c.args.host.now in
    let b = g.H.Disk.view c.do_command.new.host in
    let d = g.H.Disk.view c.say_reply.new.host in
    let before = c.args.self.now in
    let state : SessionState = record before { transaction = c.do_command.new.transaction; engine = c.do_command.new.engine; keeper = c.do_command.new.keeper } in
    answered_moments a b d before state c.args.steps (Spelled c.args.tree) (does_command do_bodies c.args.steps c.args.tree (session_in before)) c.in_ok-answer.answer.reply c.requires.ready refl
    c.in_ok-answer.ensures.done c.say_reply.ensures.moments

pub returns-clause-ended : goal.returns-clause-ended
returns-clause-ended g c =
    let a = g.H.Disk.view c.args.host.now in
    let b = g.H.Disk.view c.do_command.new.host in
    let d = g.H.Disk.view c.say_reply.new.host in
    let before = c.args.self.now in
    let state : SessionState = record before { transaction = c.do_command.new.transaction; engine = c.do_command.new.engine; keeper = c.do_command.new.keeper } in
    let said = c.say_reply.ensures in
    answered_end a b d before state c.args.steps (Spelled c.args.tree) (does_command do_bodies c.args.steps c.args.tree (session_in before)) c.in_ok-answer.answer.reply c.requires.ready refl
    c.in_ok-answer.ensures.done said.moments c.say_reply.result c.requires.ready.is_open said.images said.printed said.failed said.cause
