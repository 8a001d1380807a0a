use Rattle.std.proofs.Common.{refl}
use Rattle.pl_port.specs.PortLaws.{nothing_along}
use Rattle.pl_reading.specs.declared.reading.Reading.TheVariants.{Refused}
use Rattle.pl_session.proofs.Ends.{answered_end, answered_moments, refusal, unrefused}
use Rattle.pl_session.specs.State.{database_in, session_in}
use Rattle.pl_session.specs.Traces.{events_in}
use Rattle.pl_session.specs.declared.state.SessionState.{SessionState}
use Rattle.pl_session.proofs.state.SessionState.refuse_piece.Goals as goal
use Rattle.pl_exec.specs.pl_world.Sessions.{refused}

pub refuse-requires : goal.refuse-requires
refuse-requires g c = record { stands = c.requires.ready.stands }

pub returns-in_err-answer-clause-moments : goal.returns-in_err-answer-clause-moments
returns-in_err-answer-clause-moments g c =
    nothing_along (g.H.Disk.view c.args.host.now) (events_in c.args.steps (Refused c.args.state) (session_in c.args.self.now)) (database_in c.args.self.now)

pub returns-in_err-answer-clause-ended : goal.returns-in_err-answer-clause-ended
returns-in_err-answer-clause-ended g c =
    let before = c.args.self.now in
    let state : SessionState = record before { transaction = c.refuse.new.transaction } in
    unrefused (g.H.Disk.view c.args.host.now) before state c.args.state c.args.steps c.in_err-answer.field-0.0 c.from_residual.result c.from_residual.ensures.1 c.in_err-answer.ensures c.requires.ready

pub returns-clause-moments : goal.returns-clause-moments
returns-clause-moments g c =
    let a = g.H.Disk.view c.args.host.now in
    let d = g.H.Disk.view c.say_reply.new.host in
    let before = c.args.self.now in
    let state : SessionState = record before { transaction = c.refuse.new.transaction } in
    answered_moments a a d before state c.args.steps (Refused c.args.state) (refused c.args.state (session_in before)) c.in_ok-answer.answer.reply c.requires.ready refl
    (refusal a before c.refuse.new.transaction c.args.state c.in_ok-answer.answer c.in_ok-answer.ensures) c.say_reply.ensures.moments

pub returns-clause-ended : goal.returns-clause-ended
returns-clause-ended g c =
    let a = g.H.Disk.view c.args.host.now in
    let d = g.H.Disk.view c.say_reply.new.host in
    let before = c.args.self.now in
    let state : SessionState = record before { transaction = c.refuse.new.transaction } in
    let said = c.say_reply.ensures in
    answered_end a a d before state c.args.steps (Refused c.args.state) (refused c.args.state (session_in before)) c.in_ok-answer.answer.reply c.requires.ready refl
    (refusal a before c.refuse.new.transaction c.args.state c.in_ok-answer.answer c.in_ok-answer.ensures) said.moments c.say_reply.result c.requires.ready.is_open said.images said.printed said.failed said.cause

pub say_reply-requires : goal.say_reply-requires
say_reply-requires g c = record { lines = c.in_ok-answer.ensures.lines }
