use Rattle.pl_port.specs.PortLaws.{nothing_along}
use Rattle.pl_session.proofs.Ends.{nothing_left}
use Rattle.pl_session.specs.State.{database_in, session_in}
use Rattle.pl_session.specs.Traces.{events_in}
use Rattle.pl_session.proofs.state.SessionState.run_reading.Goals as goal

pub returns-in-Nothing-clause-moments : goal.returns-in-Nothing-clause-moments
returns-in-Nothing-clause-moments g c =
    nothing_along (g.H.Disk.view c.args.host.now) (events_in c.args.steps c.args.reading (session_in c.args.self.now)) (database_in c.args.self.now)

pub returns-in-Nothing-clause-ended : goal.returns-in-Nothing-clause-ended
returns-in-Nothing-clause-ended g c = nothing_left (g.H.Disk.view c.args.host.now) c.args.self.now c.args.steps c.args.reading c.in-Nothing.is c.requires.ready
