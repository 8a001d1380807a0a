use Rattle.pl_session.proofs.Kept.{kept_done, kept_moments, kept_stop, step_stop}
use Rattle.pl_session.proofs.state.SessionState.run_piece.Goals as goal

pub returns-in_err-failed-clause-ended : goal.returns-in_err-failed-clause-ended
returns-in_err-failed-clause-ended g c =
    step_stop (g.H.Disk.view c.args.host.now) (g.H.Disk.view c.run_reading.new.host) c.args.self.now c.run_reading.new.self c.args.steps c.args.reading c.in_err-failed.field-0.0 c.from_residual.result c.from_residual.ensures.1 c.in_err-failed.ensures.ended

pub shorten-requires : goal.shorten-requires
shorten-requires g c = record { ready = c.in_ok-failed.ensures.ended.0.ready }

pub returns-in_err-shorten-clause-moments : goal.returns-in_err-shorten-clause-moments
returns-in_err-shorten-clause-moments g c =
    kept_moments _ (g.H.Disk.view c.run_reading.new.host) (g.H.Disk.view c.shorten.new.host) c.args.self.now c.run_reading.new.self c.args.steps c.args.reading c.run_reading.ensures.moments c.in_ok-failed.ensures.ended.0 c.shorten.ensures.writes

pub returns-in_err-shorten-clause-ended : goal.returns-in_err-shorten-clause-ended
returns-in_err-shorten-clause-ended g c =
    kept_stop _ (g.H.Disk.view c.run_reading.new.host) (g.H.Disk.view c.shorten.new.host) c.args.self.now c.run_reading.new.self c.args.steps c.args.reading c.run_reading.ensures.moments c.in_ok-failed.ensures.ended.0 c.shorten.ensures.writes
    (g.met.H.Disk.lawful c.run_reading.new.host) (g.met.H.Disk.lawful c.shorten.new.host) _ c.in_err-shorten.field-0.0 c.from_residual-in_err-shorten.result c.from_residual-in_err-shorten.ensures.1 c.in_err-shorten.ensures.cause

pub returns-clause-moments : goal.returns-clause-moments
returns-clause-moments g c =
    kept_moments _ (g.H.Disk.view c.run_reading.new.host) (g.H.Disk.view c.shorten.new.host) c.args.self.now c.run_reading.new.self c.args.steps c.args.reading c.run_reading.ensures.moments c.in_ok-failed.ensures.ended.0 c.shorten.ensures.writes

pub returns-clause-ended : goal.returns-clause-ended
returns-clause-ended g c =
    let done = c.in_ok-failed.ensures.ended in
    kept_done _ (g.H.Disk.view c.run_reading.new.host) (g.H.Disk.view c.shorten.new.host) c.args.self.now c.run_reading.new.self c.args.steps c.args.reading c.run_reading.ensures.moments done.0 c.shorten.ensures.writes
    c.shorten.new.self _ c.in_ok-shorten.ensures.ready c.in_ok-shorten.ensures.session done.1 done.2
