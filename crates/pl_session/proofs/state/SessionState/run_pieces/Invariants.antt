use Rattle.std.proofs.Common.{◌≤◌, ◌-◌, length}
use Rattle.pl_session.specs.Short.{StaysShort}
use Rattle.pl_session.specs.State.{session_in, IsReady}
use Rattle.pl_session.proofs.Progress.{Progress}
use Rattle.pl_session.proofs.state.SessionState.run_pieces.Given as goal

abbrev pub invariant-pieces : goal.invariant-pieces
invariant-pieces g l = record {
  within : l.at ≤ length l.fn.script;
  ready : IsReady (g.H.Disk.view l.host) l.self;
  short : StaysShort (session_in l.self).mode l.self.keeper l.fn.host l.host;
  progress : Progress (g.H.Disk.view l.fn.host) (g.H.Disk.view l.host) l.fn.steps l.fn.stops l.fn.script l.at (session_in l.fn.self) (session_in l.self);
}

abbrev pub decreases-pieces : goal.decreases-pieces
decreases-pieces g l = length l.fn.script - l.at
