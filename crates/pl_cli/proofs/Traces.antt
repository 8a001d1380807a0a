-- Each script has a trace, and none of its commands were run at first.
use Rattle.std.proofs.Common.{ℕ, List, [], Bool, inl, refl}
use Rattle.pl_lex.specs.Characters.{Text}
use Rattle.pl_session.proofs.of_pl_world.Lent.{readings_some}
use Rattle.pl_reading.specs.Computed.{script_readings}
use Rattle.pl_session.specs.pl_world.Trace.{Event}
use Rattle.pl_session.specs.Traces.{AreFront, IsTrace, told_next, trace}
use Rattle.pl_session.specs.pl_world.Scripts.{script as script_events}
use Rattle.pl_session.specs.pl_world.Sessions.{Session}

pub some_trace : (script : Text) (steps : ℕ) (stops : Bool) (s : Session) → (events : List Event) × IsTrace script steps stops s events
some_trace script steps stops s = (trace steps stops (script_readings script) s, (script_readings script, readings_some script, refl))

pub none_yet : (script : Text) (steps : ℕ) (stops : Bool) (s : Session) → AreFront script steps stops s []
unfolding script_events
none_yet script steps stops s = record {
  first = [];
  others = script_readings script;
  read = readings_some script;
  part = [];
  left = told_next steps (script_readings script) s;
  before = refl;
  are = refl;
  goes_on = inl refl;
}
