-- How a command goes.
use Rattle.std.specs.Prelude.{◌≡◌, List, Result, Ok, Err}
use Rattle.pl_command.specs.Ends.{as_ran}
use Rattle.pl_command.specs.Lines.{lines_of}
use Rattle.pl_command.specs.declared.answers.Answer.{Answer}
use Rattle.pl_command.specs.pl_engine.Answers.{Stopped}
use Rattle.pl_command.specs.pl_engine.Engines.{Quiet, world}
use Rattle.pl_command.specs.pl_engine.declared.engine.Engine.{Engine}
use Rattle.pl_command.specs.pl_engine.declared.port.Port.{Ghosts}
use Rattle.pl_command.specs.pl_engine.declared.stop.Stop.{Stop}
use Rattle.pl_command.specs.pl_engine.declared.stop.Stop.TheVariants.{Memory}
use Rattle.pl_transactions.specs.State.{Stands, session_at}
use Rattle.pl_transactions.specs.declared.transaction.Transaction.{Transaction}
use Rattle.pl_command.specs.pl_world.Scripts.{outward, session_of}
use Rattle.pl_command.specs.pl_world.Sessions.{Went, went}
use Rattle.pl_command.specs.pl_world.Trace.{last_commit}
use Rattle.pl_command.specs.pl_world.World.{Event, Ran, World, made}

-- ---- nothing is printed or committed

-- it went so, and its answer is ready
pub record Quietly (w : Went) (answer : Answer) (after : Transaction) (old new : Engine)
    : Type 0 where
  pub quiet : Quiet (as_ran w) answer.reply old new
  pub session : session_of w ≡ session_at after new
  pub stands : Stands after new
  pub lines : answer.lines ≡ lines_of answer.reply

-- it went so; or there was no memory
abbrev pub GoesQuietly : Went → Result Answer Stop → Transaction → Engine → Engine → Type 0
GoesQuietly w (Ok answer) after old new = Quietly w answer after old new
GoesQuietly w (Err stop) after old new = stop ≡ Memory

-- ---- over a port

-- these events happen
abbrev pub telling : List Event → World → Ran (Unit {0})
telling es w = made w tt es

module _ {P : Type 0} (port : Ghosts P) where
  -- It went so: the port has taken all that is printed and committed but the reply, whose lines are
  -- ready. It may be used again, and stores the database of the last commit.
  pub record Answered (w : Went) (answer : Answer) (after : Transaction) (old new : Engine)
      (p q : P) : Type 0 where
    pub events : List Event
    pub gives : w ≡ went (session_at after new) answer.reply events
    pub took : port.took (world old).last (outward events) p q
    pub last : (world new).last ≡ last_commit (outward events) (world old).last
    pub fits : port.fits (world new).last q
    pub stands : Stands after new
    pub lines : answer.lines ≡ lines_of answer.reply

  -- It stopped within that; for want of memory within what it tells before its end.
  pub record Halted (w : Went) (told : List Event) (stop : Stop) (old : Engine) (p q : P)
      : Type 0 where
    pub stopped : Stopped port (as_ran w) stop old p q
    pub early : stop ≡ Memory → Stopped port (telling told (world old)) Memory old p q

  abbrev pub Goes : Went → List Event → Result Answer Stop → Transaction → Engine → Engine → P
      → P → Type 0
  Goes w told (Ok answer) after old new p q = Answered w answer after old new p q
  Goes w told (Err stop) after old new p q = Halted w told stop old p q
