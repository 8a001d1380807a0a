-- What a command prints and commits before its end, where its own commit and its reply come.
use Rattle.std.specs.Prelude.{ℕ, List, []}
use Rattle.pl_base.specs.States.{ACTIVE_SQL_TRANSACTION, NO_ACTIVE_SQL_TRANSACTION}
use Rattle.pl_tree.specs.declared.command.Command.{Command}
use Rattle.pl_tree.specs.declared.command.Command.TheVariants as command
use Rattle.pl_command.specs.pl_world.Laws.{events}
use Rattle.pl_command.specs.pl_world.Running.{Bodies}
use Rattle.pl_command.specs.pl_world.Sessions.{Session, plain, warning}
use Rattle.pl_command.specs.pl_world.World.{Event}
use Rattle.pl_command.specs.pl_world.declared.session.Mode.{Mode}
use Rattle.pl_command.specs.pl_world.declared.session.Mode.TheVariants as mode

-- in a block BEGIN warns
abbrev pub told_of_begin : Mode → List Event
told_of_begin mode.Idle = []
told_of_begin mode.Block = warning ACTIVE_SQL_TRANSACTION
told_of_begin mode.Failed = []

-- outside of one COMMIT and ROLLBACK do
abbrev pub told_of_end : Mode → List Event
told_of_end mode.Idle = warning NO_ACTIVE_SQL_TRANSACTION
told_of_end mode.Block = []
told_of_end mode.Failed = []

-- in a void block nothing else is done
abbrev pub told_of_plain : Bodies → (steps : ℕ) → Command → Mode → Session → List Event
told_of_plain bodies steps c mode.Idle s = events (plain bodies steps c s)
told_of_plain bodies steps c mode.Block s = events (plain bodies steps c s)
told_of_plain bodies steps c mode.Failed s = []

unfoldable pub told : Bodies → (steps : ℕ) → Command → Session → List Event
told bodies steps command.Begin s = told_of_begin s.mode
told bodies steps command.StartTransaction s = told_of_begin s.mode
told bodies steps command.Commit s = told_of_end s.mode
told bodies steps command.Rollback s = told_of_end s.mode
told bodies steps (command.Savepoint name) s = []
told bodies steps (command.Release name) s = []
told bodies steps (command.RollbackTo name) s = []
told bodies steps c s = told_of_plain bodies steps c s.mode s
