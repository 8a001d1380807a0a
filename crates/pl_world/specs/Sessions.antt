-- What a session does with commands: PostgreSQL manual, "Transactions", "BEGIN", "COMMIT",
-- "ROLLBACK", "SAVEPOINT", "RELEASE SAVEPOINT", "ROLLBACK TO SAVEPOINT". A savepoint keeps a copy
-- of the whole database.
use Rattle.std.specs.Prelude.{ℕ, suc, Bool, true, false, if◌then◌else◌, List, [], ◌∷◌, ◌++◌}
use Rattle.std.specs.Prelude.{Option, Some, None, bytes_eq, length, slice_get, take}
use Rattle.pl_base.specs.States.{ACTIVE_SQL_TRANSACTION, IN_FAILED_SQL_TRANSACTION}
use Rattle.pl_base.specs.States.{INVALID_SAVEPOINT_SPECIFICATION, NO_ACTIVE_SQL_TRANSACTION}
use Rattle.pl_base.specs.States.{PROGRAM_LIMIT_EXCEEDED}
use Rattle.pl_base.specs.declared.fail.Fail.{Fail}
use Rattle.pl_base.specs.declared.state.State.{State}
use Rattle.pl_bodies.specs.declared.simple.Change.{Change}
use Rattle.pl_bodies.specs.declared.simple.Change.TheVariants as change
use Rattle.pl_meaning.specs.Changing as changing
use Rattle.pl_meaning.specs.Meaning as meaning
use Rattle.pl_meaning.specs.Selection.{grid_of, has_long, heads_of}
use Rattle.pl_meaning.specs.pl_names.Names.{Name}
use Rattle.pl_print.specs.Messages.{condition_name, notice_bytes}
use Rattle.pl_print.specs.declared.reply.Grid.{Grid}
use Rattle.pl_print.specs.declared.reply.Level.TheVariants.{Warning}
use Rattle.pl_print.specs.declared.reply.Tag.{Tag}
use Rattle.pl_print.specs.declared.reply.Tag.TheVariants as tag
use Rattle.pl_meaning.specs.pl_reading.Defining.{stored_by}
use Rattle.pl_resolved.specs.declared.query.Head.{Head}
use Rattle.pl_meaning.specs.pl_targets.declared.change.RChange.{RChange}
use Rattle.pl_tree.specs.declared.command.Command.{Command}
use Rattle.pl_tree.specs.declared.command.Command.TheVariants as command
use Rattle.pl_tree.specs.declared.tree.Argument.{Argument}
use Rattle.pl_tree.specs.declared.tree.Query.{Query}
use Rattle.pl_meaning.specs.pl_undo.Database.{Database}
use Rattle.pl_meaning.specs.pl_value.Frames.{Row}
use Rattle.pl_world.specs.Changes.{changed}
use Rattle.pl_world.specs.Commands.{defines, finished}
use Rattle.pl_world.specs.Errors.{Spot, failure, raises, resolves}
use Rattle.pl_world.specs.Expressions.{reads, rows_over}
use Rattle.pl_world.specs.Resolving as words
use Rattle.pl_world.specs.Running.{Bodies, Runner}
use Rattle.pl_world.specs.Statements.{runner_for}
use Rattle.pl_world.specs.Transactions.{does, procedure_called}
use Rattle.pl_world.specs.World.{Began, Committed, Event, Frame, Raised, Ran, Said, World}
use Rattle.pl_world.specs.World.{a_rollback, made, and_then, ends}
use Rattle.pl_world.specs.declared.outcome.Outcome.{Outcome}
use Rattle.pl_world.specs.declared.outcome.Outcome.TheVariants as outcome
use Rattle.pl_world.specs.declared.session.Mode.{Mode}
use Rattle.pl_world.specs.declared.session.Mode.TheVariants as mode
use Rattle.pl_world.specs.declared.session.Reply.{Reply}

-- ---- replies

abbrev pub reply : Option Tag → Option Grid → Option Fail → Reply
reply tag grid fail = record { tag = tag; grid = grid; fail = fail }

abbrev pub tagged : Tag → Reply
tagged tag = reply (Some tag) None None

abbrev pub failed : Fail → Reply
failed f = reply None None (Some f)

-- ---- commands that are no transaction control

-- an error that arises in no routine
abbrev pub top : Spot
top = record { line = 1; ordinal = 0 }

-- what is printed has to fit
abbrev pub shown : List Row → Reply → World → Ran Reply
shown rows answer w =
    if has_long rows then raises failed (failure PROGRAM_LIMIT_EXCEEDED top w) w else ends answer w

abbrev pub selects : Runner → Query → World → Ran Reply
selects r q w =
    resolves failed (words.querying q w.database.objects w.frame.static) top w (λ queries.
    reads failed (rows_over r top queries w) top (λ rows w.
    shown rows (reply None (Some (grid_of (heads_of queries) rows)) None) w))

-- the rows of RETURNING, where there is one
abbrev pub returning_grid : List Head → List Row → Option Grid
returning_grid [] rows = None
returning_grid (head ∷ heads) rows = Some (grid_of (head ∷ heads) rows)

abbrev pub change_reply : RChange → List Row → Reply
change_reply c rows =
    reply (Some (changing.tag_of c.what (length rows))) (returning_grid c.heads rows) None

abbrev pub changes : Runner → Change → World → Ran Reply
changes r c w =
    resolves failed (words.changing c w.database.objects w.frame.static) top w (λ a.
    reads failed (finished (changed r top a w)) top (λ rows w.
    shown rows (change_reply a rows) w))

-- a command that runs a body
abbrev pub ran_body : Tag → Outcome → World → Ran Reply
ran_body tag (outcome.Fail f) w = ends (failed f) w
ran_body tag o w = ends (tagged tag) w

abbrev pub calls : Runner → Name → List Argument → World → Ran Reply
calls r name arguments w =
    resolves failed (words.calling name arguments w.database.objects w.frame.static) top w (λ c.
    and_then (procedure_called r top c w) (ran_body tag.Call))

abbrev pub command_done : Runner → Command → World → Ran Reply
command_done r (command.Query q) w = selects r q w
command_done r (command.Insert i) w = changes r (change.Insert i) w
command_done r (command.Update u) w = changes r (change.Update u) w
command_done r (command.Delete d) w = changes r (change.Delete d) w
command_done r (command.Define d source) w =
    defines failed (tagged (meaning.tag_of d)) top (stored_by d source) source w
command_done r (command.Do language text) w =
    and_then (does r top language text w) (ran_body tag.Do)
command_done r (command.Call name arguments) w = calls r name arguments w
command_done r other w = ends (reply None None None) w

-- ---- the session

pub record Save : Type 0 where
  pub name : Name
  pub database : Database

-- the savepoints, the oldest first
pub record Session : Type 0 where
  pub world : World
  pub mode : Mode
  pub saves : List Save

-- the session behind a command, what the command answers, and what happened
pub data Went : Type 0 where
  went : Session → Reply → List Event → Went

abbrev pub session : World → Mode → List Save → Session
session w m saves = record { world = w; mode = m; saves = saves }

-- an error makes a block void
abbrev pub after_error : Mode → Mode
after_error mode.Idle = mode.Idle
after_error mode.Block = mode.Failed
after_error mode.Failed = mode.Failed

-- an error, and nothing is done
abbrev pub refuses : Fail → Session → Went
refuses f s = went (session s.world (after_error s.mode) s.saves) (failed f) (Raised f ∷ [])

abbrev pub refused : State → Session → Went
refused state s = refuses (failure state top s.world) s

-- the line of a warning
abbrev pub warning : State → List Event
warning state = Said (notice_bytes Warning (condition_name state.code) None None) ∷ []

-- ---- ends of transactions

-- in no block, with this database and that of the last commit
abbrev pub over : Database → Database → World → Session
over db last w =
    session (record w { database = db; last = last; depth = 0; in_block = false }) mode.Idle []

-- all since the last commit is undone
abbrev pub undone : Reply → List Event → World → Went
undone answer es w = went (over w.last w.last w) answer es

-- the database now is committed
abbrev pub committed : Reply → List Event → World → Went
committed answer es w =
    went (over w.database w.database w) answer (es ++ Committed w.database ∷ [])

-- ---- a command in each mode

-- alone it is a transaction
abbrev pub ended_alone : Option Fail → Reply → List Event → World → Went
ended_alone (Some f) answer es w = undone answer es w
ended_alone None answer es w = committed answer es w

-- in a block an error makes the block void
abbrev pub ended_inside : Option Fail → List Save → Reply → List Event → World → Went
ended_inside (Some f) saves answer es w = went (session w mode.Failed saves) answer es
ended_inside None saves answer es w = went (session w mode.Block saves) answer es

abbrev pub alone : Ran Reply → Went
alone (made w answer es) = ended_alone answer.fail answer es w

abbrev pub inside : List Save → Ran Reply → Went
inside saves (made w answer es) = ended_inside answer.fail saves answer es w

-- with the steps of a new command
abbrev pub with_steps : ℕ → World → World
with_steps budget w = record w { steps = budget }

abbrev pub plain : Bodies → ℕ → Command → Session → Ran Reply
plain bodies budget c s = command_done (runner_for bodies budget) c (with_steps budget s.world)

abbrev pub does_plain : Bodies → ℕ → Command → Mode → Session → Went
does_plain bodies budget c mode.Idle s = alone (plain bodies budget c s)
does_plain bodies budget c mode.Block s = inside s.saves (plain bodies budget c s)
does_plain bodies budget c mode.Failed s = refused IN_FAILED_SQL_TRANSACTION s

-- ---- transaction control

abbrev pub begins : Tag → Mode → Session → Went
begins t mode.Idle s =
    went (session (record s.world { in_block = true }) mode.Block []) (tagged t) []
begins t mode.Block s = went s (tagged t) (warning ACTIVE_SQL_TRANSACTION)
begins t mode.Failed s = refused IN_FAILED_SQL_TRANSACTION s

-- COMMIT of a void block is a ROLLBACK
abbrev pub commits : Mode → Session → Went
commits mode.Idle s =
    committed (tagged tag.Commit) (warning NO_ACTIVE_SQL_TRANSACTION) s.world
commits mode.Block s = committed (tagged tag.Commit) [] s.world
commits mode.Failed s = undone (tagged tag.Rollback) (Began a_rollback ∷ []) s.world

abbrev pub rolls_back : Mode → Session → Went
rolls_back mode.Idle s =
    committed (tagged tag.Rollback) (warning NO_ACTIVE_SQL_TRANSACTION) s.world
rolls_back m s = undone (tagged tag.Rollback) (Began a_rollback ∷ []) s.world

-- ---- savepoints

-- with the first so many savepoints
abbrev pub with_saves : List Save → World → Mode → Session
with_saves saves w m = session (record w { depth = length saves }) m saves

-- the place of the newest one of this name
abbrev pub later : Option ℕ → Bool → Option ℕ
later (Some i) is = Some (suc i)
later None true = Some 0
later None false = None

abbrev pub place_of : Name → List Save → Option ℕ
place_of name [] = None
place_of name (s ∷ ss) = later (place_of name ss) (bytes_eq s.name name)

abbrev pub saved : Name → World → Save
saved name w = record { name = name; database = w.database }

abbrev pub saves : Name → Mode → Session → Went
saves name mode.Idle s = refused NO_ACTIVE_SQL_TRANSACTION s
saves name mode.Block s =
    went (with_saves (s.saves ++ saved name s.world ∷ []) s.world mode.Block)
    (tagged tag.Savepoint) []
saves name mode.Failed s = refused IN_FAILED_SQL_TRANSACTION s

-- the savepoint goes with those behind it, and all else stays
abbrev pub released_at : Option ℕ → Session → Went
released_at None s = refused INVALID_SAVEPOINT_SPECIFICATION s
released_at (Some i) s =
    went (with_saves (take i s.saves) s.world mode.Block) (tagged tag.Release) []

abbrev pub releases : Name → Mode → Session → Went
releases name mode.Idle s = refused NO_ACTIVE_SQL_TRANSACTION s
releases name mode.Block s = released_at (place_of name s.saves) s
releases name mode.Failed s = refused IN_FAILED_SQL_TRANSACTION s

abbrev pub put_back : Option Save → World → World
put_back None w = w
put_back (Some save) w = record w { database = save.database }

-- those behind the savepoint go, it stays, and the database is what it was there
abbrev pub back_at : Option ℕ → Session → Went
back_at None s = refused INVALID_SAVEPOINT_SPECIFICATION s
back_at (Some i) s =
    went (with_saves (take (suc i) s.saves) (put_back (slice_get s.saves i) s.world) mode.Block)
    (tagged tag.Rollback) (Began a_rollback ∷ [])

abbrev pub goes_back : Name → Mode → Session → Went
goes_back name mode.Idle s = refused NO_ACTIVE_SQL_TRANSACTION s
goes_back name m s = back_at (place_of name s.saves) s

-- ---- every command

unfoldable pub does_command : Bodies → ℕ → Command → Session → Went
does_command bodies budget command.Begin s = begins tag.Begin s.mode s
does_command bodies budget command.StartTransaction s = begins tag.StartTransaction s.mode s
does_command bodies budget command.Commit s = commits s.mode s
does_command bodies budget command.Rollback s = rolls_back s.mode s
does_command bodies budget (command.Savepoint name) s = saves name s.mode s
does_command bodies budget (command.Release name) s = releases name s.mode s
does_command bodies budget (command.RollbackTo name) s = goes_back name s.mode s
does_command bodies budget c s = does_plain bodies budget c s.mode s

-- ---- a new session

-- no call runs
abbrev pub no_call : Frame
no_call = record {
  routine = [];
  is_command = true;
  static = record {
    scope = record { frames = []; params = [] };
    required = [];
    result = None;
  };
  values = [];
  row_count = 0;
  handled = [];
}

abbrev pub new_world : Database → World
new_world db = record {
  database = db;
  last = db;
  frame = no_call;
  below = [];
  steps = 0;
  depth = 0;
  in_block = false;
  changing = [];
}

abbrev pub new_session : Database → Session
new_session db = session (new_world db) mode.Idle []
