-- What writes of rows and definitions do to the world: PostgreSQL manual, "Data Manipulation", "Data
-- Definition".
use Rattle.std.specs.Prelude.{◌≡◌, ℕ, List, Option, Result, Ok, Err, drop}
use Rattle.pl_base.specs.declared.state.State.{State}
use Rattle.pl_world.specs.pl_journal.Definitions.{Behind, behind}
use Rattle.pl_world.specs.pl_names.Names.{Name}
use Rattle.pl_tables.specs.Named.{Named, on_table}
use Rattle.pl_tables.specs.Rows.{removed}
use Rattle.pl_typing.specs.Resolved.{Resolved}
use Rattle.pl_typing.specs.declared.fail.ScopeFail.{ScopeFail}
use Rattle.pl_typing.specs.declared.fail.ScopeFail.TheVariants as scope
use Rattle.pl_undo.specs.Database.{Database, database}
use Rattle.pl_value.specs.declared.operand.Unsettled.{Unsettled}
use Rattle.pl_value.specs.declared.operand.Unsettled.TheVariants.{Fails, Memory}
use Rattle.pl_world.specs.Commands.{with_database}
use Rattle.pl_world.specs.World.{World}

-- ---- changes

-- the newest change runs no longer
abbrev pub without_change : World → World
without_change w = record w { changing = drop 1 w.changing }

abbrev pub with_tables : List Named → World → World
with_tables tables w = with_database (database w.database.objects tables) w

-- the row of this id is gone
abbrev pub without_row : Name → ℕ → World → World
without_row table id w = with_tables (on_table table (removed id) w.database.tables) w

-- a write led to these tables; or it is refused, or memory was wanting, and all stays as it was
abbrev pub Wrote : Result (List Named) State → Result (Unit {0}) Unsettled → (old new : World)
    → Type 0
Wrote wanted (Ok u) old new =
    (tables : List Named) × (wanted ≡ Ok tables) × (new ≡ with_tables tables old)
Wrote wanted (Err (Fails state)) old new = (wanted ≡ Err state) × (new ≡ old)
Wrote wanted (Err Memory) old new = new ≡ old

-- ---- definitions

-- a definition led to this database and this notice; or it is refused, or memory was wanting, and all
-- stays as it was
abbrev pub Defined : Resolved Behind → Result (Option State) ScopeFail → (old new : World)
    → Type 0
Defined wanted (Ok notice) old new =
    (db : Database) × (wanted ≡ Ok (behind db notice)) × (new ≡ with_database db old)
Defined wanted (Err (scope.State state)) old new = (wanted ≡ Err state) × (new ≡ old)
Defined wanted (Err scope.Memory) old new = new ≡ old
