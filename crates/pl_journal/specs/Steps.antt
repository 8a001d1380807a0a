-- How the functions behind a journal stand to the definitions. Nothing here needs belief.
use Rattle.std.specs.Prelude.{◌≡◌, ◌^◌, ◌++◌, ℕ, Bool, false, ◌&&◌, if◌then◌else◌, nat_le}
use Rattle.std.specs.Prelude.{List, []}
use Rattle.std.specs.Prelude.{Option, Some, None, option_map, Result, Ok, Err}
use Rattle.pl_base.specs.States.{PROGRAM_LIMIT_EXCEEDED, UNDEFINED_TABLE, UNIQUE_VIOLATION}
use Rattle.pl_base.specs.declared.state.State.{State}
use Rattle.pl_catalog.specs.declared.object.TableDef.{TableDef}
use Rattle.pl_journal.specs.Journal.{IsKept}
use Rattle.pl_journal.specs.Sound.{IsSound}
use Rattle.pl_journal.specs.Writing.{state_of}
use Rattle.pl_rules.specs.Rules.{first_failure}
use Rattle.pl_tables.specs.Rows.{Content, is_full}
use Rattle.pl_tables.specs.declared.table.TableFail.{TableFail}
use Rattle.pl_tables.specs.declared.table.TableFail.TheVariants.{Full, Taken}
use Rattle.pl_tables.specs.declared.table.TableFail.TheVariants as fail
use Rattle.pl_undo.specs.Store.{Stored}
use Rattle.pl_value.specs.Frames.{Row}
use Rattle.pl_value.specs.declared.operand.Unsettled.{Unsettled}
use Rattle.pl_value.specs.declared.operand.Unsettled.TheVariants.{Fails, Memory}

-- why the table refuses the row by itself
abbrev pub refusal_by : Option TableDef → Row → Option State
refusal_by None row = Some UNDEFINED_TABLE
refusal_by (Some table) row = option_map state_of (first_failure table row)

-- the call refuses just so, or memory is wanting
abbrev pub Refuses : {A : Type 0} → Option State → Result A Unsettled → Type 0
Refuses refusal (Ok x) = refusal ≡ None
Refuses refusal (Err (Fails state)) = refusal ≡ Some state
Refuses refusal (Err Memory) = Unit {0}

-- why a table isn't changed
abbrev pub refusal_of : TableFail → Unsettled
refusal_of Full = Fails PROGRAM_LIMIT_EXCEEDED
refusal_of (Taken id) = Fails UNIQUE_VIOLATION
refusal_of fail.Memory = Memory

-- the id that a new row gets; None where the table is full
abbrev pub id_if : Bool → ℕ → Option ℕ
id_if full id = if full then None else Some id

abbrev pub free_id : Option Content → Option ℕ
free_id None = None
free_id (Some c) = id_if (is_full c) c.next

-- whether the next new row may get this id, where it would get the present one
abbrev pub may_raise : Option ℕ → ℕ → Bool
may_raise None next = false
may_raise (Some present) next = nat_le present next && nat_le next (2 ^ 63)

-- sound, and nothing was changed since the last commit
pub record IsAtRest (s : Stored) : Type 0 where
  pub sound : IsSound s.now
  pub last : s.last ≡ s.now
  pub marks : s.marks ≡ []

-- what was done stands in the payload, behind what stood there, and the marks are as they were
pub record Continues (payload longer : List ℕ) (old new : Stored) : Type 0 where
  pub kept : IsKept longer new
  pub more : List ℕ
  pub grows : longer ≡ payload ++ more
  pub last : new.last ≡ old.last
  pub marks : new.marks ≡ old.marks
