-- What statements work on, and what a run of them gives. A world has whole databases, lists and
-- names: no undo record, no index, no count of what can be undone.
use Rattle.std.specs.Prelude.{ℕ, Bool, List, [], ◌++◌, Option}
use Rattle.pl_base.specs.declared.fail.Fail.{Fail}
use Rattle.pl_base.specs.declared.fail.Place.{Place}
use Rattle.pl_base.specs.declared.types.Ty.{Ty}
use Rattle.pl_base.specs.declared.value.Value.{Value}
use Rattle.pl_meaning.specs.pl_names.Names.{Name}
use Rattle.pl_meaning.specs.pl_names.declared.scope.Scope.{Scope}
use Rattle.pl_meaning.specs.pl_undo.Database.{Database}

-- ---- a call that runs

-- What names are resolved against, beside the objects: the variables in reach, the outermost block
-- first, with the types of `$1` and so on; which variables take no null; and the type of the
-- result, where RETURN gives a value. A variable's place counts from 0 over all blocks.
pub record Static : Type 0 where
  pub scope : Scope
  pub required : List Bool
  pub result : Option Ty

-- The routine has no name in a DO, and outside of all calls. A command is a CALL or a DO. The
-- values are those of the variables, by their places. The handled errors are this call's, the
-- newest first.
pub record Frame : Type 0 where
  pub routine : Name
  pub is_command : Bool
  pub static : Static
  pub values : List Value
  pub row_count : ℕ
  pub handled : List Fail

-- ---- the world

-- The newest call and those below it, the newest first; what stands for no call comes last. Depth
-- is how many blocks with handlers run their statements, and how many savepoints stand. The tables
-- are those that running changes write. Cursors, and counts of running loops over changes and of
-- running EXECUTEs, will be parts of it too.
pub record World : Type 0 where
  pub database : Database
  -- the database of the last commit
  pub last : Database
  pub frame : Frame
  pub below : List Frame
  -- the steps that are left
  pub steps : ℕ
  pub depth : ℕ
  -- the session is in a transaction block
  pub in_block : Bool
  pub changing : List Name

-- ---- what happens

-- what may change the catalogue or put back a whole database
pub data Beginning : Type 0 where
  a_definition : Beginning
  a_rollback : Beginning

pub data Event : Type 0 where
  -- a step is taken: a routine, a statement or the turn of a loop begins
  Stepped : Place → Event
  -- an error arises
  Raised : Fail → Event
  -- such a statement begins
  Began : Beginning → Event
  -- these lines are printed
  Said : List ℕ → Event
  -- this database is committed
  Committed : Database → Event

-- the world behind a run, how the run ended, and what happened
pub data Ran (O : Type 0) : Type 0 where
  made : World → O → List Event → Ran O

-- these events came before
abbrev pub behind : {O : Type 0} → List Event → Ran O → Ran O
behind es (made w o fs) = made w o (es ++ fs)

-- what goes on, whatever the end was
abbrev pub and_then : {A B : Type 0} → Ran A → (A → World → Ran B) → Ran B
and_then (made w x es) k = behind es (k x w)

-- an end without an event
abbrev pub ends : {O : Type 0} → O → World → Ran O
ends o w = made w o []
