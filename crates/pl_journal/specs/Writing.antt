-- How a row is written, or why it isn't: the rules that it keeps by itself, and then room and its
-- keys. PostgreSQL manual, "Constraints".
use Rattle.std.specs.Prelude.{ℕ, Bool, true, not, if◌then◌else◌, nat_eq, List, Option, Some, None}
use Rattle.std.specs.Prelude.{false, ◌&&◌, option_and_then, Result, Ok, Err}
use Rattle.std.specs.List.{list_any}
use Rattle.pl_base.specs.States.{PROGRAM_LIMIT_EXCEEDED, UNDEFINED_TABLE}
use Rattle.pl_base.specs.States.{UNIQUE_VIOLATION}
use Rattle.pl_base.specs.declared.state.State.{State}
use Rattle.pl_catalog.specs.Objects.{table_named, tables_in}
use Rattle.pl_catalog.specs.declared.object.Object.{Object}
use Rattle.pl_catalog.specs.declared.object.TableDef.{TableDef}
use Rattle.pl_rules.specs.Rules.{first_failure}
use Rattle.pl_rules.specs.declared.rules.RuleFail.{RuleFail}
use Rattle.pl_rules.specs.declared.rules.RuleFail.TheVariants.{Broken, Evaluating, Memory, Unfit}
use Rattle.pl_tables.specs.Named.{Named, content_named, on_table}
use Rattle.pl_tables.specs.Rows.{Content, inserted, is_full, key_at, replaced}
use Rattle.pl_unique.specs.Key.{key_of}
use Rattle.pl_unique.specs.Numbered.{same_key}
use Rattle.pl_unique.specs.declared.key.Part.{Part}
use Rattle.pl_value.specs.Frames.{Row}

-- both have a key, and it is the same
abbrev pub is_same_key : Option (List Part) → Option (List Part) → Bool
is_same_key (Some parts) (Some others) = same_key parts others
is_same_key parts others = false

-- the row of this id has one of the keys of this row
abbrev pub has_key_of : Row → Content → ℕ → Bool
has_key_of row c id =
    list_any (λ columns. is_same_key (key_of columns row) (key_at columns id c.rows)) c.keys

-- so has a row whose id passes the test
abbrev pub is_taken : (ℕ → Bool) → Row → Content → Bool
is_taken test row c =
    list_any (λ (other : ℕ × Row). test other.0 && has_key_of row c other.0) c.rows

-- so has another row than that of this id
abbrev pub is_taken_beside : ℕ → Row → Content → Bool
is_taken_beside id row c = is_taken (λ other. not (nat_eq other id)) row c

-- why the row isn't added; why it isn't put in the place of the row of this id
abbrev pub new_refused : Row → Content → Option State
new_refused row c =
    if is_full c then Some PROGRAM_LIMIT_EXCEEDED
    else (if is_taken (λ other. true) row c then Some UNIQUE_VIOLATION else None)

abbrev pub other_refused : ℕ → Row → Content → Option State
other_refused id row c = if is_taken_beside id row c then Some UNIQUE_VIOLATION else None

-- this, if nothing is refused
abbrev pub unless : {A : Type 0} → Option State → A → Result A State
unless (Some state) x = Err state
unless None x = Ok x

-- the tables with the row in the one of this name: under a new id, or in the place of the row of
-- this id
abbrev pub with_row : List ℕ → Option ℕ → Row → List Named → Result (List Named) State
with_row name None row ts =
    unless (option_and_then (new_refused row) (content_named name ts))
    (on_table name (inserted row) ts)
with_row name (Some id) row ts =
    unless (option_and_then (other_refused id row) (content_named name ts))
    (on_table name (replaced id row) ts)

-- the SQLSTATE of a broken rule; none is broken by Memory. A row doesn't fit where a text is too long
abbrev pub state_of : RuleFail → State
state_of (Broken state rule) = state
state_of (Evaluating state) = state
state_of Unfit = PROGRAM_LIMIT_EXCEEDED
state_of Memory = PROGRAM_LIMIT_EXCEEDED

-- the failure of a rule, or else this
abbrev pub unless_broken : {A : Type 0} → Option RuleFail → Result A State → Result A State
unless_broken (Some fail) next = Err (state_of fail)
unless_broken None next = next

-- the rules of the row by itself come first, and then its keys
abbrev pub written_by : Option TableDef → List ℕ → Option ℕ → Row → List Named
    → Result (List Named) State
written_by None name id row ts = Err UNDEFINED_TABLE
written_by (Some table) name id row ts =
    unless_broken (first_failure table row) (with_row name id row ts)

-- by the rules of the table of this name
abbrev pub written : List Object → List ℕ → Option ℕ → Row → List Named
    → Result (List Named) State
written objects name id row ts = written_by (table_named name (tables_in objects)) name id row ts
