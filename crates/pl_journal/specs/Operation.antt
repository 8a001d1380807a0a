-- What the operations of a commit do to the database.
use Rattle.std.specs.Prelude.{ℕ, Bool, ◌&&◌, ◌^◌, not, if◌then◌else◌, nat_le, List, [], ◌∷◌}
use Rattle.std.specs.Prelude.{Option, Some, None, is_some, option_and_then, Ok, Err}
use Rattle.pl_base.specs.declared.operation.Op.{Op}
use Rattle.pl_base.specs.declared.operation.Op.TheVariants.{Define, Put, Remove, Next}
use Rattle.pl_catalog.specs.Objects.{table_named, tables_in}
use Rattle.pl_catalog.specs.declared.object.TableDef.{TableDef}
use Rattle.pl_codec.specs.Reading.{operations_of}
use Rattle.pl_codec.specs.Spelling.{is_row_id}
use Rattle.pl_journal.specs.Definitions.{Behind, redefined}
use Rattle.pl_journal.specs.Writing.{is_taken_beside}
use Rattle.pl_define.specs.pl_reading.Computed.{definition_in}
use Rattle.pl_rules.specs.Rules.{holds}
use Rattle.pl_tables.specs.Named.{content_named, next_named, row_named}
use Rattle.pl_tables.specs.Rows.{Content, has_room, put_at, raised, removed}
use Rattle.pl_define.specs.pl_typing.Resolved.{Resolved}
use Rattle.pl_undo.specs.Database.{Database, database, on_rows}
use Rattle.pl_value.specs.Frames.{Row}

-- no object, no table
abbrev pub empty : Database
empty = database [] []

-- the database, where the definition isn't refused
abbrev pub behind_it : Resolved Behind → Option Database
behind_it (Ok b) = Some b.database
behind_it (Err state) = None

-- the rules of the table hold of the row, there is room for it, and no other row has a key of it
abbrev pub may_stand : TableDef → ℕ → Row → Content → Bool
may_stand table id row c = holds table row && has_room id c && not (is_taken_beside id row c)

abbrev pub put_in : TableDef → List ℕ → ℕ → Row → Database → Content → Option Database
put_in table name id row d c =
    if may_stand table id row c then Some (on_rows name (put_at id row) d) else None

-- the row stands under this id, in the place of the one that did or beside the others
abbrev pub put : List ℕ → ℕ → Row → Database → Option Database
put name id row d =
    option_and_then (λ table. option_and_then (put_in table name id row d)
    (content_named name d.tables)) (table_named name (tables_in d.objects))

-- the row of this id is there, and goes
abbrev pub remove : List ℕ → ℕ → Database → Option Database
remove name id d =
    if is_some (row_named name id d.tables) then Some (on_rows name (removed id) d) else None

abbrev pub raise_from : List ℕ → ℕ → Database → ℕ → Option Database
raise_from name next d present =
    if nat_le present next && nat_le next (2 ^ 63) then Some (on_rows name (raised next) d)
    else None

-- the next new row of the table gets this id, which isn't below the present one
abbrev pub raise : List ℕ → ℕ → Database → Option Database
raise name next d = option_and_then (raise_from name next d) (next_named name d.tables)

-- The database after an operation; None where it doesn't apply. A Define holds the text of a CREATE
-- or DROP, which isn't refused. Row ids are from 1 to 2^63 - 1.
abbrev pub apply : Op → Database → Option Database
apply (Define text) d =
    option_and_then (λ definition. behind_it (redefined definition text d)) (definition_in text)
apply (Put table id row) d = if is_row_id id then put table id row d else None
apply (Remove table id) d = remove table id d
apply (Next table next) d = raise table next d

-- the database after these operations, in order; None where one of them doesn't apply
abbrev pub apply_all : List Op → Database → Option Database
apply_all [] d = Some d
apply_all (op ∷ ops) d = option_and_then (apply_all ops) (apply op d)

-- the same of the operations that a payload spells; None where it spells none
abbrev pub apply_payload : List ℕ → Database → Option Database
apply_payload payload d = option_and_then (λ ops. apply_all ops d) (operations_of payload)
