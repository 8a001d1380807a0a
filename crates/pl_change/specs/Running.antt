-- How the code stands to changes of tables.
use Rattle.std.specs.Prelude.{◌≡◌, ◌⊎◌, ℕ, if◌then◌else◌, nat_eq, List, [], ◌∷◌, map, Option, Some, None}
use Rattle.std.specs.Prelude.{option_map, IsSome, Result, Ok, Err}
use Rattle.std.specs.Cmp.Lexicographic.{pointwise}
use Rattle.pl_journal.specs.pl_catalog.declared.object.Object.{Object}
use Rattle.pl_change.specs.Changes.{Progress, Setting, adds_found, adds_values, deletes_all, ids}
use Rattle.pl_change.specs.Changes.{progress, updates_all}
use Rattle.pl_change.specs.declared.at_start.Copied.{Copied}
use Rattle.pl_change.specs.declared.command.Command.{Command}
use Rattle.pl_journal.specs.ByKey.{IsFoundFor}
use Rattle.pl_journal.specs.Rows.{tables_of}
use Rattle.pl_inside.specs.pl_query.Query.{rows}
use Rattle.pl_inside.specs.pl_query.Rows.{in_turn}
use Rattle.pl_inside.specs.pl_query.Sources.{Tables}
use Rattle.pl_resolved.specs.declared.expression.RExpr.{RExpr}
use Rattle.pl_tables.specs.Named.{Named, row_named}
use Rattle.pl_targets.specs.declared.change.RChange.{RChange}
use Rattle.pl_targets.specs.declared.change.RRow.{RRow}
use Rattle.pl_targets.specs.declared.change.RRows.{RRows}
use Rattle.pl_targets.specs.declared.change.RRows.TheVariants.{Values, Query}
use Rattle.pl_targets.specs.declared.change.RWhat.{RWhat}
use Rattle.pl_targets.specs.declared.change.RWhat.TheVariants.{Insert, Update, Delete}
use Rattle.pl_journal.specs.pl_undo.Database.{Database}
use Rattle.pl_value.specs.Frames.{Frame, Row, rows_of}
use Rattle.pl_value.specs.Meaning.{Calls, Sub, value}
use Rattle.pl_value.specs.Reading.{Reading, then_read}
use Rattle.pl_value.specs.declared.operand.Unsettled.{Unsettled}

-- ---- copies of tables

-- the rows of the first copy of a name; none where there is none
abbrev pub copied : List Copied → Tables
copied [] name = []
copied (t ∷ more) name = if pointwise nat_eq t.name name then t.rows else copied more name

-- a copy of the table of a name
abbrev pub copy_of : List Named → List ℕ → Copied
copy_of ts name = record { name = name; rows = tables_of ts name }

-- ---- a command while it runs

-- what the rows of a command share, where this is what the queries inside give, and these are the
-- objects
abbrev pub setting_of : {W : Type 0} → Calls W → Sub W → List Object → Command → Setting W
setting_of calls inner objects c = record {
  calls = calls;
  inner = inner;
  change = c.change.now;
  objects = objects;
  around = rows_of c.around.now;
}

-- what the queries of a command give over a database
abbrev pub rows_over : {W : Type 0} → Calls W → Command → Database → Sub W
rows_over calls c d = rows calls c.change.now.queries (tables_of d.tables)

module _ {W : Type 0} (source : Sub W) (s : Setting W) (outer : Frame) where
  -- INSERT of the rows that a query gives, which this runs
  abbrev pub adds_from : ℕ → List RExpr → Progress → W → Reading W Progress
  adds_from query list p w =
      then_read (source query outer w) (λ found w. in_turn (adds_found s list) found p w)

  abbrev pub inserts_from : RRows → Progress → W → Reading W Progress
  inserts_from (Values list) p w = in_turn (adds_values s) list p w
  inserts_from (Query query list) p w = adds_from query list p w

  -- a command, where this runs the query whose rows an INSERT adds
  abbrev pub does_from : RWhat → Progress → W → Reading W Progress
  does_from (Insert rows) p w = inserts_from rows p w
  does_from (Update columns list condition) p w = updates_all s columns list condition p w
  does_from (Delete condition) p w = deletes_all s condition p w

-- the row of this id is there, if one is given
abbrev pub HasRow : List ℕ → Option ℕ → List Named → Type 0
HasRow name None ts = Unit {0}
HasRow name (Some id) ts = IsSome (row_named name id ts)

-- what was returned, with the tables now
abbrev pub reached : Result (List Row) Unsettled → List Named → Result Progress Unsettled
reached (Ok returned) now = Ok (progress now returned)
reached (Err why) now = Err why

-- ---- expressions whose values are the same, whichever of two runs the queries inside

module _ {W : Type 0} (calls : Calls W) (these those : Sub W) where
  abbrev pub AreSame : List RExpr → Type 0
  AreSame list = map (value calls these) list ≡ map (value calls those) list

  abbrev pub IsSame : Option RExpr → Type 0
  IsSame e = option_map (value calls these) e ≡ option_map (value calls those) e

  abbrev pub AreSameRows : List RRow → Type 0
  AreSameRows [] = Unit {0}
  AreSameRows (row ∷ rows) = AreSame row.values × AreSameRows rows

  abbrev pub SourceIsSame : RRows → Type 0
  SourceIsSame (Values list) = AreSameRows list
  SourceIsSame (Query query list) = AreSame list

  abbrev pub WhatIsSame : RWhat → Type 0
  WhatIsSame (Insert source) = SourceIsSame source
  WhatIsSame (Update columns list condition) = AreSame list × IsSame condition
  WhatIsSame (Delete condition) = IsSame condition

  abbrev pub ChangeIsSame : RChange → Type 0
  ChangeIsSame change = AreSame change.returning × WhatIsSame change.what

-- ---- rows that a command has to visit

abbrev pub listed : Option ℕ → List ℕ
listed None = []
listed (Some id) = id ∷ []

-- WHERE turns down all rows but those of these ids
pub record IsFew (name : List ℕ) (condition : Option RExpr) (around : Frame) (ts : List Named)
    (made : List ℕ) : Type 0 where
  pub found : Option ℕ
  pub by : IsFoundFor name condition around ts found
  pub few : made ≡ listed found

-- these are the ids of all rows, or of those that a command has to visit
abbrev pub AreEnough : List ℕ → Option RExpr → Frame → List Named → List ℕ → Type 0
AreEnough name condition around ts made =
    (made ≡ ids name ts) ⊎ IsFew name condition around ts made
