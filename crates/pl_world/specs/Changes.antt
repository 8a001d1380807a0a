-- What INSERT, UPDATE and DELETE do where expressions may call routines: PostgreSQL manual, "Data
-- Manipulation", "Returning Data from Modified Rows". Row by row: the row's values, the write by
-- its rules, RETURNING, and then the next row. Queries inside see the tables as they were when the
-- command began; a routine that is called sees the rows that were written so far.
use Rattle.std.specs.Prelude.{ℕ, Bool, true, false, if◌then◌else◌, List, [], ◌∷◌, ◌++◌, map}
use Rattle.std.specs.Prelude.{Option, Some, None, option_map}
use Rattle.pl_base.specs.States.{TRIGGERED_DATA_CHANGE_VIOLATION}
use Rattle.pl_meaning.specs.Changes.{assigned}
use Rattle.pl_meaning.specs.Writing.{written}
use Rattle.pl_keys.specs.Same.{same}
use Rattle.pl_meaning.specs.pl_names.Names.{Name}
use Rattle.pl_meaning.specs.pl_product.Product.{passes}
use Rattle.pl_meaning.specs.pl_query.Rows.{in_turn}
use Rattle.pl_resolved.specs.declared.expression.RExpr.{RExpr}
use Rattle.pl_meaning.specs.pl_tables.Named.{Named, on_table, row_named, rows_named}
use Rattle.pl_meaning.specs.pl_tables.Rows.{removed}
use Rattle.pl_meaning.specs.pl_targets.declared.change.RChange.{RChange}
use Rattle.pl_meaning.specs.pl_targets.declared.change.RRow.{RRow}
use Rattle.pl_meaning.specs.pl_targets.declared.change.RRows.{RRows}
use Rattle.pl_meaning.specs.pl_targets.declared.change.RRows.TheVariants.{Values, Query}
use Rattle.pl_meaning.specs.pl_targets.declared.change.RWhat.{RWhat}
use Rattle.pl_meaning.specs.pl_targets.declared.change.RWhat.TheVariants.{Insert, Update, Delete}
use Rattle.pl_meaning.specs.pl_undo.Database.{database}
use Rattle.pl_meaning.specs.pl_value.Frames.{Row}
use Rattle.pl_meaning.specs.pl_value.Frames as stands
use Rattle.pl_meaning.specs.pl_value.Meaning.{Calls as CallsOf, Part as Meaning, Sub, value, values}
use Rattle.pl_meaning.specs.pl_value.Reading.{Reading, got, fails, settled, then_read}
use Rattle.pl_world.specs.Calls.{Within, calls}
use Rattle.pl_world.specs.Errors.{Spot}
use Rattle.pl_world.specs.Expressions.{begun, inner}
use Rattle.pl_world.specs.Running.{Runner}
use Rattle.pl_world.specs.Variables.{row_of}
use Rattle.pl_world.specs.World.{World}

-- ---- the tables of a world

abbrev pub tables_within : Within → List Named
tables_within x = x.world.database.tables

abbrev pub with_tables : List Named → Within → Within
with_tables tables x = record x {
  world = record x.world { database = database x.world.database.objects tables };
}

-- ---- row by row

-- what the rows of a command share: calls of routines, what the queries inside give, the change,
-- and the rows that stand around
pub record Setting : Type 0 where
  pub calls : CallsOf Within
  pub inner : Sub Within
  pub change : RChange
  pub around : stands.Frame

-- a row of the table as it was when the command began, with its id
abbrev pub Entry : Type 0
Entry = ℕ × Row

-- it is there and has the same values
abbrev pub is_still : Option Row → Row → Bool
is_still None row = false
is_still (Some now) row = same now row

module _ (s : Setting) where
  abbrev pub meanings : List RExpr → List (Meaning Within)
  meanings = map (value s.calls s.inner)

  abbrev pub behind_row : Row → stands.Frame
  behind_row row = s.around ++ row ∷ []

  -- RETURNING shows a row; where there is none, the empty row
  abbrev pub shown : Row → List Row → Within → Reading Within (List Row)
  shown row done x =
      then_read (values (meanings s.change.returning) [] (behind_row row) x) (λ row x.
      got (done ++ row ∷ []) x)

  -- a row is written by the rules of its table: a new one, or that of this id
  abbrev pub writes : Option ℕ → Row → List Row → Within → Reading Within (List Row)
  writes id row done x =
      then_read
      (settled (written x.world.database.objects s.change.table id row (tables_within x)) x)
      (λ tables x. shown row done (with_tables tables x))

  -- a new row of these values
  abbrev pub adds : List RExpr → stands.Frame → List Row → Within → Reading Within (List Row)
  adds list frame done x =
      then_read (values (meanings list) [] frame x) (λ row x. writes None row done x)

  -- the values over a row; none where it doesn't pass WHERE
  abbrev pub values_if : Bool → List RExpr → stands.Frame → Within → Reading Within (Option Row)
  values_if true list frame x =
      then_read (values (meanings list) [] frame x) (λ vs x. got (Some vs) x)
  values_if false list frame x = got None x

  abbrev pub read_if : Option RExpr → List RExpr → Row → Within → Reading Within (Option Row)
  read_if condition list row x =
      then_read (passes (option_map (value s.calls s.inner) condition) (behind_row row) x) (λ b x.
      values_if b list (behind_row row) x)

  -- the row is there as it was when the command began, or else 27000
  abbrev pub if_still : Entry → (Within → Reading Within (List Row)) → Within
      → Reading Within (List Row)
  if_still entry does x =
      if is_still (row_named s.change.table entry.0 (tables_within x)) entry.1 then does x
      else fails TRIGGERED_DATA_CHANGE_VIOLATION x

  abbrev pub sets : List ℕ → Entry → Option Row → List Row → Within → Reading Within (List Row)
  sets columns entry None done x = got done x
  sets columns entry (Some vs) done x =
      if_still entry (writes (Some entry.0) (assigned columns vs entry.1) done) x

  -- UPDATE of a row
  abbrev pub updates : List ℕ → List RExpr → Option RExpr → Entry → List Row → Within
      → Reading Within (List Row)
  updates columns list condition entry done x =
      then_read (read_if condition list entry.1 x) (λ vs x. sets columns entry vs done x)

  -- the row goes, and RETURNING shows it
  abbrev pub takes : Entry → List Row → Within → Reading Within (List Row)
  takes entry done x =
      shown entry.1 done
      (with_tables (on_table s.change.table (removed entry.0) (tables_within x)) x)

  -- DELETE of a row
  abbrev pub deletes : Option RExpr → Entry → List Row → Within → Reading Within (List Row)
  deletes condition entry done x =
      then_read (passes (option_map (value s.calls s.inner) condition) (behind_row entry.1) x)
      (λ b x. if b then if_still entry (takes entry done) x else got done x)

  -- a row of VALUES; a row for one that a query found
  abbrev pub adds_values : RRow → List Row → Within → Reading Within (List Row)
  adds_values row done x = adds row.values s.around done x

  abbrev pub adds_found : List RExpr → Row → List Row → Within → Reading Within (List Row)
  adds_found list row done x = adds list (behind_row row) done x

  -- the query of an INSERT is read whole
  abbrev pub inserts : stands.Frame → RRows → Within → Reading Within (List Row)
  inserts outer (Values list) x = in_turn adds_values list [] x
  inserts outer (Query query list) x =
      then_read (s.inner query outer x) (λ found x. in_turn (adds_found list) found [] x)

  -- UPDATE and DELETE go over the rows that stood when the command began
  abbrev pub does : stands.Frame → List Entry → RWhat → Within → Reading Within (List Row)
  does outer entries (Insert source) x = inserts outer source x
  does outer entries (Update columns list condition) x =
      in_turn (updates columns list condition) entries [] x
  does outer entries (Delete condition) x = in_turn (deletes condition) entries [] x

-- ---- the whole command

-- behind the row of variables stands a row for aggregates, which is empty
abbrev pub setting : Runner → Spot → RChange → World → Setting
setting r at change w = record {
  calls = calls r at;
  inner = inner r at change.queries w;
  change = change;
  around = row_of w.frame ∷ [] ∷ [];
}

abbrev pub while_changing : Name → World → World
while_changing table w = record w { changing = table ∷ w.changing }

-- a row of RETURNING for each row that was written or deleted
unfoldable pub changed : Runner → Spot → RChange → World → Reading Within (List Row)
changed r at change w =
    does (setting r at change w) (row_of w.frame ∷ [])
    (rows_named change.table w.database.tables) change.what (begun (while_changing change.table w))
