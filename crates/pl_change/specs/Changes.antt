-- What INSERT, UPDATE and DELETE do: PostgreSQL manual, "Data Manipulation", "Returning Data from
-- Modified Rows". Row by row: the row's values, the write by its rules, RETURNING, and then the next
-- row. Queries inside see the tables as they were when the command began.
use Rattle.std.specs.Prelude.{ℕ, Bool, true, false, List, [], ◌∷◌, ◌++◌, map, slice_set}
use Rattle.std.specs.Prelude.{Option, Some, None, option_map}
use Rattle.pl_base.specs.States.{TRIGGERED_DATA_CHANGE_VIOLATION}
use Rattle.pl_base.specs.declared.value.Value.{Value}
use Rattle.pl_journal.specs.pl_catalog.declared.object.Object.{Object}
use Rattle.pl_journal.specs.Rows.{tables_of}
use Rattle.pl_journal.specs.Writing.{written}
use Rattle.pl_product.specs.Product.{passes}
use Rattle.pl_inside.specs.pl_query.Query.{rows}
use Rattle.pl_inside.specs.pl_query.Rows.{in_turn}
use Rattle.pl_resolved.specs.declared.expression.RExpr.{RExpr}
use Rattle.pl_tables.specs.Named.{Named, on_table, row_named, rows_named}
use Rattle.pl_tables.specs.Rows.{removed}
use Rattle.pl_targets.specs.declared.change.RChange.{RChange}
use Rattle.pl_targets.specs.declared.change.RRow.{RRow}
use Rattle.pl_targets.specs.declared.change.RRows.{RRows}
use Rattle.pl_targets.specs.declared.change.RRows.TheVariants.{Values, Query}
use Rattle.pl_targets.specs.declared.change.RWhat.{RWhat}
use Rattle.pl_targets.specs.declared.change.RWhat.TheVariants.{Insert, Update, Delete}
use Rattle.pl_journal.specs.pl_undo.Database.{Database}
use Rattle.pl_value.specs.Frames.{Frame, Row}
use Rattle.pl_value.specs.Meaning.{Calls, Part as Meaning, Sub, value, values}
use Rattle.pl_value.specs.Reading.{Reading, got, fails, settled, then_read}

-- the row with these values in these columns
abbrev pub assigned : List ℕ → List Value → Row → Row
assigned (c ∷ columns) (v ∷ vs) row = assigned columns vs (slice_set row c v)
assigned columns vs row = row

-- ---- row by row

-- the tables so far, and a row of RETURNING for each row that was written; it is empty where there
-- is no RETURNING
pub record Progress : Type 0 where
  pub tables : List Named
  pub returned : List Row

abbrev pub progress : List Named → List Row → Progress
progress tables returned = record { tables = tables; returned = returned }

-- the ids of the rows of the table of this name
abbrev pub ids : List ℕ → List Named → List ℕ
ids name ts = map (λ (entry : ℕ × Row). entry.0) (rows_named name ts)

-- what the rows of a command share: calls of routines, what the queries inside give, the change,
-- the objects, whose rules the rows keep, and the rows that stand around
pub record Setting (W : Type 0) : Type 0 where
  pub calls : Calls W
  pub inner : Sub W
  pub change : RChange
  pub objects : List Object
  pub around : Frame

module _ {W : Type 0} (s : Setting W) where
  abbrev pub meanings : List RExpr → List (Meaning W)
  meanings = map (value s.calls s.inner)

  abbrev pub behind : Row → Frame
  behind row = s.around ++ row ∷ []

  -- RETURNING, over a row
  abbrev pub returning : Row → W → Reading W Row
  returning row w = values (meanings s.change.returning) [] (behind row) w

  -- RETURNING of a row that was written
  abbrev pub told : Row → Progress → W → Reading W Progress
  told row p w =
      then_read (returning row w) (λ shown w. got (progress p.tables (p.returned ++ shown ∷ [])) w)

  -- a row is written by the rules of its table, and RETURNING shows it
  abbrev pub writes : Option ℕ → Row → Progress → W → Reading W Progress
  writes id row p w =
      then_read (settled (written s.objects s.change.table id row p.tables) w) (λ tables w.
      told row (progress tables p.returned) w)

  -- a new row of these values
  abbrev pub adds : List RExpr → Frame → Progress → W → Reading W Progress
  adds list frame p w =
      then_read (values (meanings list) [] frame w) (λ row w. writes None row p w)

  -- the values where these rows stand; none where they don't pass WHERE
  abbrev pub values_if : Bool → List RExpr → Frame → W → Reading W (Option Row)
  values_if true list frame w =
      then_read (values (meanings list) [] frame w) (λ vs w. got (Some vs) w)
  values_if false list frame w = got None w

  abbrev pub read_if : Option RExpr → List RExpr → Frame → W → Reading W (Option Row)
  read_if condition list frame w =
      then_read (passes (option_map (value s.calls s.inner) condition) frame w) (λ b w.
      values_if b list frame w)

  -- what SET makes of a row
  abbrev pub set_if : List ℕ → List RExpr → Option RExpr → Row → W → Reading W (Option Row)
  set_if columns list condition row w =
      then_read (read_if condition list (behind row) w) (λ vs w.
      got (option_map (λ vs. assigned columns vs row) vs) w)

  -- over the row of this id; 27000 where it is gone
  abbrev pub if_there : (Row → W → Reading W (Option Row)) → Option Row → W
      → Reading W (Option Row)
  if_there reads None w = fails TRIGGERED_DATA_CHANGE_VIOLATION w
  if_there reads (Some row) w = reads row w

  abbrev pub at_row : (Row → W → Reading W (Option Row)) → ℕ → List Named → W
      → Reading W (Option Row)
  at_row reads id ts w = if_there reads (row_named s.change.table id ts) w

  -- what was read is done, if the row passed
  abbrev pub if_some : (Row → Progress → W → Reading W Progress) → Option Row → Progress → W
      → Reading W Progress
  if_some does None p w = got p w
  if_some does (Some row) p w = does row p w

  -- UPDATE of the row of this id
  abbrev pub updates : List ℕ → List RExpr → Option RExpr → ℕ → Progress → W → Reading W Progress
  updates columns list condition id p w =
      then_read (at_row (set_if columns list condition) id p.tables w) (λ row w.
      if_some (writes (Some id)) row p w)

  -- the row of this id goes, and this is shown of it
  abbrev pub takes : ℕ → Row → Progress → W → Reading W Progress
  takes id shown p w =
      got (progress (on_table s.change.table (removed id) p.tables) (p.returned ++ shown ∷ [])) w

  -- what RETURNING shows of a row that goes
  abbrev pub shown_if : Option RExpr → Row → W → Reading W (Option Row)
  shown_if condition row w = read_if condition s.change.returning (behind row) w

  -- DELETE of the row of this id
  abbrev pub deletes : Option RExpr → ℕ → Progress → W → Reading W Progress
  deletes condition id p w =
      then_read (at_row (shown_if condition) id p.tables w) (λ shown w.
      if_some (takes id) shown p w)

  -- a row of VALUES
  abbrev pub adds_values : RRow → Progress → W → Reading W Progress
  adds_values row p w = adds row.values s.around p w

  -- a new row for a row that was found
  abbrev pub adds_found : List RExpr → Row → Progress → W → Reading W Progress
  adds_found list row p w = adds list (behind row) p w

  -- the query of an INSERT is read whole, over the rows around the command
  abbrev pub inserts_found : Frame → ℕ → List RExpr → Progress → W → Reading W Progress
  inserts_found outer query list p w =
      then_read (s.inner query outer w) (λ found w. in_turn (adds_found list) found p w)

  abbrev pub inserts : Frame → RRows → Progress → W → Reading W Progress
  inserts outer (Values list) p w = in_turn adds_values list p w
  inserts outer (Query query list) p w = inserts_found outer query list p w

  -- UPDATE and DELETE go over the rows that stood when the command began
  abbrev pub updates_all : List ℕ → List RExpr → Option RExpr → Progress → W → Reading W Progress
  updates_all columns list condition p w =
      in_turn (updates columns list condition) (ids s.change.table p.tables) p w

  abbrev pub deletes_all : Option RExpr → Progress → W → Reading W Progress
  deletes_all condition p w = in_turn (deletes condition) (ids s.change.table p.tables) p w

  abbrev pub does : Frame → RWhat → Progress → W → Reading W Progress
  does outer (Insert source) p w = inserts outer source p w
  does outer (Update columns list condition) p w = updates_all columns list condition p w
  does outer (Delete condition) p w = deletes_all condition p w

-- behind the rows around a command stands a row for aggregates, which is empty
abbrev pub setting : {W : Type 0} → Calls W → RChange → Frame → Database → Setting W
setting calls change outer d = record {
  calls = calls;
  inner = rows calls change.queries (tables_of d.tables);
  change = change;
  objects = d.objects;
  around = outer ++ [] ∷ [];
}

-- the tables after the command, and a row of RETURNING for each row that was written; or a
-- SQLSTATE
abbrev pub changed : {W : Type 0} → Calls W → RChange → Frame → Database → W → Reading W Progress
changed calls change outer d w =
    does (setting calls change outer d) outer change.what (progress d.tables []) w
