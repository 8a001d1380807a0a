-- The database that the two files of a store stand for.
use Rattle.std.specs.Prelude.{List, [], ◌∷◌, ℕ, Result, Ok, Err, None, Some}
use Rattle.pl_base.specs.Image.{Image}
use Rattle.pl_base.specs.declared.area.Area.{Area}
use Rattle.pl_keeper.specs.Batches.{Damage, Log, Stored, batches}
use Rattle.pl_change.specs.Operation.{apply_all, empty}
use Rattle.pl_change.specs.pl_undo.Database.{Database}

-- the database after the operations of these batches; or the place of the first of which one doesn't apply
abbrev pub apply_batches : List Stored → Database → Result Database ℕ
apply_batches [] db = Ok db
apply_batches (stored ∷ list) db = elim (apply_all stored.1 db) [ None ↦ Err stored.0 | Some next ↦ apply_batches list next ]

abbrev pub in_area : Area → Result Database ℕ → Result Database Damage
in_area area (Ok db) = Ok db
in_area area (Err at) = Err (record { area = area; at = at })

-- what these batches lead to, from the empty database on; or the form of the files is damaged already
abbrev pub opened_by : Result Log Damage → Result Database Damage
opened_by (Ok log) = in_area log.area (apply_batches log.list empty)
opened_by (Err damage) = Err damage

-- What the two files stand for: the database after the operations of their batches, in order. The form is judged before any
-- operation is applied.
unfoldable pub opens : Image → Result Database Damage
opens image = opened_by (batches image)
