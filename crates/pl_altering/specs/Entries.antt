-- Rows of a table that are kept while it is changed.
use Rattle.std.specs.Prelude.{◌≡◌, ◌⊎◌, ℕ, List, [], map, Option, Some, None}
use Rattle.pl_altering.specs.declared.keeping.Entry.{Entry}
use Rattle.pl_world.specs.pl_change.ByKey.{IsFoundFor}
use Rattle.pl_names.specs.Names.{Name}
use Rattle.pl_resolved.specs.declared.expression.RExpr.{RExpr}
use Rattle.pl_tables.specs.Named.{Named, row_named, rows_named}
use Rattle.pl_tables.specs.Slots.{before}
use Rattle.pl_targets.specs.declared.change.RChange.{RChange}
use Rattle.pl_targets.specs.declared.change.RWhat.{RWhat}
use Rattle.pl_targets.specs.declared.change.RWhat.TheVariants.{Insert, Update, Delete}
use Rattle.pl_value.specs.Frames as stands
use Rattle.pl_world.specs.Changes as spec

abbrev pub entry_of : Entry → spec.Entry
entry_of e = (e.id, e.row)

abbrev pub entries : List Entry → List spec.Entry
entries kept = map entry_of kept

-- the row of this id, if one is given and it is there
abbrev pub entry_found : Name → Option ℕ → List Named → List spec.Entry
entry_found name None ts = []
entry_found name (Some id) ts = before id (row_named name id ts) []

-- all rows are kept, or the one that WHERE doesn't turn down since it has the key that is asked for
abbrev pub AreVisited : Name → Option RExpr → stands.Frame → List Named → List spec.Entry → Type 0
AreVisited name condition around ts kept =
    (kept ≡ rows_named name ts)
    ⊎ ((found : Option ℕ) × IsFoundFor name condition around ts found
    × (kept ≡ entry_found name found ts))

abbrev pub AreEnoughFor : RWhat → Name → stands.Frame → List Named → List spec.Entry → Type 0
AreEnoughFor (Insert source) name around ts kept = Unit {0}
AreEnoughFor (Update columns list condition) name around ts kept =
    AreVisited name condition around ts kept
AreEnoughFor (Delete condition) name around ts kept = AreVisited name condition around ts kept

-- those that are kept serve as all do, where these rows stand around; an INSERT goes over none
abbrev pub AreEnough : RChange → stands.Frame → List Named → List spec.Entry → Type 0
AreEnough change around ts kept = AreEnoughFor change.what change.table around ts kept
