-- What INSERT, UPDATE and DELETE mean: PostgreSQL manual, "INSERT", "UPDATE", "DELETE". The table
-- is read first, then the columns of an INSERT and its values, or what SET says from left to right,
-- WHERE, RETURNING.
use Rattle.std.specs.Option.{option_map}
use Rattle.std.specs.Prelude.{map, List, [], Option, Ok, Err}
use Rattle.pl_base.specs.States.{DUPLICATE_COLUMN}
use Rattle.pl_catalog.specs.declared.object.Column.{Column}
use Rattle.pl_catalog.specs.declared.object.Object.{Object}
use Rattle.pl_names.specs.Names.{Name, Around}
use Rattle.pl_names.specs.Sources.{no_items, table_of}
use Rattle.pl_names.specs.declared.scope.Scope.{Scope}
use Rattle.pl_names.specs.declared.scope.Source.{Source}
use Rattle.pl_names.specs.declared.sources.Items.{Items}
use Rattle.pl_names.specs.declared.sources.Sourced.{Sourced}
use Rattle.pl_scope.specs.Answers.{Answer, got, fails, Means, ◌>>=◌, gives, step, asks, within}
use Rattle.pl_scope.specs.Expressions.{maybe_condition}
use Rattle.pl_scope.specs.Queries.{items_on}
use Rattle.pl_scope.specs.Resolution.{part, item_part, standing, nothing_made}
use Rattle.pl_scope.specs.Steps.{first_row, plain_in}
use Rattle.pl_targets.specs.Columns.{columns_of, places_on}
use Rattle.pl_targets.specs.Values.{nothing_set, rows_of, settings_on}
use Rattle.pl_targets.specs.declared.change.RChange.{RChange}
use Rattle.pl_targets.specs.declared.change.RWhat.{RWhat}
use Rattle.pl_targets.specs.declared.change.RWhat.TheVariants as what
use Rattle.pl_targets.specs.declared.resolve.Changed.{Changed}
use Rattle.pl_tree.specs.declared.command.Delete.{Delete}
use Rattle.pl_tree.specs.declared.command.Insert.{Insert}
use Rattle.pl_tree.specs.declared.command.Update.{Update}
use Rattle.pl_tree.specs.declared.tree.Item.{Item}
use Rattle.pl_assigning.specs.pl_typing.Resolved.{Resolved}

-- ---- the table

abbrev pub sources_of : Resolved Sourced → Resolved (List Source)
sources_of (Ok target) = Ok target.sources
sources_of (Err state) = Err state

-- as the one item of a FROM; its row stands behind the row of the aggregates
abbrev pub target_of : Name → Option Name → Around → Resolved (List Source)
target_of x alias a = sources_of (table_of x alias (first_row a) a)

abbrev pub with_target : Name → Option Name → (List Column → List Source → Means Changed)
    → Means Changed
with_target x alias f =
    asks (columns_of x) >>= (λ columns. asks (target_of x alias) >>= (λ sources. f columns sources))

-- ---- RETURNING

abbrev pub returning : List Item → List Source → Means Items
returning list sources = items_on (map item_part list) sources no_items

abbrev pub changed : RWhat → Items → Changed
changed what items = record { what = what; items = items }

-- ---- DELETE

abbrev pub delete_in : Delete → List Source → Means Changed
delete_in d sources =
    maybe_condition (option_map part d.condition) >>= (λ condition.
    returning d.returning sources >>= (λ items. gives (changed (what.Delete condition) items)))

abbrev pub delete_means : Delete → Means Changed
delete_means d = with_target d.table d.alias (λ columns sources.
    within (plain_in sources) (delete_in d sources))

-- ---- UPDATE

abbrev pub update_in : Update → List Column → List Source → Means Changed
update_in u columns sources =
    settings_on u.assignments columns nothing_set >>= (λ set.
    maybe_condition (option_map part u.condition) >>= (λ condition.
    returning u.returning sources >>= (λ items.
    gives (changed (what.Update set.columns set.values condition) items))))

abbrev pub update_on : Update → List Column → List Source → Means Changed
update_on u columns sources = within (plain_in sources) (update_in u columns sources)

abbrev pub update_means : Update → Means Changed
update_means u = with_target u.table u.alias (update_on u)

-- ---- INSERT

-- a column is named once
abbrev pub insert_on : Insert → List Column → List Source → Means Changed
insert_on i columns sources =
    step (places_on DUPLICATE_COLUMN i.columns columns []) >>= (λ listed.
    rows_of i.rows i.columns listed columns >>= (λ rows.
    within (plain_in sources) (returning i.returning sources) >>= (λ items.
    gives (changed (what.Insert rows) items))))

abbrev pub insert_means : Insert → Means Changed
insert_means i = with_target i.table i.alias (insert_on i)

-- ---- the theorem's words

abbrev pub as_change : Name → Answer Changed → Resolved RChange
as_change table (got x made) = Ok (record {
  table = table;
  queries = made.queries;
  what = x.what;
  returning = x.items.values;
  heads = x.items.heads;
})
as_change table (fails state) = Err state

-- the change, by the objects of the catalogue
abbrev pub resolved_insert : List Object → Scope → Insert → Resolved RChange
resolved_insert catalogue scope i =
    as_change i.table (insert_means i (standing catalogue scope) nothing_made)

abbrev pub resolved_update : List Object → Scope → Update → Resolved RChange
resolved_update catalogue scope u =
    as_change u.table (update_means u (standing catalogue scope) nothing_made)

abbrev pub resolved_delete : List Object → Scope → Delete → Resolved RChange
resolved_delete catalogue scope d =
    as_change d.table (delete_means d (standing catalogue scope) nothing_made)
