-- The steps of queries that read no part: PostgreSQL manual, "SELECT".
use Rattle.std.specs.Prelude.{bytes_eq, slice_get}
use Rattle.std.specs.List.{list_all}
use Rattle.std.specs.Prelude.{length, Option, Some, None, Ok, Err, Bool, true, false, if◌then◌else◌}
use Rattle.std.specs.Prelude.{ℕ, zero, suc, ◌+◌, ◌&&◌, ◌||◌, not, nat_lt, is_some, List, [], ◌∷◌, ◌++◌}
use Rattle.pl_base.specs.States.{INVALID_COLUMN_REFERENCE, AMBIGUOUS_COLUMN, GROUPING_ERROR}
use Rattle.pl_base.specs.States.{UNDEFINED_OBJECT, SYNTAX_ERROR}
use Rattle.pl_base.specs.declared.types.Ty.{Ty}
use Rattle.pl_catalog.specs.declared.object.Routine.{Routine}
use Rattle.pl_catalog.specs.declared.object.TableDef.{TableDef}
use Rattle.pl_grouping.specs.Equality.{same}
use Rattle.pl_grouping.specs.Reading.{reads, reads_any}
use Rattle.pl_grouping.specs.Search.{place_of}
use Rattle.pl_names.specs.Names.{Name, Around, Reach, is_column}
use Rattle.pl_names.specs.Sources.{join_of, together}
use Rattle.pl_names.specs.declared.scope.Source.{Source}
use Rattle.pl_names.specs.declared.scope.Visible.{Visible}
use Rattle.pl_names.specs.declared.sources.Sourced.{Sourced}
use Rattle.pl_resolved.specs.declared.expression.RExpr.{RExpr}
use Rattle.pl_resolved.specs.declared.query.Head.{Head}
use Rattle.pl_resolved.specs.declared.query.RAggregate.{RAggregate}
use Rattle.pl_resolved.specs.declared.query.RGroups.{RGroups}
use Rattle.pl_resolved.specs.declared.query.RJoin.{RJoin, out-RJoin}
use Rattle.pl_resolved.specs.declared.query.RKey.{RKey}
use Rattle.pl_resolved.specs.declared.query.RQuery.{RQuery}
use Rattle.pl_resolved.specs.declared.query.RSource.TheVariants.{Joined}
use Rattle.pl_resolved.specs.declared.query.RSource.{RSource}
use Rattle.pl_scope.specs.Answers.{Answer, got, fails}
use Rattle.pl_scope.specs.declared.closing.Arranged.{Arranged}
use Rattle.pl_scope.specs.declared.closing.Clauses.{Clauses}
use Rattle.pl_scope.specs.declared.closing.Selected.{Selected}
use Rattle.pl_scope.specs.declared.made.Current.{Current}
use Rattle.pl_scope.specs.declared.made.Inner.{Inner}
use Rattle.pl_scope.specs.declared.made.Made.{Made}
use Rattle.pl_scope.specs.declared.ordering.Ordered.{Ordered}
use Rattle.pl_scope.specs.declared.written.Written.TheVariants.{Number, Called, Constant, Other}
use Rattle.pl_scope.specs.declared.written.Written.{Written}
use Rattle.pl_tree.specs.declared.tree.JoinKind.TheVariants as way
use Rattle.pl_tree.specs.declared.tree.JoinKind.{JoinKind}
use Rattle.pl_tree.specs.declared.tree.Nulls.TheVariants.{First, Last}
use Rattle.pl_tree.specs.declared.tree.Nulls.{Nulls}
use Rattle.pl_typing.specs.Casts.{cast}
use Rattle.pl_typing.specs.Resolved.{Resolved, ◌>>=◌}
use Rattle.pl_typing.specs.declared.typed.Typed.{Typed}

-- ---- casts

-- a cast to each type in turn, of which the first that there isn't fails
abbrev pub cast_by : List Ty → List Ty → Typed → Resolved Typed
cast_by known types x =
    if nat_lt (length known) (length types)
    then cast x known >>= (λ _. Err UNDEFINED_OBJECT) else cast x types

-- ---- inside of a query

-- where the items of FROM have their rows from this number on: behind the row of the aggregates
abbrev pub first_row : Around → ℕ
first_row a = a.next_row + 1

abbrev pub level : List Source → Bool → Reach
level sources is_barred = record { sources = sources; is_barred = is_barred }

abbrev pub around_of : List TableDef → List Routine → List Visible → List Ty → List Reach → ℕ → ℕ
    → Bool → Around
around_of tables routines frames params levels next_row aggregates_row may_aggregate = record {
  tables = tables;
  routines = routines;
  frames = frames;
  params = params;
  levels = levels;
  next_row = next_row;
  aggregates_row = aggregates_row;
  may_aggregate = may_aggregate;
}

abbrev pub inside_of : Around → List Source → Bool → ℕ → Bool → Around
inside_of a sources is_barred next_row may_aggregate =
    around_of a.tables a.routines a.frames a.params (a.levels ++ level sources is_barred ∷ [])
    next_row a.next_row may_aggregate

-- in the select list, HAVING and ORDER BY
abbrev pub grouped_in : List Source → Around → Around
grouped_in sources a = inside_of a sources false (first_row a + length sources) true

-- in WHERE and GROUP BY
abbrev pub plain_in : List Source → Around → Around
plain_in sources a = inside_of a sources false (first_row a + length sources) false

-- in ON, whose items end before this row
abbrev pub joined_in : List Source → ℕ → Around → Around
joined_in sources next_row a = inside_of a sources false next_row false

-- in LIMIT and OFFSET, which stand outside of the query's rows
abbrev pub outside_of : List Source → Around → Around
outside_of sources a = inside_of a sources true a.next_row false

-- ---- FROM

-- joined items as one
abbrev pub source_of : List RJoin → RSource
source_of (j ∷ []) = (out-RJoin j).source
source_of joins = Joined joins

abbrev pub is_left : JoinKind → Bool
is_left way.Left = true
is_left way.Inner = false
is_left way.Cross = false

abbrev pub joined : List RJoin → JoinKind → List RJoin → List Source → Option RExpr → Sourced
joined done kind with sources on = record {
  joins = done ++ join_of (source_of with) (is_left kind) on ∷ [];
  sources = sources;
}

abbrev pub beside : List RJoin → List RJoin → List Source → Sourced
beside done more sources = record { joins = done ++ more; sources = sources }

-- an item behind a comma
abbrev pub put_beside : Sourced → Sourced → Resolved Sourced
put_beside done more = together done.sources more.sources >>= (λ sources.
    Ok (beside done.joins more.joins sources))

abbrev pub no_froms : Sourced
no_froms = record { joins = []; sources = [] }

-- ---- output columns

-- the place that a number means, counted from 1
abbrev pub place_at : Bool → ℕ → ℕ → Resolved ℕ
place_at true n count = Err INVALID_COLUMN_REFERENCE
place_at false zero count = Err INVALID_COLUMN_REFERENCE
place_at false (suc n) count = if nat_lt n count then Ok n else Err INVALID_COLUMN_REFERENCE

abbrev pub alike : Option RExpr → Option RExpr → Bool
alike (Some x) (Some y) = same x y
alike (Some x) None = false
alike None other = false

-- the places of the columns of this name, where the first column stands at this place
abbrev pub places_named : Name → ℕ → List Head → List ℕ
places_named x at [] = []
places_named x at (h ∷ hs) =
    if bytes_eq h.name x then at ∷ places_named x (at + 1) hs else places_named x (at + 1) hs

-- the first place, if the same expression stands at all of them
abbrev pub one_of : List RExpr → List ℕ → Resolved (Option ℕ)
one_of values [] = Ok None
one_of values (at ∷ more) =
    if list_all (λ place. alike (slice_get values at) (slice_get values place)) more
    then Ok (Some at) else Err AMBIGUOUS_COLUMN

-- the output column that a key means as it is written, if it means one
unfoldable pub output_of : Written → List Head → List RExpr → Resolved (Option ℕ)
output_of (Number is_negative n) heads values =
    place_at is_negative n (length heads) >>= (λ at. Ok (Some at))
output_of (Called x) heads values = one_of values (places_named x 0 heads)
output_of Constant heads values = Err SYNTAX_ERROR
output_of Other heads values = Ok None

-- ---- GROUP BY

-- a column of an item of FROM goes before an output column
abbrev pub called_in : Name → List Source → Written
called_in x sources = if is_column x sources then Other else Called x

abbrev pub group_written : Written → List Source → Written
group_written (Called x) sources = called_in x sources
group_written written sources = written

-- an item that has no aggregate of this query
abbrev pub item_key : Option RExpr → List RQuery → ℕ → ℕ → Resolved RExpr
item_key None queries since row = Err INVALID_COLUMN_REFERENCE
item_key (Some tree) queries since row =
    if reads [] queries since row (row + 1) tree then Err GROUPING_ERROR else Ok tree

-- ---- ORDER BY

-- nulls are last, and first where the order descends
abbrev pub nulls_first : Bool → Option Nulls → Bool
nulls_first is_descending None = is_descending
nulls_first is_descending (Some First) = true
nulls_first is_descending (Some Last) = false

abbrev pub key_of : ℕ → Bool → Option Nulls → RKey
key_of at is_descending nulls = record {
  item = at;
  is_descending = is_descending;
  nulls_first = nulls_first is_descending nulls;
}

abbrev pub with_key : RKey → Ordered → Ordered
with_key key done = record { values = done.values; keys = done.keys ++ key ∷ [] }

abbrev pub appended : RExpr → Bool → Option Nulls → Ordered → Ordered
appended tree is_descending nulls done = record {
  values = done.values ++ tree ∷ [];
  keys = done.keys ++ key_of (length done.values) is_descending nulls ∷ [];
}

-- a value that rows are ordered by; with DISTINCT it is in the select list
abbrev pub valued_at : Option ℕ → RExpr → Bool → Option Nulls → Bool → Ordered → Resolved Ordered
valued_at (Some at) tree is_descending nulls is_distinct done =
    Ok (with_key (key_of at is_descending nulls) done)
valued_at None tree is_descending nulls true done = Err INVALID_COLUMN_REFERENCE
valued_at None tree is_descending nulls false done = Ok (appended tree is_descending nulls done)

unfoldable pub valued_key : RExpr → Bool → Option Nulls → Bool → Ordered → Resolved Ordered
valued_key tree is_descending nulls is_distinct done =
    valued_at (place_of tree 0 done.values) tree is_descending nulls is_distinct done

abbrev pub ordered_from : List RExpr → Ordered
ordered_from values = record { values = values; keys = [] }

-- ---- the whole

abbrev pub is_empty : {A : Type 0} → List A → Bool
is_empty [] = true
is_empty (x ∷ xs) = false

abbrev pub is_grouped : Clauses → List RAggregate → Bool
is_grouped c aggregates = not (is_empty c.keys) || is_some c.having || not (is_empty aggregates)

abbrev pub reads_maybe : List RExpr → List RQuery → ℕ → ℕ → ℕ → Option RExpr → Bool
reads_maybe keys queries since first end None = false
reads_maybe keys queries since first end (Some tree) = reads keys queries since first end tree

-- a column of the query's own rows outside of the groups' keys
abbrev pub is_ungrouped : Clauses → Made → ℕ → ℕ → Bool
is_ungrouped c made first end =
    reads_any c.keys made.queries made.current.since first end c.values
    || reads_maybe c.keys made.queries made.current.since first end c.having

abbrev pub groups_of : Clauses → List RAggregate → Option RGroups
groups_of c aggregates =
    if is_grouped c aggregates
    then Some (record { keys = c.keys; aggregates = aggregates; having = c.having }) else None

abbrev pub query_of : Clauses → List RAggregate → RQuery
query_of c aggregates = record {
  from = c.from;
  condition = c.condition;
  groups = groups_of c aggregates;
  items = c.values;
  heads = c.heads;
  is_distinct = c.is_distinct;
  order = c.order;
  limit = c.limit;
  offset = c.offset;
}

abbrev pub as_inner : RQuery → Made → Inner
as_inner query made = record { number = length made.queries; heads = query.heads }

-- with the query behind those inside it, and what is known of the one around
abbrev pub made_with : RQuery → Current → Made → Made
made_with query outer made = record { queries = made.queries ++ query ∷ []; current = outer }

abbrev pub closed_as : RQuery → Current → Made → Answer Inner
closed_as query outer made = got (as_inner query made) (made_with query outer made)

unfoldable pub closed : Clauses → Current → ℕ → ℕ → Made → Answer Inner
closed c outer first end made =
    if is_grouped c made.current.aggregates && is_ungrouped c made first end
    then fails GROUPING_ERROR else closed_as (query_of c made.current.aggregates) outer made

abbrev pub clauses : Bool → Sourced → Selected → Arranged → Clauses
clauses is_distinct froms s t = record {
  from = froms.joins;
  condition = s.condition;
  keys = s.keys;
  having = s.having;
  heads = s.items.heads;
  is_distinct = is_distinct;
  values = t.ordered.values;
  order = t.ordered.keys;
  limit = t.limit;
  offset = t.offset;
}

abbrev pub begun : Made → Made
begun made = record {
  queries = made.queries;
  current = record { aggregates = []; since = length made.queries };
}
