-- What queries mean: PostgreSQL manual, "SELECT". FROM is read first, then the select list, WHERE,
-- GROUP BY, HAVING, ORDER BY, LIMIT, OFFSET. The 42803 of a column outside the groups comes last.
use Rattle.std.specs.Prelude.{length, Option, Some, None, Bool}
use Rattle.std.specs.Prelude.{slice_get}
use Rattle.std.specs.Prelude.{ℕ, ◌+◌, List, [], ◌∷◌, ◌++◌}
use Rattle.pl_names.specs.Names.{Name}
use Rattle.pl_names.specs.Sources.{table_of, derived, valued, together, every_column, columns_of, with_item, no_items}
use Rattle.pl_names.specs.declared.scope.Source.{Source}
use Rattle.pl_names.specs.declared.sources.Items.{Items}
use Rattle.pl_names.specs.declared.sources.Sourced.{Sourced}
use Rattle.pl_resolved.specs.declared.expression.RExpr.{RExpr}
use Rattle.pl_resolved.specs.declared.query.Head.{Head}
use Rattle.pl_scope.specs.Answers.{Means, ◌>>=◌, gives, step, asks, within, settled}
use Rattle.pl_scope.specs.Expressions.{call_of, maybe_condition, no_aggregates}
use Rattle.pl_scope.specs.Parts.{Part, ArgumentPart, FromPart, ItemPart, JoinPart, KeyPart, QueryPart, QueryParts}
use Rattle.pl_scope.specs.Steps.{begun, clauses, closed, first_row, group_written, grouped_in, item_key, joined, joined_in, key_of, no_froms, ordered_from, output_of, outside_of, plain_in, put_beside, valued_key, with_key}
use Rattle.pl_scope.specs.declared.closing.Arranged.{Arranged}
use Rattle.pl_scope.specs.declared.closing.Clauses.{Clauses}
use Rattle.pl_scope.specs.declared.closing.Selected.{Selected}
use Rattle.pl_scope.specs.declared.made.Current.{Current}
use Rattle.pl_scope.specs.declared.made.Inner.{Inner}
use Rattle.pl_scope.specs.declared.ordering.Ordered.{Ordered}
use Rattle.pl_typing.specs.Typing.{head_of, limited}

-- ---- FROM

abbrev pub table_from : Name → Option Name → FromPart
table_from x alias row = asks (table_of x alias row)

abbrev pub function_from : Name → List ArgumentPart → Option Name → FromPart
function_from x arguments alias row =
    call_of x arguments >>= (λ call. gives (valued call x alias row))

-- a subquery sees no other item of its FROM
abbrev pub query_from : QueryPart → Option Name → FromPart
query_from query alias row = query >>= (λ q. gives (derived q.number q.heads alias row))

-- ON sees what is joined there
abbrev pub join_on : JoinPart → ℕ → Sourced → Means Sourced
join_on j row done =
    j.with (row + length done.sources) >>= (λ with.
    step (together done.sources with.sources) >>= (λ sources.
    within (joined_in sources (row + length sources)) (maybe_condition j.condition) >>= (λ on.
    gives (joined done.joins j.kind with.joins sources on))))

abbrev pub joins_on : List JoinPart → ℕ → Sourced → Means Sourced
joins_on [] row done = gives done
joins_on (j ∷ js) row done = join_on j row done >>= (λ done. joins_on js row done)

abbrev pub joined_from : FromPart → List JoinPart → FromPart
joined_from first joins row = first row >>= (λ s. joins_on joins row s)

abbrev pub froms_on : List FromPart → ℕ → Sourced → Means Sourced
froms_on [] row done = gives done
froms_on (f ∷ fs) row done =
    f (row + length done.sources) >>= (λ more. step (put_beside done more) >>= (λ done.
    froms_on fs row done))

-- ---- select lists

abbrev pub value_item : Part → Option Name → ItemPart
value_item p label sources done =
    p.means >>= (λ x. step (with_item done x.tree (head_of label x)))

abbrev pub every_item : ItemPart
every_item sources done = step (every_column done sources)

abbrev pub items_of : Name → ItemPart
items_of q sources done = asks (columns_of done q)

abbrev pub items_on : List ItemPart → List Source → Items → Means Items
items_on [] sources done = gives done
items_on (i ∷ is) sources done = i sources done >>= (λ done. items_on is sources done)

-- ---- GROUP BY

abbrev pub group_by : Option ℕ → Part → List RExpr → Means RExpr
group_by None p values = p.means >>= (λ x. gives x.tree)
group_by (Some at) p values = λ a made.
    settled (item_key (slice_get values at) made.queries made.current.since a.aggregates_row) made

abbrev pub group_on : Part → List Source → Items → Means RExpr
group_on p sources items =
    step (output_of (group_written p.written sources) items.heads items.values) >>= (λ found.
    group_by found p items.values)

abbrev pub groups_on : List Part → List Source → Items → List RExpr → Means (List RExpr)
groups_on [] sources items done = gives done
groups_on (p ∷ ps) sources items done =
    group_on p sources items >>= (λ key. groups_on ps sources items (done ++ key ∷ []))

-- ---- ORDER BY

abbrev pub key_by : Option ℕ → KeyPart → Bool → Ordered → Means Ordered
key_by (Some at) k is_distinct done = gives (with_key (key_of at k.is_descending k.nulls) done)
key_by None k is_distinct done =
    k.value.means >>= (λ x. step (valued_key x.tree k.is_descending k.nulls is_distinct done))

abbrev pub key_on : KeyPart → Bool → List Head → Ordered → Means Ordered
key_on k is_distinct heads done =
    step (output_of k.value.written heads done.values) >>= (λ found.
    key_by found k is_distinct done)

abbrev pub keys_on : List KeyPart → Bool → List Head → Ordered → Means Ordered
keys_on [] is_distinct heads done = gives done
keys_on (k ∷ ks) is_distinct heads done =
    key_on k is_distinct heads done >>= (λ done. keys_on ks is_distinct heads done)

-- ---- LIMIT and OFFSET

abbrev pub maybe_limit : Option Part → Means (Option RExpr)
maybe_limit None = gives None
maybe_limit (Some p) = p.means >>= (λ x. step (limited x) >>= (λ t. gives (Some t)))

-- ---- the whole

abbrev pub froms_of : List FromPart → Means Sourced
froms_of from = λ a made. froms_on from (first_row a) no_froms (no_aggregates a) made

-- the clauses that say which rows there are, and the columns of each
abbrev pub selected : QueryParts → List Source → Means Selected
selected q sources =
    within (grouped_in sources) (items_on q.items sources no_items) >>= (λ items.
    within (plain_in sources) (maybe_condition q.condition) >>= (λ condition.
    within (plain_in sources) (groups_on q.groups sources items []) >>= (λ keys.
    within (grouped_in sources) (maybe_condition q.having) >>= (λ having.
    gives (record { items = items; condition = condition; keys = keys; having = having })))))

-- the clauses that say in which order they come, and how many of them
abbrev pub arranged : QueryParts → List Source → List Head → List RExpr → Means Arranged
arranged q sources heads values =
    within (grouped_in sources)
    (keys_on q.order q.is_distinct heads (ordered_from values)) >>= (λ ordered.
    within (outside_of sources) (maybe_limit q.limit) >>= (λ limit.
    within (outside_of sources) (maybe_limit q.offset) >>= (λ offset.
    gives (record { ordered = ordered; limit = limit; offset = offset }))))

-- its rows are those behind the row of its aggregates
abbrev pub closing : Clauses → Current → List Source → Means Inner
closing c outer sources = λ a made.
    closed c outer (first_row a) (first_row a + length sources) made

-- what is known of the query around is put back where it ends
abbrev pub read : QueryParts → Current → QueryPart
read q outer =
    froms_of q.from >>= (λ froms. selected q froms.sources >>= (λ s.
    arranged q froms.sources s.items.heads s.items.values >>= (λ t.
    closing (clauses q.is_distinct froms s t) outer froms.sources)))

abbrev pub query_by : QueryParts → QueryPart
query_by q = λ a made. read q made.current a (begun made)
