-- What a SELECT at the top of a script answers: its rows as psql prints them, or an error.
use Rattle.std.specs.Prelude.{ℕ, ◌-◌, List, [], ◌∷◌, map, codes, length, nat_lt, slice_get}
use Rattle.std.specs.Prelude.{Bool, false, Option, Some, None, Ok, Err, if◌then◌else◌}
use Rattle.std.specs.List.{list_any}
use Rattle.pl_base.specs.declared.types.Ty.{Ty}
use Rattle.pl_base.specs.declared.value.Value.{Value, Row'}
use Rattle.pl_base.specs.declared.value.Value.TheVariants.{Text}
use Rattle.pl_calc.specs.Casts.{text_limit}
use Rattle.pl_change.specs.pl_names.declared.scope.Scope.{Scope}
use Rattle.pl_print.specs.Grids.{grid_bytes}
use Rattle.pl_print.specs.TextForm.{output}
use Rattle.pl_print.specs.declared.reply.Grid.{Grid}
use Rattle.pl_change.specs.pl_query.Query.{rows}
use Rattle.pl_resolved.specs.declared.query.Head.{Head}
use Rattle.pl_resolved.specs.declared.query.RQuery.{RQuery}
use Rattle.pl_change.specs.pl_scope.Resolution.{resolved_query}
use Rattle.pl_tree.specs.declared.tree.Query.{Query}
use Rattle.pl_change.specs.pl_typing.Resolved.{Resolved}
use Rattle.pl_change.specs.pl_undo.Database.{Database}
use Rattle.pl_change.specs.pl_value.Frames.{Frame, Row}
use Rattle.pl_change.specs.pl_value.NoRoutines.{unknown}
use Rattle.pl_change.specs.pl_value.Reading.{Reading, got, fails}
use Rattle.pl_change.specs.pl_value.declared.world.NoRoutines.{NoRoutines}
use Rattle.pl_change.specs.Rows.{tables_of}
use Rattle.pl_meaning.specs.Replies.{error_line, limit_exceeded}
use Rattle.pl_meaning.specs.Trace.{Event, Said, Failed}

-- ---- what is printed

-- a column without a name has a heading all the same
abbrev pub heading_by : List ℕ → List ℕ
heading_by [] = codes "?column?"
heading_by (c ∷ name) = c ∷ name

abbrev pub heading : Head → List ℕ
heading head = heading_by head.name

abbrev pub type_in : Head → Ty
type_in head = head.ty

abbrev pub grid_of : List Head → List Row → Grid
grid_of heads rows = record { heads = map heading heads; types = map type_in heads; rows = rows }

-- more bytes than a text may have, a row by its printed form
abbrev pub is_too_long : Value → Bool
is_too_long (Text t) = nat_lt text_limit (length t)
is_too_long (Row' shape fields) = nat_lt text_limit (length (output (Row' shape fields)))
is_too_long v = false

abbrev pub has_long : List Row → Bool
has_long rows = list_any (λ row. list_any is_too_long row) rows

abbrev pub shows : List Head → List Row → List Event
shows heads rows =
    if has_long rows then Failed limit_exceeded ∷ []
    else Said (grid_bytes (grid_of heads rows)) ∷ []

-- ---- a whole query

-- no variable, no parameter
abbrev pub no_variables : Scope
no_variables = record { frames = []; params = [] }

-- the number of the whole query, which stands behind those inside it
abbrev pub last_of : List RQuery → ℕ
last_of queries = length queries - 1

abbrev pub heads_in : Option RQuery → List Head
heads_in (Some query) = query.heads
heads_in None = []

-- the columns of the whole query
abbrev pub heads_of : List RQuery → List Head
heads_of queries = heads_in (slice_get queries (last_of queries))

-- what stands around it: a row of variables and parameters, of which there are none
abbrev pub around : Frame
around = [] ∷ []

-- the rows of the whole query, by the rows of the tables and with no routine
abbrev pub query_rows : List RQuery → Database → Reading NoRoutines (List Row)
query_rows queries db =
    rows unknown queries (tables_of db.tables) (last_of queries) around (record {})

-- the rows that are read are printed
abbrev pub answered : {W : Type 0} → List Head → Reading W (List Row) → List Event
answered heads (got rows w) = shows heads rows
answered heads (fails state w) = Failed (error_line state) ∷ []

abbrev pub answers : List RQuery → Database → List Event
answers queries db = answered (heads_of queries) (query_rows queries db)

abbrev pub answers_once : Resolved (List RQuery) → Database → List Event
answers_once (Ok queries) db = answers queries db
answers_once (Err state) db = Failed (error_line state) ∷ []

-- All names and types are resolved before any row is read. Nothing is changed: the answer is the
-- only event.
unfoldable pub selects : Query → Database → List Event
selects query db = answers_once (resolved_query db.objects no_variables query) db
