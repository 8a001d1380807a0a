-- Commands in bodies: PostgreSQL manual, "PL/pgSQL", "Executing SQL Commands", "Obtaining the
-- Result Status". A query's rows go into variables, or are only counted.
use Rattle.std.specs.Prelude.{ℕ, Bool, true, false, not, List, [], ◌∷◌, Option, Some, None, Ok}
use Rattle.std.specs.Prelude.{Err, bytes_eq, drop, length, min}
use Rattle.std.specs.List.{list_any}
use Rattle.pl_base.specs.States.{FEATURE_NOT_SUPPORTED, NO_DATA_FOUND, OBJECT_IN_USE}
use Rattle.pl_base.specs.States.{SYNTAX_ERROR, TOO_MANY_ROWS}
use Rattle.pl_base.specs.declared.fail.Fail.{Fail}
use Rattle.pl_base.specs.declared.state.State.{State}
use Rattle.pl_bodies.specs.declared.simple.Change.{Change}
use Rattle.pl_bodies.specs.declared.simple.IntoClause.{IntoClause}
use Rattle.pl_bodies.specs.declared.simple.Target.{Target}
use Rattle.pl_meaning.specs.Definitions.{Behind, redefined}
use Rattle.pl_meaning.specs.Replies.{notice_line}
use Rattle.pl_meaning.specs.pl_names.Names.{Name}
use Rattle.pl_resolved.specs.declared.query.Head.{Head}
use Rattle.pl_resolved.specs.declared.query.RQuery.{RQuery}
use Rattle.pl_meaning.specs.pl_targets.declared.change.RChange.{RChange}
use Rattle.pl_tree.specs.declared.command.Definition.{Definition}
use Rattle.pl_tree.specs.declared.command.Definition.TheVariants as definition
use Rattle.pl_tree.specs.declared.tree.Query.{Query}
use Rattle.pl_meaning.specs.pl_typing.Resolved.{Resolved}
use Rattle.pl_meaning.specs.pl_undo.Database.{Database}
use Rattle.pl_meaning.specs.pl_value.Frames.{Row}
use Rattle.pl_meaning.specs.pl_value.Reading.{Reading, got, fails}
use Rattle.pl_world.specs.Assigning.{put_all}
use Rattle.pl_world.specs.Calls.{Within}
use Rattle.pl_world.specs.Changes.{changed}
use Rattle.pl_world.specs.Errors.{Spot, raised, resolves}
use Rattle.pl_world.specs.Expressions.{queried, read}
use Rattle.pl_world.specs.Resolving.{Asks, Variable, aiming_all, ask, changing, querying, then_ask}
use Rattle.pl_world.specs.Running.{Runner}
use Rattle.pl_world.specs.Variables.{counted}
use Rattle.pl_world.specs.World.{World, Began, a_definition, Said, Ran, made, behind, ends}
use Rattle.pl_world.specs.declared.outcome.Outcome.{Outcome}
use Rattle.pl_world.specs.declared.outcome.Outcome.TheVariants as outcome

-- ---- INTO

-- The first row goes into the variables, or nulls where there is none. STRICT asks for a row, and
-- for no more than one; so does INTO of a change for no more than one.
abbrev pub into : (needs_one may_have_more : Bool) → List Variable → List Row → Spot → World
    → Ran Outcome
into true more vs [] at w = raised NO_DATA_FOUND at w
into false more vs [] at w = put_all vs [] at w
into needs more vs (row ∷ []) at w = put_all vs row at w
into needs true vs (row ∷ other ∷ rows) at w = put_all vs row at w
into needs false vs (row ∷ other ∷ rows) at w = raised TOO_MANY_ROWS at w

abbrev pub into_one : Bool → List Variable → List Row → Spot → World → Ran Outcome
into_one is_strict vs rows at w = into is_strict (not is_strict) vs rows at w

-- ---- queries

-- PERFORM: FOUND says whether there was a row
unfoldable pub performed : Runner → Spot → List RQuery → World → Ran Outcome
performed r at queries w =
    queried r at queries w (λ rows w. ends outcome.Next (counted (length rows) w))

-- a query whose rows go nowhere
unfoldable pub without_destination : Runner → Spot → List RQuery → World → Ran Outcome
without_destination r at queries w =
    queried r at queries w (λ rows w. raised SYNTAX_ERROR at (counted (length rows) w))

pub record Selecting : Type 0 where
  pub queries : List RQuery
  pub into : List Variable

-- SELECT INTO: the query is resolved, then its targets
unfoldable pub selecting : Query → List Target → Asks Selecting
selecting q targets =
    then_ask (querying q) (λ queries. then_ask (aiming_all targets) (λ vs.
    ask (Ok (record { queries = queries; into = vs }))))

-- FOUND and ROW_COUNT are those of the one row that is taken, and stand before it goes anywhere
unfoldable pub selected : Runner → Spot → Bool → Selecting → World → Ran Outcome
selected r at is_strict s w =
    queried r at s.queries w (λ rows w.
    into_one is_strict s.into rows at (counted (min 1 (length rows)) w))

-- ---- changes

pub record Altering : Type 0 where
  pub change : RChange
  pub into : List Variable

-- a change is resolved, then the targets of its RETURNING
unfoldable pub altering : Change → List Target → Asks Altering
altering c targets =
    then_ask (changing c) (λ change. then_ask (aiming_all targets) (λ vs.
    ask (Ok (record { change = change; into = vs }))))

-- the newest change no longer runs
abbrev pub no_longer : Within → Within
no_longer x = record x { world = record x.world { changing = drop 1 x.world.changing } }

-- it ends, also where it fails
abbrev pub finished : {A : Type 0} → Reading Within A → Reading Within A
finished (got a x) = got a (no_longer x)
finished (fails state x) = fails state (no_longer x)

abbrev pub unless_returning : List Head → Spot → World → Ran Outcome
unless_returning [] at w = ends outcome.Next w
unless_returning (head ∷ heads) at w = raised SYNTAX_ERROR at w

-- the rows of RETURNING have to go somewhere
abbrev pub returned : Option IntoClause → Altering → List Row → Spot → World → Ran Outcome
returned None a rows at w = unless_returning a.change.heads at w
returned (Some clause) a rows at w = into clause.is_strict false a.into rows at w

unfoldable pub altered : Runner → Spot → Option IntoClause → Altering → World → Ran Outcome
altered r at clause a w =
    read (finished (changed r at a.change w)) at (λ rows w.
    returned clause a rows at (counted (length rows) w))

-- ---- CREATE and DROP

-- the table that a definition takes away, or whose triggers it changes
abbrev pub table_of : Definition → Option Name
table_of (definition.CreateTable table) = None
table_of (definition.CreateRoutine routine) = None
table_of (definition.CreateTrigger trigger) = Some trigger.table
table_of (definition.DropTable if_exists name) = Some name
table_of (definition.DropRoutine kind if_exists name types) = None
table_of (definition.DropTrigger if_exists name table) = Some table

abbrev pub is_changing : Option Name → List Name → Bool
is_changing None tables = false
is_changing (Some table) tables = list_any (λ t. bytes_eq t table) tables

abbrev pub unless_changing : Bool → Behind → Resolved Behind
unless_changing true b = Err OBJECT_IN_USE
unless_changing false b = Ok b

-- a notice says that all stays as it is
abbrev pub unless_in_use : Option State → Definition → List Name → Behind → Resolved Behind
unless_in_use (Some notice) d tables b = Ok b
unless_in_use None d tables b = unless_changing (is_changing (table_of d) tables) b

abbrev pub checked : Resolved Behind → Definition → List Name → Resolved Behind
checked (Err state) d tables = Err state
checked (Ok b) d tables = unless_in_use b.notice d tables b

-- the database behind a definition, or its first refusal; the last is that a change of the table
-- runs
abbrev pub defining : Option Definition → List ℕ → List Name → Database → Resolved Behind
defining None source tables db = Err FEATURE_NOT_SUPPORTED
defining (Some d) source tables db = checked (redefined d source db) d tables

-- the lines of its notice
abbrev pub noticed : {O : Type 0} → Option State → O → World → Ran O
noticed None o w = ends o w
noticed (Some state) o w = made w o (Said (notice_line state) ∷ [])

abbrev pub with_database : Database → World → World
with_database db w = record w { database = db }

-- for every form of an end that an error may take: what is answered where there is none
module _ {O : Type 0} (failed : Fail → O) where
  unfoldable pub defines : O → Spot → Option Definition → List ℕ → World → Ran O
  defines done at d source w =
      behind (Began a_definition ∷ [])
      (resolves failed (defining d source w.changing w.database) at w (λ b.
      noticed b.notice done (with_database b.database w)))
