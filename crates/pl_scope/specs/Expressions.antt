-- What expressions mean: PostgreSQL manual, "Value Expressions". The parts of a node are read from
-- left to right, and then the node.
use Rattle.std.specs.Prelude.{ℕ, ◌&&◌, not, List, [], ◌∷◌, ◌++◌, length, Option, Some, None}
use Rattle.std.specs.Prelude.{Ok, Err, Bool, false, if◌then◌else◌, codes}
use Rattle.pl_base.specs.States.{UNDEFINED_FUNCTION, GROUPING_ERROR, FEATURE_NOT_SUPPORTED, SYNTAX_ERROR}
use Rattle.pl_base.specs.declared.operator.Operator.TheVariants as operator
use Rattle.pl_base.specs.declared.types.Ty.{Ty}
use Rattle.pl_grouping.specs.Reading.{reads_any}
use Rattle.pl_grouping.specs.Search.{aggregate_place}
use Rattle.pl_names.specs.Names.{Name, Around, known_types}
use Rattle.pl_names.specs.Routines.{called}
use Rattle.pl_resolved.specs.declared.expression.RExpr.{RExpr}
use Rattle.pl_resolved.specs.declared.expression.RExpr.TheVariants as r
use Rattle.pl_resolved.specs.declared.query.Aggregate.{Aggregate}
use Rattle.pl_resolved.specs.declared.query.Aggregate.TheVariants.{CountRows}
use Rattle.pl_resolved.specs.declared.query.RAggregate.{RAggregate}
use Rattle.pl_scope.specs.Answers.{got, fails, Means, ◌>>=◌, gives, step, asks, queries_made, within}
use Rattle.pl_scope.specs.Parts.{Part, ArgumentPart, StepPart, ArmPart, QueryPart}
use Rattle.pl_scope.specs.Steps.{cast_by}
use Rattle.pl_scope.specs.declared.made.Made.{Made}
use Rattle.pl_tree.specs.declared.tree.Pick.{Pick}
use Rattle.pl_typing.specs.Aggregates.{aggregate_named, aggregated}
use Rattle.pl_typing.specs.Calls.{no_arguments, argument_with, row_of}
use Rattle.pl_typing.specs.Cases.{no_arms, operand_type, tree_of, tested, with_arm, cased}
use Rattle.pl_typing.specs.Operators.{run_of, stepped, ended, between}
use Rattle.pl_typing.specs.Resolved.{Resolved}
use Rattle.pl_typing.specs.Subqueries.{scalar, exists, in_query}
use Rattle.pl_typing.specs.Typing.{headed, truth, truth_of}
use Rattle.pl_typing.specs.Unions.{listed_none, listed_with, picked, in_list}
use Rattle.pl_typing.specs.declared.aggregates.TypedAggregate.{TypedAggregate}
use Rattle.pl_typing.specs.declared.calls.Arguments.{Arguments}
use Rattle.pl_typing.specs.declared.cases.Arms.{Arms}
use Rattle.pl_typing.specs.declared.chain.Run.{Run}
use Rattle.pl_typing.specs.declared.typed.Typed.{Typed}
use Rattle.pl_typing.specs.declared.unions.Listed.{Listed}

-- ---- lists of parts

abbrev pub listed_on : List Part → Listed → Means Listed
listed_on [] done = gives done
listed_on (p ∷ ps) done = p.means >>= (λ x. listed_on ps (listed_with done x))

abbrev pub fields_on : List Part → Arguments → Means Arguments
fields_on [] done = gives done
fields_on (p ∷ ps) done = p.means >>= (λ x. fields_on ps (argument_with done x))

abbrev pub conditions : List Part → List RExpr → Means (List RExpr)
conditions [] done = gives done
conditions (p ∷ ps) done =
    p.means >>= (λ x. step (truth x) >>= (λ t. conditions ps (done ++ t ∷ [])))

abbrev pub maybe : Option Part → Means (Option Typed)
maybe None = gives None
maybe (Some p) = p.means >>= (λ x. gives (Some x))

abbrev pub maybe_condition : Option Part → Means (Option RExpr)
maybe_condition None = gives None
maybe_condition (Some p) = p.means >>= (λ x. step (truth x) >>= (λ t. gives (Some t)))

-- ---- operators

abbrev pub run_on : List StepPart → Run → Means Run
run_on [] run = gives run
run_on (s ∷ ss) run =
    s.operand.means >>= (λ y. step (stepped s.by run y) >>= (λ run. run_on ss run))

-- operators from the left
abbrev pub chain_of : Part → List StepPart → Means Typed
chain_of first steps = first.means >>= (λ x. run_on steps (run_of x) >>= (λ run. gives (ended run)))

-- `||`, from the left
abbrev pub joined_to : Option Run → Typed → Resolved Run
joined_to None x = Ok (run_of x)
joined_to (Some run) x = stepped operator.Concatenate run x

abbrev pub concat_on : List Part → Option Run → Means (Option Run)
concat_on [] done = gives done
concat_on (p ∷ ps) done =
    p.means >>= (λ x. step (joined_to done x) >>= (λ run. concat_on ps (Some run)))

abbrev pub ended_if : Option Run → Resolved Typed
ended_if None = Err SYNTAX_ERROR
ended_if (Some run) = Ok (ended run)

abbrev pub concat_of : List Part → Means Typed
concat_of list = concat_on list None >>= (λ done. step (ended_if done))

abbrev pub one_of : (Typed → Resolved Typed) → Part → Means Typed
one_of f p = p.means >>= (λ x. step (f x))

abbrev pub two_of : (Typed → Typed → Resolved Typed) → Part → Part → Means Typed
two_of f p q = p.means >>= (λ x. q.means >>= (λ y. step (f x y)))

abbrev pub cast_of : Part → List Ty → Means Typed
cast_of p types = p.means >>= (λ x. asks (λ a. cast_by (known_types [] types a) types x))

abbrev pub between_of : Bool → Part → Part → Part → Means Typed
between_of is_negated x low high =
    x.means >>= (λ x. low.means >>= (λ low. high.means >>= (λ high.
    step (between is_negated x low high))))

abbrev pub and_of : List Part → Means Typed
and_of list = conditions list [] >>= (λ list. gives (truth_of (r.And list)))

abbrev pub or_of : List Part → Means Typed
or_of list = conditions list [] >>= (λ list. gives (truth_of (r.Or list)))

-- ---- CASE, IN and the like

abbrev pub arms_on : Option Ty → List ArmPart → Arms → Means Arms
arms_on operand [] done = gives done
arms_on operand (arm ∷ arms) done =
    arm.when.means >>= (λ w. step (tested operand w) >>= (λ when. arm.gives.means >>= (λ gives.
    arms_on operand arms (with_arm done when gives))))

abbrev pub case_of : Option Part → List ArmPart → Option Part → Means Typed
case_of operand arms otherwise =
    maybe operand >>= (λ x. arms_on (operand_type x) arms no_arms >>= (λ done.
    maybe otherwise >>= (λ other. step (cased (tree_of x) done other))))

abbrev pub in_list_of : Bool → Part → List Part → Means Typed
in_list_of is_negated operand list =
    operand.means >>= (λ x. listed_on list (listed_with listed_none x) >>= (λ all.
    step (in_list is_negated all)))

abbrev pub pick_of : Pick → List Part → Means Typed
pick_of pick list = listed_on list listed_none >>= (λ all. step (picked pick all))

abbrev pub row_part : List Part → Means Typed
row_part list = fields_on list no_arguments >>= (λ all. gives (row_of all))

-- ---- subqueries

abbrev pub exists_of : QueryPart → Means Typed
exists_of query = query >>= (λ q. gives (exists q.number))

abbrev pub subquery_of : QueryPart → Means Typed
subquery_of query = query >>= (λ q. step (scalar q.number q.heads))

abbrev pub in_query_of : Bool → Part → QueryPart → Means Typed
in_query_of is_negated operand query =
    operand.means >>= (λ x. query >>= (λ q. step (in_query is_negated x q.number q.heads)))

-- ---- aggregates

abbrev pub aggregate_at : ℕ → Ty → Name → Around → Typed
aggregate_at place ty head a = headed (r.Place a.aggregates_row place) ty head

abbrev pub with_aggregate : RAggregate → Made → Made
with_aggregate x made = record {
  queries = made.queries;
  current = record {
    aggregates = made.current.aggregates ++ x ∷ [];
    since = made.current.since;
  };
}

abbrev pub collected_by : Option ℕ → TypedAggregate → Name → Means Typed
collected_by (Some place) x head = λ a made. got (aggregate_at place x.ty head a) made
collected_by None x head = λ a made.
    got (aggregate_at (length made.current.aggregates) x.ty head a) (with_aggregate x.aggregate made)

-- whether it names columns, and all of them are of outer queries; the queries in its arguments are
-- those from this number on
abbrev pub is_of_outer : RAggregate → ℕ → Around → Made → Bool
is_of_outer x since a made =
    reads_any [] made.queries since 1 a.aggregates_row x.arguments
    && not (reads_any [] made.queries since a.aggregates_row a.next_row x.arguments)

-- an aggregate is of the query that it stands in
abbrev pub collected : TypedAggregate → Name → ℕ → Means Typed
collected x head since = λ a made.
    if a.may_aggregate then
    (if is_of_outer x.aggregate since a made then fails FEATURE_NOT_SUPPORTED
    else collected_by (aggregate_place x.aggregate 0 made.current.aggregates) x head a made)
    else fails GROUPING_ERROR

abbrev pub no_aggregates : Around → Around
no_aggregates a = record {
  tables = a.tables;
  routines = a.routines;
  frames = a.frames;
  params = a.params;
  levels = a.levels;
  next_row = a.next_row;
  aggregates_row = a.aggregates_row;
  may_aggregate = false;
}

-- ---- calls

abbrev pub arguments_on : List ArgumentPart → Arguments → Means Arguments
arguments_on [] done = gives done
arguments_on (p ∷ ps) done = p >>= (λ x. arguments_on ps (argument_with done x))

-- the one named argument belongs to no function that a name finds
abbrev pub named_argument : Part → ArgumentPart
named_argument p = p.means >>= (λ x. step (Err UNDEFINED_FUNCTION))

abbrev pub function_of : Name → List ArgumentPart → Means Typed
function_of name arguments =
    arguments_on arguments no_arguments >>= (λ all. asks (called name all))

abbrev pub aggregate_of : Aggregate → Name → List ArgumentPart → Means Typed
aggregate_of kind name arguments =
    queries_made >>= (λ since.
    within no_aggregates (arguments_on arguments no_arguments) >>= (λ all.
    step (aggregated kind all) >>= (λ x. collected x name since)))

abbrev pub call_by : Option Aggregate → Name → List ArgumentPart → Means Typed
call_by None name arguments = function_of name arguments
call_by (Some kind) name arguments = aggregate_of kind name arguments

abbrev pub call_of : Name → List ArgumentPart → Means Typed
call_of name arguments = call_by (aggregate_named name) name arguments

abbrev pub count_rows : Means Typed
count_rows =
    queries_made >>= (λ since.
    step (aggregated CountRows no_arguments) >>= (λ x. collected x (codes "count") since))
