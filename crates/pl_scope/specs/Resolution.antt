-- What a whole tree means: a fold over its levels.
use Rattle.std.specs.Prelude.{ℕ, nat_lt, ◌^◌, List, [], map, Ok, Err, Bool, false, if◌then◌else◌}
use Rattle.std.specs.Option.{option_map}
use Rattle.pl_base.specs.declared.operator.Operator.TheVariants as operator
use Rattle.pl_catalog.specs.Objects.{routines_in, tables_in}
use Rattle.pl_catalog.specs.declared.object.Object.{Object}
use Rattle.pl_names.specs.Names.{Around, name_of, qualified_of, parameter_of}
use Rattle.pl_names.specs.declared.scope.Scope.{Scope}
use Rattle.pl_resolved.specs.declared.query.RQuery.{RQuery}
use Rattle.pl_scope.specs.Answers.{Answer, got, fails, Means, step, asks}
use Rattle.pl_scope.specs.Expressions.{one_of, two_of, between_of, and_of, or_of, concat_of, chain_of}
use Rattle.pl_scope.specs.Expressions.{case_of, cast_of, in_list_of, pick_of, row_part, exists_of, subquery_of}
use Rattle.pl_scope.specs.Expressions.{in_query_of, call_of, count_rows, named_argument}
use Rattle.pl_scope.specs.Parts.{Part, ArgumentPart, StepPart, ArmPart, FromPart, ItemPart, JoinPart}
use Rattle.pl_scope.specs.Parts.{KeyPart, QueryPart, QueryParts}
use Rattle.pl_scope.specs.Queries.{table_from, function_from, query_from, joined_from, value_item}
use Rattle.pl_scope.specs.Queries.{every_item, items_of, query_by}
use Rattle.pl_scope.specs.declared.made.Inner.{Inner}
use Rattle.pl_scope.specs.declared.made.Made.{Made}
use Rattle.pl_scope.specs.declared.written.Written.{Written}
use Rattle.pl_scope.specs.declared.written.Written.TheVariants.{Number, Called, Constant, Other}
use Rattle.pl_tree.specs.Layers.{ArgumentLayer, ExprLayer, FromLayer, ItemLayer, ArmLayer, FactorLayer}
use Rattle.pl_tree.specs.Layers.{JoinLayer, KeyLayer, QueryLayer, TermLayer}
use Rattle.pl_tree.specs.declared.tree.Argument.TheOpen as l
use Rattle.pl_tree.specs.declared.tree.Argument.{Argument, fold-Argument}
use Rattle.pl_tree.specs.declared.tree.Arm.{Arm, out-Arm, fold-Arm}
use Rattle.pl_tree.specs.declared.tree.Expr.{Expr, fold-Expr}
use Rattle.pl_tree.specs.declared.tree.Factor.{Factor, out-Factor, fold-Factor}
use Rattle.pl_tree.specs.declared.tree.From.{From, fold-From}
use Rattle.pl_tree.specs.declared.tree.Item.{Item, fold-Item}
use Rattle.pl_tree.specs.declared.tree.Join.{Join, out-Join, fold-Join}
use Rattle.pl_tree.specs.declared.tree.Key.{Key, out-Key, fold-Key}
use Rattle.pl_tree.specs.declared.tree.Literal.{Literal}
use Rattle.pl_tree.specs.declared.tree.Literal.TheVariants as literal
use Rattle.pl_tree.specs.declared.tree.Query.{Query, out-Query, fold-Query}
use Rattle.pl_tree.specs.declared.tree.Term.{Term, out-Term, fold-Term}
use Rattle.pl_typing.specs.Literals.{literal_means}
use Rattle.pl_typing.specs.Operators.{compared, distinct, like, negated, asked, signed, null_if}
use Rattle.pl_scope.specs.declared.resolve.ResolvedExpr.{ResolvedExpr}
use Rattle.pl_typing.specs.Resolved.{Resolved}
use Rattle.pl_typing.specs.declared.typed.Typed.{Typed}

-- ---- one level of each tree, over what the parts mean

abbrev pub Kinds : Type 1
Kinds = Type 0 → Type 0 → Type 0 → Type 0 → Type 0 → Type 0 → Type 0 → Type 0 → Type 0 → Type 0
    → Type 0

abbrev pub Over : Kinds → Type 0
Over F =
    F ArgumentPart Part FromPart ItemPart ArmPart StepPart JoinPart KeyPart QueryPart StepPart

-- a number that 32 bits hold
abbrev pub number_written : Bool → ℕ → Written
number_written is_negative size =
    if nat_lt size (2 ^ 31) then Number is_negative size else Constant

abbrev pub literal_written : Literal → Written
literal_written (literal.Number is_negative size) = number_written is_negative size
literal_written x = Constant

abbrev pub written_step : Over ExprLayer → Written
written_step (l.Literal x) = literal_written x
written_step (l.Name x) = Called x
written_step layer = Other

abbrev pub means_step : Over ExprLayer → Means Typed
means_step (l.Literal x) = step (literal_means x)
means_step (l.Parameter n) = asks (parameter_of n)
means_step (l.Name x) = asks (name_of x)
means_step (l.Qualified q x) = asks (qualified_of q x)
means_step (l.Call x arguments) = call_of x arguments
means_step l.CountRows = count_rows
means_step (l.Expr::Subquery query) = subquery_of query
means_step (l.Exists query) = exists_of query
means_step (l.Pick pick list) = pick_of pick list
means_step (l.NullIf x y) = two_of null_if x y
means_step (l.Row list) = row_part list
means_step (l.Case operand arms otherwise) = case_of operand arms otherwise
means_step (l.Cast x types) = cast_of x types
means_step (l.Signed signs x) = one_of (signed signs) x
means_step (l.Product first factors) = chain_of first factors
means_step (l.Sum first terms) = chain_of first terms
means_step (l.Concat list) = concat_of list
means_step (l.Between is_negated x low high) = between_of is_negated x low high
means_step (l.InList is_negated operand list) = in_list_of is_negated operand list
means_step (l.InQuery is_negated operand query) = in_query_of is_negated operand query
means_step (l.Like is_negated x pattern) = two_of (like is_negated) x pattern
means_step (l.Compare op x y) = two_of (compared op) x y
means_step (l.Is is_negated x test) = one_of (λ x. asked is_negated x test) x
means_step (l.IsDistinct is_negated x y) = two_of (distinct is_negated) x y
means_step (l.Not n x) = one_of (negated n) x
means_step (l.And list) = and_of list
means_step (l.Or list) = or_of list

abbrev pub expr_step : Over ExprLayer → Part
expr_step layer = record { written = written_step layer; means = means_step layer }

abbrev pub argument_step : Over ArgumentLayer → ArgumentPart
argument_step (l.Argument::Value p) = p.means
argument_step (l.FatalErrors p) = named_argument p

abbrev pub from_step : Over FromLayer → FromPart
from_step (l.Table name alias) = table_from name alias
from_step (l.Function name arguments alias) = function_from name arguments alias
from_step (l.From::Subquery query alias) = query_from query alias
from_step (l.Joined first joins) = joined_from first joins

abbrev pub item_step : Over ItemLayer → ItemPart
item_step l.All = every_item
item_step (l.AllOf name) = items_of name
item_step (l.Item::Value p label) = value_item p label

abbrev pub arm_step : Over ArmLayer → ArmPart
arm_step layer = record { when = layer.when; gives = layer.«then» }

abbrev pub factor_step : Over FactorLayer → StepPart
factor_step layer = record { by = operator.Arithmetic layer.operator; operand = layer.operand }

abbrev pub join_step : Over JoinLayer → JoinPart
join_step layer = record { kind = layer.kind; with = layer.with; condition = layer.condition }

abbrev pub key_step : Over KeyLayer → KeyPart
key_step layer = record {
  value = layer.value;
  is_descending = layer.is_descending;
  nulls = layer.nulls;
}

abbrev pub term_step : Over TermLayer → StepPart
term_step layer = record { by = operator.Arithmetic layer.operator; operand = layer.operand }

abbrev pub parts_step : Over QueryLayer → QueryParts
parts_step layer = record {
  is_distinct = layer.is_distinct;
  items = layer.items;
  from = layer.from;
  condition = layer.condition;
  groups = layer.groups;
  having = layer.having;
  order = layer.order;
  limit = layer.limit;
  offset = layer.offset;
}

abbrev pub query_step : Over QueryLayer → QueryPart
query_step layer = query_by (parts_step layer)

-- ---- whole trees

unfoldable pub part : Expr → Part
part = fold-Expr
    ArgumentPart Part FromPart ItemPart ArmPart StepPart JoinPart KeyPart QueryPart StepPart
    argument_step expr_step from_step item_step arm_step factor_step join_step key_step query_step
    term_step

unfoldable pub argument_part : Argument → ArgumentPart
argument_part = fold-Argument
    ArgumentPart Part FromPart ItemPart ArmPart StepPart JoinPart KeyPart QueryPart StepPart
    argument_step expr_step from_step item_step arm_step factor_step join_step key_step query_step
    term_step

unfoldable pub from_part : From → FromPart
from_part = fold-From
    ArgumentPart Part FromPart ItemPart ArmPart StepPart JoinPart KeyPart QueryPart StepPart
    argument_step expr_step from_step item_step arm_step factor_step join_step key_step query_step
    term_step

unfoldable pub item_part : Item → ItemPart
item_part = fold-Item
    ArgumentPart Part FromPart ItemPart ArmPart StepPart JoinPart KeyPart QueryPart StepPart
    argument_step expr_step from_step item_step arm_step factor_step join_step key_step query_step
    term_step

unfoldable pub arm_part : Arm → ArmPart
arm_part = fold-Arm
    ArgumentPart Part FromPart ItemPart ArmPart StepPart JoinPart KeyPart QueryPart StepPart
    argument_step expr_step from_step item_step arm_step factor_step join_step key_step query_step
    term_step

unfoldable pub factor_part : Factor → StepPart
factor_part = fold-Factor
    ArgumentPart Part FromPart ItemPart ArmPart StepPart JoinPart KeyPart QueryPart StepPart
    argument_step expr_step from_step item_step arm_step factor_step join_step key_step query_step
    term_step

unfoldable pub join_part : Join → JoinPart
join_part = fold-Join
    ArgumentPart Part FromPart ItemPart ArmPart StepPart JoinPart KeyPart QueryPart StepPart
    argument_step expr_step from_step item_step arm_step factor_step join_step key_step query_step
    term_step

unfoldable pub key_part : Key → KeyPart
key_part = fold-Key
    ArgumentPart Part FromPart ItemPart ArmPart StepPart JoinPart KeyPart QueryPart StepPart
    argument_step expr_step from_step item_step arm_step factor_step join_step key_step query_step
    term_step

unfoldable pub term_part : Term → StepPart
term_part = fold-Term
    ArgumentPart Part FromPart ItemPart ArmPart StepPart JoinPart KeyPart QueryPart StepPart
    argument_step expr_step from_step item_step arm_step factor_step join_step key_step query_step
    term_step

unfoldable pub query_part : Query → QueryPart
query_part = fold-Query
    ArgumentPart Part FromPart ItemPart ArmPart StepPart JoinPart KeyPart QueryPart StepPart
    argument_step expr_step from_step item_step arm_step factor_step join_step key_step query_step
    term_step

-- ---- an operand, an arm, a key, as the code comes to it

abbrev pub term_view : Term → StepPart
term_view t = record {
  by = operator.Arithmetic (out-Term t).operator;
  operand = part (out-Term t).operand;
}

abbrev pub factor_view : Factor → StepPart
factor_view f = record {
  by = operator.Arithmetic (out-Factor f).operator;
  operand = part (out-Factor f).operand;
}

abbrev pub arm_view : Arm → ArmPart
arm_view x = record { when = part (out-Arm x).when; gives = part (out-Arm x).«then» }

abbrev pub key_view : Key → KeyPart
key_view k = record {
  value = part (out-Key k).value;
  is_descending = (out-Key k).is_descending;
  nulls = (out-Key k).nulls;
}

abbrev pub join_view : Join → JoinPart
join_view j = record {
  kind = (out-Join j).kind;
  with = from_part (out-Join j).with;
  condition = option_map part (out-Join j).condition;
}

abbrev pub query_view : Query → QueryParts
query_view q = record {
  is_distinct = (out-Query q).is_distinct;
  items = map item_part (out-Query q).items;
  from = map from_part (out-Query q).from;
  condition = option_map part (out-Query q).condition;
  groups = map part (out-Query q).groups;
  having = option_map part (out-Query q).having;
  order = map key_view (out-Query q).order;
  limit = option_map part (out-Query q).limit;
  offset = option_map part (out-Query q).offset;
}

-- ---- the theorem's two words

-- outside of any query: behind the row of variables and parameters
abbrev pub standing : List Object → Scope → Around
standing catalogue scope = record {
  tables = tables_in catalogue;
  routines = routines_in catalogue;
  frames = scope.frames;
  params = scope.params;
  levels = [];
  next_row = 1;
  aggregates_row = 1;
  may_aggregate = false;
}

abbrev pub nothing_made : Made
nothing_made = record { queries = []; current = record { aggregates = []; since = 0 } }

abbrev pub as_expr : Answer Typed → Resolved ResolvedExpr
as_expr (got x made) = Ok (record { typed = x; queries = made.queries })
as_expr (fails state) = Err state

abbrev pub as_queries : Answer Inner → Resolved (List RQuery)
as_queries (got x made) = Ok made.queries
as_queries (fails state) = Err state

-- the expression, its type, and the queries inside it, by the objects of the catalogue
abbrev pub resolved_expr : List Object → Scope → Expr → Resolved ResolvedExpr
resolved_expr catalogue scope e =
    as_expr ((part e).means (standing catalogue scope) nothing_made)

-- the query, the last one behind all that are inside it
abbrev pub resolved_query : List Object → Scope → Query → Resolved (List RQuery)
resolved_query catalogue scope q = as_queries (query_part q (standing catalogue scope) nothing_made)

abbrev pub written : Expr → Written
written e = (part e).written
