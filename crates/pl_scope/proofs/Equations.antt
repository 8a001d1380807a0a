-- One equation for each kind of node: a node's meaning, from those of its parts.
use Rattle.std.proofs.Common.{◌≡◌, ◌∙◌, ap, refl, ℕ, Bool, List, [], ◌∷◌, Option, map, rules, arith}
use Rattle.std.specs.Option.{option_map}
use Rattle.pl_base.specs.declared.operator.Comparison.{Comparison}
use Rattle.pl_base.specs.declared.operator.Test.{Test}
use Rattle.pl_base.specs.declared.types.Ty.{Ty}
use Rattle.pl_names.specs.Names.{Name}
use Rattle.pl_scope.specs.Expressions.{named_argument}
use Rattle.pl_scope.specs.Parts.{StepPart, ArmPart, JoinPart, KeyPart, QueryParts}
use Rattle.pl_scope.specs.Queries.{table_from, function_from, query_from, joined_from, value_item, every_item, items_of, query_by}
use Rattle.pl_scope.specs.Resolution.{part, argument_part, from_part, item_part, arm_part, factor_part, join_part, key_part, term_part, query_part, expr_step, term_view, factor_view, arm_view, key_view, join_view, query_view}
use Rattle.pl_tree.specs.declared.tree.Argument.TheOpen as l
use Rattle.pl_tree.specs.declared.tree.Argument.{Argument}
use Rattle.pl_tree.specs.declared.tree.Argument.TheVariants as a
use Rattle.pl_tree.specs.declared.tree.Arm.{Arm}
use Rattle.pl_tree.specs.declared.tree.Expr.{Expr, the_lemmas}
use Rattle.pl_tree.specs.declared.tree.Expr.TheVariants as e
use Rattle.pl_tree.specs.declared.tree.Factor.{Factor}
use Rattle.pl_tree.specs.declared.tree.From.{From}
use Rattle.pl_tree.specs.declared.tree.From.TheVariants as f
use Rattle.pl_tree.specs.declared.tree.Item.TheVariants as i
use Rattle.pl_tree.specs.declared.tree.Join.{Join}
use Rattle.pl_tree.specs.declared.tree.Key.{Key}
use Rattle.pl_tree.specs.declared.tree.Literal.{Literal}
use Rattle.pl_tree.specs.declared.tree.Pick.{Pick}
use Rattle.pl_tree.specs.declared.tree.Query.{Query, out-Query}
use Rattle.pl_tree.specs.declared.tree.Sign.{Sign}
use Rattle.pl_tree.specs.declared.tree.Term.{Term}

pub part_literal : (x : Literal) → part (e.Literal x) ≡ expr_step (l.Literal x)
unfolding part
part_literal x = first_of (search (rules, the_lemmas), grind (arith, the_lemmas))

pub part_parameter : (n : ℕ) → part (e.Parameter n) ≡ expr_step (l.Parameter n)
unfolding part
part_parameter n = first_of (search (rules, the_lemmas), grind (arith, the_lemmas))

pub part_name : (x : Name) → part (e.Name x) ≡ expr_step (l.Name x)
unfolding part
part_name x = first_of (search (rules, the_lemmas), grind (arith, the_lemmas))

pub part_qualified : (q x : Name) → part (e.Qualified q x) ≡ expr_step (l.Qualified q x)
unfolding part
part_qualified q x = first_of (search (rules, the_lemmas), grind (arith, the_lemmas))

pub part_call : (g : Name) (xs : List Argument) → part (e.Call g xs) ≡ expr_step (l.Call g (map argument_part xs))
unfolding part argument_part
part_call g xs = first_of (search (rules, the_lemmas), grind (arith, the_lemmas))

pub part_count_rows : part (e.CountRows) ≡ expr_step (l.CountRows)
unfolding part
part_count_rows = first_of (search (rules, the_lemmas), grind (arith, the_lemmas))

pub part_subquery : (q : Query) → part (e.Subquery q) ≡ expr_step (l.Expr::Subquery (query_part q))
unfolding part query_part
part_subquery q = first_of (search (rules, the_lemmas), grind (arith, the_lemmas))

pub part_exists : (q : Query) → part (e.Exists q) ≡ expr_step (l.Exists (query_part q))
unfolding part query_part
part_exists q = first_of (search (rules, the_lemmas), grind (arith, the_lemmas))

pub part_pick : (k : Pick) (xs : List Expr) → part (e.Pick k xs) ≡ expr_step (l.Pick k (map part xs))
unfolding part
part_pick k xs = first_of (search (rules, the_lemmas), grind (arith, the_lemmas))

pub part_null_if : (x y : Expr) → part (e.NullIf x y) ≡ expr_step (l.NullIf (part x) (part y))
unfolding part
part_null_if x y = first_of (search (rules, the_lemmas), grind (arith, the_lemmas))

pub part_row : (xs : List Expr) → part (e.Row xs) ≡ expr_step (l.Row (map part xs))
unfolding part
part_row xs = first_of (search (rules, the_lemmas), grind (arith, the_lemmas))

pub part_case : (x : Option Expr) (arms : List Arm) (y : Option Expr) → part (e.Case x arms y) ≡ expr_step (l.Case (option_map part x) (map arm_part arms) (option_map part y))
unfolding part arm_part
part_case x arms y = first_of (search (rules, the_lemmas), grind (arith, the_lemmas))

pub part_cast : (x : Expr) (ts : List Ty) → part (e.Cast x ts) ≡ expr_step (l.Cast (part x) ts)
unfolding part
part_cast x ts = first_of (search (rules, the_lemmas), grind (arith, the_lemmas))

pub part_signed : (ss : List Sign) (x : Expr) → part (e.Signed ss x) ≡ expr_step (l.Signed ss (part x))
unfolding part
part_signed ss x = first_of (search (rules, the_lemmas), grind (arith, the_lemmas))

pub part_product : (x : Expr) (fs : List Factor) → part (e.Product x fs) ≡ expr_step (l.Product (part x) (map factor_part fs))
unfolding part factor_part
part_product x fs = first_of (search (rules, the_lemmas), grind (arith, the_lemmas))

pub part_sum : (x : Expr) (ts : List Term) → part (e.Sum x ts) ≡ expr_step (l.Sum (part x) (map term_part ts))
unfolding part term_part
part_sum x ts = first_of (search (rules, the_lemmas), grind (arith, the_lemmas))

pub part_concat : (xs : List Expr) → part (e.Concat xs) ≡ expr_step (l.Concat (map part xs))
unfolding part
part_concat xs = first_of (search (rules, the_lemmas), grind (arith, the_lemmas))

pub part_between : (b : Bool) (x y z : Expr) → part (e.Between b x y z) ≡ expr_step (l.Between b (part x) (part y) (part z))
unfolding part
part_between b x y z = first_of (search (rules, the_lemmas), grind (arith, the_lemmas))

pub part_in_list : (b : Bool) (x : Expr) (xs : List Expr) → part (e.InList b x xs) ≡ expr_step (l.InList b (part x) (map part xs))
unfolding part
part_in_list b x xs = first_of (search (rules, the_lemmas), grind (arith, the_lemmas))

pub part_in_query : (b : Bool) (x : Expr) (q : Query) → part (e.InQuery b x q) ≡ expr_step (l.InQuery b (part x) (query_part q))
unfolding part query_part
part_in_query b x q = first_of (search (rules, the_lemmas), grind (arith, the_lemmas))

pub part_like : (b : Bool) (x y : Expr) → part (e.Like b x y) ≡ expr_step (l.Like b (part x) (part y))
unfolding part
part_like b x y = first_of (search (rules, the_lemmas), grind (arith, the_lemmas))

pub part_compare : (op : Comparison) (x y : Expr) → part (e.Compare op x y) ≡ expr_step (l.Compare op (part x) (part y))
unfolding part
part_compare op x y = first_of (search (rules, the_lemmas), grind (arith, the_lemmas))

pub part_is : (b : Bool) (x : Expr) (t : Test) → part (e.Is b x t) ≡ expr_step (l.Is b (part x) t)
unfolding part
part_is b x t = first_of (search (rules, the_lemmas), grind (arith, the_lemmas))

pub part_is_distinct : (b : Bool) (x y : Expr) → part (e.IsDistinct b x y) ≡ expr_step (l.IsDistinct b (part x) (part y))
unfolding part
part_is_distinct b x y = first_of (search (rules, the_lemmas), grind (arith, the_lemmas))

pub part_not : (n : ℕ) (x : Expr) → part (e.Not n x) ≡ expr_step (l.Not n (part x))
unfolding part
part_not n x = first_of (search (rules, the_lemmas), grind (arith, the_lemmas))

pub part_and : (xs : List Expr) → part (e.And xs) ≡ expr_step (l.And (map part xs))
unfolding part
part_and xs = first_of (search (rules, the_lemmas), grind (arith, the_lemmas))

pub part_or : (xs : List Expr) → part (e.Or xs) ≡ expr_step (l.Or (map part xs))
unfolding part
part_or xs = first_of (search (rules, the_lemmas), grind (arith, the_lemmas))

pub argument_value : (x : Expr) → argument_part (a.Value x) ≡ (part x).means
unfolding argument_part part
argument_value x = first_of (search (rules, the_lemmas), grind (arith, the_lemmas))

pub argument_named : (x : Expr) → argument_part (a.FatalErrors x) ≡ named_argument (part x)
unfolding argument_part part
argument_named x = first_of (search (rules, the_lemmas), grind (arith, the_lemmas))

pub from_table : (x : Name) (y : Option Name) → from_part (f.Table x y) ≡ table_from x y
unfolding from_part
from_table x y = first_of (search (rules, the_lemmas), grind (arith, the_lemmas))

pub from_function : (x : Name) (xs : List Argument) (y : Option Name) → from_part (f.Function x xs y) ≡ function_from x (map argument_part xs) y
unfolding from_part argument_part
from_function x xs y = first_of (search (rules, the_lemmas), grind (arith, the_lemmas))

pub from_query : (q : Query) (y : Option Name) → from_part (f.Subquery q y) ≡ query_from (query_part q) y
unfolding from_part query_part
from_query q y = first_of (search (rules, the_lemmas), grind (arith, the_lemmas))

pub from_joined_raw : (x : From) (js : List Join) → from_part (f.Joined x js) ≡ joined_from (from_part x) (map join_part js)
unfolding from_part join_part
from_joined_raw x js = first_of (search (rules, the_lemmas), grind (arith, the_lemmas))

pub item_value : (x : Expr) (y : Option Name) → item_part (i.Value x y) ≡ value_item (part x) y
unfolding item_part part
item_value x y = first_of (search (rules, the_lemmas), grind (arith, the_lemmas))

pub item_all : item_part (i.All) ≡ every_item
unfolding item_part
item_all = first_of (search (rules, the_lemmas), grind (arith, the_lemmas))

pub item_all_of : (x : Name) → item_part (i.AllOf x) ≡ items_of x
unfolding item_part
item_all_of x = first_of (search (rules, the_lemmas), grind (arith, the_lemmas))

pub arm_part_is : (x : Arm) → arm_part x ≡ arm_view x
unfolding arm_part part
arm_part_is x = first_of (search (rules, the_lemmas), grind (arith, the_lemmas))

map_arm : (xs : List Arm) → map arm_part xs ≡ map arm_view xs
map_arm [] = refl
map_arm (x ∷ xs) = cc (arm_part_is x, map_arm xs)

pub factor_part_is : (x : Factor) → factor_part x ≡ factor_view x
unfolding factor_part part
factor_part_is x = first_of (search (rules, the_lemmas), grind (arith, the_lemmas))

map_factor : (xs : List Factor) → map factor_part xs ≡ map factor_view xs
map_factor [] = refl
map_factor (x ∷ xs) = cc (factor_part_is x, map_factor xs)

pub term_part_is : (x : Term) → term_part x ≡ term_view x
unfolding term_part part
term_part_is x = first_of (search (rules, the_lemmas), grind (arith, the_lemmas))

map_term : (xs : List Term) → map term_part xs ≡ map term_view xs
map_term [] = refl
map_term (x ∷ xs) = cc (term_part_is x, map_term xs)

pub join_part_is : (x : Join) → join_part x ≡ join_view x
unfolding join_part part from_part
join_part_is x = first_of (search (rules, the_lemmas), grind (arith, the_lemmas))

map_join : (xs : List Join) → map join_part xs ≡ map join_view xs
map_join [] = refl
map_join (x ∷ xs) = cc (join_part_is x, map_join xs)

pub key_part_is : (x : Key) → key_part x ≡ key_view x
unfolding key_part part
key_part_is x = first_of (search (rules, the_lemmas), grind (arith, the_lemmas))

map_key : (xs : List Key) → map key_part xs ≡ map key_view xs
map_key [] = refl
map_key (x ∷ xs) = cc (key_part_is x, map_key xs)

pub part_sum_view : (x : Expr) (ts : List Term) → part (e.Sum x ts) ≡ expr_step (l.Sum (part x) (map term_view ts))
part_sum_view x ts = part_sum x ts ∙ ap (λ (ss : List StepPart). expr_step (l.Sum (part x) ss)) (map_term ts)

pub part_product_view : (x : Expr) (ts : List Factor) → part (e.Product x ts) ≡ expr_step (l.Product (part x) (map factor_view ts))
part_product_view x ts = part_product x ts ∙ ap (λ (ss : List StepPart). expr_step (l.Product (part x) ss)) (map_factor ts)

pub part_case_view : (x : Option Expr) (arms : List Arm) (y : Option Expr) → part (e.Case x arms y) ≡ expr_step (l.Case (option_map part x) (map arm_view arms) (option_map part y))
part_case_view x arms y = part_case x arms y ∙ ap (λ (ss : List ArmPart). expr_step (l.Case (option_map part x) ss (option_map part y))) (map_arm arms)

pub from_joined : (x : From) (js : List Join) → from_part (f.Joined x js) ≡ joined_from (from_part x) (map join_view js)
from_joined x js = from_joined_raw x js ∙ ap (λ (ss : List JoinPart). joined_from (from_part x) ss) (map_join js)

abbrev parts_of : Query → List KeyPart → QueryParts
parts_of q keys = record {
  is_distinct = (out-Query q).is_distinct;
  items = map item_part (out-Query q).items;
  from = map from_part (out-Query q).from;
  condition = option_map part (out-Query q).condition;
  groups = map part (out-Query q).groups;
  having = option_map part (out-Query q).having;
  order = keys;
  limit = option_map part (out-Query q).limit;
  offset = option_map part (out-Query q).offset;
}

query_raw : (q : Query) → query_part q ≡ query_by (parts_of q (map key_part (out-Query q).order))
unfolding query_part from_part item_part part key_part
query_raw q = first_of (search (rules, the_lemmas), grind (arith, the_lemmas))

pub query_out : (q : Query) → query_part q ≡ query_by (query_view q)
query_out q = query_raw q ∙ ap (λ (ks : List KeyPart). query_by (parts_of q ks)) (map_key (out-Query q).order)

pub ruleset equations = (part_literal, part_parameter, part_name, part_qualified, part_call, part_count_rows, part_subquery, part_exists, part_pick, part_null_if, part_row, part_cast, part_signed, part_concat, part_between, part_in_list, part_in_query, part_like, part_compare, part_is, part_is_distinct, part_not, part_and, part_or, part_sum_view, part_product_view, part_case_view)

pub ruleset argument_equations = (argument_value, argument_named)
