-- One equation for each kind of node: whether a node has what is sought, from its parts.
use Rattle.std.proofs.Common.{◌≡◌, ◌∙◌, ap, refl, ℕ, Bool, false, List, [], ◌∷◌, Option, map, rules, arith}
use Rattle.std.specs.Option.{option_map}
use Rattle.pl_base.specs.declared.operator.Comparison.{Comparison}
use Rattle.pl_base.specs.declared.operator.Test.{Test}
use Rattle.pl_base.specs.declared.types.Ty.{Ty}
use Rattle.pl_mentions.specs.Mentions.{argument_mentions, arm_mentions, arm_step, argument_step, expr_step, factor_mentions, factor_step, mentions, passed_over, term_mentions, term_step}
use Rattle.pl_mentions.specs.declared.sought.Sought.{Sought}
use Rattle.pl_tree.specs.declared.tree.Argument.TheOpen as l
use Rattle.pl_tree.specs.declared.tree.Argument.{Argument}
use Rattle.pl_tree.specs.declared.tree.Argument.TheVariants as a
use Rattle.pl_tree.specs.declared.tree.Arm.{Arm, fold-Arm}
use Rattle.pl_tree.specs.declared.tree.Expr.{Expr, the_lemmas}
use Rattle.pl_tree.specs.declared.tree.Expr.TheVariants as e
use Rattle.pl_tree.specs.declared.tree.Factor.{Factor, fold-Factor}
use Rattle.pl_tree.specs.declared.tree.Literal.{Literal}
use Rattle.pl_tree.specs.declared.tree.Pick.{Pick}
use Rattle.pl_tree.specs.declared.tree.Query.{Query}
use Rattle.pl_tree.specs.declared.tree.Sign.{Sign}
use Rattle.pl_tree.specs.declared.tree.Term.{Term, fold-Term}

unfoldable arm_raw : Sought → Arm → Bool
arm_raw s = fold-Arm Bool Bool Bool Bool Bool Bool Bool Bool Bool Bool
    argument_step (expr_step s) passed_over passed_over arm_step factor_step passed_over passed_over passed_over term_step

arm_out : (s : Sought) (x : Arm) → arm_raw s x ≡ arm_mentions s x
unfolding arm_raw mentions
arm_out s x = first_of (search (rules, the_lemmas), grind (arith, the_lemmas))

map_arm : (s : Sought) (xs : List Arm) → map (arm_raw s) xs ≡ map (arm_mentions s) xs
map_arm s [] = refl
map_arm s (x ∷ xs) = cc (arm_out s x, map_arm s xs)

unfoldable factor_raw : Sought → Factor → Bool
factor_raw s = fold-Factor Bool Bool Bool Bool Bool Bool Bool Bool Bool Bool
    argument_step (expr_step s) passed_over passed_over arm_step factor_step passed_over passed_over passed_over term_step

factor_out : (s : Sought) (x : Factor) → factor_raw s x ≡ factor_mentions s x
unfolding factor_raw mentions
factor_out s x = first_of (search (rules, the_lemmas), grind (arith, the_lemmas))

map_factor : (s : Sought) (xs : List Factor) → map (factor_raw s) xs ≡ map (factor_mentions s) xs
map_factor s [] = refl
map_factor s (x ∷ xs) = cc (factor_out s x, map_factor s xs)

unfoldable term_raw : Sought → Term → Bool
term_raw s = fold-Term Bool Bool Bool Bool Bool Bool Bool Bool Bool Bool
    argument_step (expr_step s) passed_over passed_over arm_step factor_step passed_over passed_over passed_over term_step

term_out : (s : Sought) (x : Term) → term_raw s x ≡ term_mentions s x
unfolding term_raw mentions
term_out s x = first_of (search (rules, the_lemmas), grind (arith, the_lemmas))

map_term : (s : Sought) (xs : List Term) → map (term_raw s) xs ≡ map (term_mentions s) xs
map_term s [] = refl
map_term s (x ∷ xs) = cc (term_out s x, map_term s xs)

pub has_literal : (s : Sought) (x : Literal) → mentions s (e.Literal x) ≡ expr_step s (l.Literal x)
unfolding mentions
has_literal s x = first_of (search (rules, the_lemmas), grind (arith, the_lemmas))

pub has_parameter : (s : Sought) (n : ℕ) → mentions s (e.Parameter n) ≡ expr_step s (l.Parameter n)
unfolding mentions
has_parameter s n = first_of (search (rules, the_lemmas), grind (arith, the_lemmas))

pub has_name : (s : Sought) (x : List ℕ) → mentions s (e.Name x) ≡ expr_step s (l.Name x)
unfolding mentions
has_name s x = first_of (search (rules, the_lemmas), grind (arith, the_lemmas))

pub has_qualified : (s : Sought) (q x : List ℕ) → mentions s (e.Qualified q x) ≡ expr_step s (l.Qualified q x)
unfolding mentions
has_qualified s q x = first_of (search (rules, the_lemmas), grind (arith, the_lemmas))

pub has_call : (s : Sought) (g : List ℕ) (xs : List Argument) → mentions s (e.Call g xs) ≡ expr_step s (l.Call g (map (argument_mentions s) xs))
unfolding mentions argument_mentions
has_call s g xs = first_of (search (rules, the_lemmas), grind (arith, the_lemmas))

pub has_count_rows : (s : Sought) → mentions s (e.CountRows) ≡ expr_step s (l.CountRows)
unfolding mentions
has_count_rows s = first_of (search (rules, the_lemmas), grind (arith, the_lemmas))

pub has_pick : (s : Sought) (k : Pick) (xs : List Expr) → mentions s (e.Pick k xs) ≡ expr_step s (l.Pick k (map (mentions s) xs))
unfolding mentions
has_pick s k xs = first_of (search (rules, the_lemmas), grind (arith, the_lemmas))

pub has_null_if : (s : Sought) (x y : Expr) → mentions s (e.NullIf x y) ≡ expr_step s (l.NullIf (mentions s x) (mentions s y))
unfolding mentions
has_null_if s x y = first_of (search (rules, the_lemmas), grind (arith, the_lemmas))

pub has_row : (s : Sought) (xs : List Expr) → mentions s (e.Row xs) ≡ expr_step s (l.Row (map (mentions s) xs))
unfolding mentions
has_row s xs = first_of (search (rules, the_lemmas), grind (arith, the_lemmas))

pub has_cast : (s : Sought) (x : Expr) (ts : List Ty) → mentions s (e.Cast x ts) ≡ expr_step s (l.Cast (mentions s x) ts)
unfolding mentions
has_cast s x ts = first_of (search (rules, the_lemmas), grind (arith, the_lemmas))

pub has_signed : (s : Sought) (ss : List Sign) (x : Expr) → mentions s (e.Signed ss x) ≡ expr_step s (l.Signed ss (mentions s x))
unfolding mentions
has_signed s ss x = first_of (search (rules, the_lemmas), grind (arith, the_lemmas))

pub has_concat : (s : Sought) (xs : List Expr) → mentions s (e.Concat xs) ≡ expr_step s (l.Concat (map (mentions s) xs))
unfolding mentions
has_concat s xs = first_of (search (rules, the_lemmas), grind (arith, the_lemmas))

pub has_between : (s : Sought) (b : Bool) (x y z : Expr) → mentions s (e.Between b x y z) ≡ expr_step s (l.Between b (mentions s x) (mentions s y) (mentions s z))
unfolding mentions
has_between s b x y z = first_of (search (rules, the_lemmas), grind (arith, the_lemmas))

pub has_in_list : (s : Sought) (b : Bool) (x : Expr) (xs : List Expr) → mentions s (e.InList b x xs) ≡ expr_step s (l.InList b (mentions s x) (map (mentions s) xs))
unfolding mentions
has_in_list s b x xs = first_of (search (rules, the_lemmas), grind (arith, the_lemmas))

pub has_like : (s : Sought) (b : Bool) (x y : Expr) → mentions s (e.Like b x y) ≡ expr_step s (l.Like b (mentions s x) (mentions s y))
unfolding mentions
has_like s b x y = first_of (search (rules, the_lemmas), grind (arith, the_lemmas))

pub has_compare : (s : Sought) (op : Comparison) (x y : Expr) → mentions s (e.Compare op x y) ≡ expr_step s (l.Compare op (mentions s x) (mentions s y))
unfolding mentions
has_compare s op x y = first_of (search (rules, the_lemmas), grind (arith, the_lemmas))

pub has_is : (s : Sought) (b : Bool) (x : Expr) (test : Test) → mentions s (e.Is b x test) ≡ expr_step s (l.Is b (mentions s x) test)
unfolding mentions
has_is s b x test = first_of (search (rules, the_lemmas), grind (arith, the_lemmas))

pub has_is_distinct : (s : Sought) (b : Bool) (x y : Expr) → mentions s (e.IsDistinct b x y) ≡ expr_step s (l.IsDistinct b (mentions s x) (mentions s y))
unfolding mentions
has_is_distinct s b x y = first_of (search (rules, the_lemmas), grind (arith, the_lemmas))

pub has_not : (s : Sought) (n : ℕ) (x : Expr) → mentions s (e.Not n x) ≡ expr_step s (l.Not n (mentions s x))
unfolding mentions
has_not s n x = first_of (search (rules, the_lemmas), grind (arith, the_lemmas))

pub has_and : (s : Sought) (xs : List Expr) → mentions s (e.And xs) ≡ expr_step s (l.And (map (mentions s) xs))
unfolding mentions
has_and s xs = first_of (search (rules, the_lemmas), grind (arith, the_lemmas))

pub has_or : (s : Sought) (xs : List Expr) → mentions s (e.Or xs) ≡ expr_step s (l.Or (map (mentions s) xs))
unfolding mentions
has_or s xs = first_of (search (rules, the_lemmas), grind (arith, the_lemmas))

-- a query is one part
pub has_subquery : (s : Sought) (q : Query) → mentions s (e.Subquery q) ≡ expr_step s (l.Expr::Subquery false)
unfolding mentions
has_subquery s q = first_of (search (rules, the_lemmas), grind (arith, the_lemmas))

pub has_exists : (s : Sought) (q : Query) → mentions s (e.Exists q) ≡ expr_step s (l.Exists false)
unfolding mentions
has_exists s q = first_of (search (rules, the_lemmas), grind (arith, the_lemmas))

pub has_in_query : (s : Sought) (b : Bool) (x : Expr) (q : Query) → mentions s (e.InQuery b x q) ≡ expr_step s (l.InQuery b (mentions s x) false)
unfolding mentions
has_in_query s b x q = first_of (search (rules, the_lemmas), grind (arith, the_lemmas))

case_node : (s : Sought) (x : Option Expr) (arms : List Arm) (y : Option Expr) → mentions s (e.Case x arms y) ≡ expr_step s (l.Case (option_map (mentions s) x) (map (arm_raw s) arms) (option_map (mentions s) y))
unfolding mentions arm_raw
case_node s x arms y = first_of (search (rules, the_lemmas), grind (arith, the_lemmas))

pub has_case : (s : Sought) (x : Option Expr) (arms : List Arm) (y : Option Expr) → mentions s (e.Case x arms y) ≡ expr_step s (l.Case (option_map (mentions s) x) (map (arm_mentions s) arms) (option_map (mentions s) y))
has_case s x arms y = case_node s x arms y ∙ ap (λ (bs : List Bool). expr_step s (l.Case (option_map (mentions s) x) bs (option_map (mentions s) y))) (map_arm s arms)

product_node : (s : Sought) (x : Expr) (fs : List Factor) → mentions s (e.Product x fs) ≡ expr_step s (l.Product (mentions s x) (map (factor_raw s) fs))
unfolding mentions factor_raw
product_node s x fs = first_of (search (rules, the_lemmas), grind (arith, the_lemmas))

pub has_product : (s : Sought) (x : Expr) (fs : List Factor) → mentions s (e.Product x fs) ≡ expr_step s (l.Product (mentions s x) (map (factor_mentions s) fs))
has_product s x fs = product_node s x fs ∙ ap (λ (bs : List Bool). expr_step s (l.Product (mentions s x) bs)) (map_factor s fs)

sum_node : (s : Sought) (x : Expr) (ts : List Term) → mentions s (e.Sum x ts) ≡ expr_step s (l.Sum (mentions s x) (map (term_raw s) ts))
unfolding mentions term_raw
sum_node s x ts = first_of (search (rules, the_lemmas), grind (arith, the_lemmas))

pub has_sum : (s : Sought) (x : Expr) (ts : List Term) → mentions s (e.Sum x ts) ≡ expr_step s (l.Sum (mentions s x) (map (term_mentions s) ts))
has_sum s x ts = sum_node s x ts ∙ ap (λ (bs : List Bool). expr_step s (l.Sum (mentions s x) bs)) (map_term s ts)

pub argument_value : (s : Sought) (x : Expr) → argument_mentions s (a.Value x) ≡ mentions s x
unfolding mentions argument_mentions
argument_value s x = first_of (search (rules, the_lemmas), grind (arith, the_lemmas))

pub argument_fatal : (s : Sought) (x : Expr) → argument_mentions s (a.FatalErrors x) ≡ mentions s x
unfolding mentions argument_mentions
argument_fatal s x = first_of (search (rules, the_lemmas), grind (arith, the_lemmas))

pub ruleset equations = (has_literal, has_parameter, has_name, has_qualified, has_call, has_count_rows, has_pick, has_null_if, has_row, has_cast, has_signed, has_concat, has_between, has_in_list, has_like, has_compare, has_is, has_is_distinct, has_not, has_and, has_or, has_subquery, has_exists, has_in_query, has_case, has_product, has_sum, argument_value, argument_fatal)
