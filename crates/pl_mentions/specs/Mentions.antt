-- Whether an expression names a column, a variable or a query, by its tree alone. A query inside is
-- one part: what stands in it isn't looked at.
use Rattle.std.specs.Prelude.{ℕ, Bool, true, false, ◌&&◌, ◌||◌, bytes_eq, List, [], ◌∷◌}
use Rattle.std.specs.Prelude.{Option, Some, None}
use Rattle.pl_mentions.specs.declared.sought.Sought.{Sought}
use Rattle.pl_mentions.specs.declared.sought.Sought.TheVariants.{Query as AnyQuery, NameOrQuery, Column}
use Rattle.pl_tree.specs.Layers.{ArgumentLayer, ExprLayer, ArmLayer, FactorLayer}
use Rattle.pl_tree.specs.Layers.{TermLayer}
use Rattle.pl_tree.specs.declared.tree.Argument.TheOpen as l
use Rattle.pl_tree.specs.declared.tree.Argument.{Argument, fold-Argument}
use Rattle.pl_tree.specs.declared.tree.Arm.{Arm, out-Arm}
use Rattle.pl_tree.specs.declared.tree.Expr.{Expr, fold-Expr}
use Rattle.pl_tree.specs.declared.tree.Factor.{Factor, out-Factor}
use Rattle.pl_tree.specs.declared.tree.Term.{Term, out-Term}

abbrev pub Kinds : Type 1
Kinds = Type 0 → Type 0 → Type 0 → Type 0 → Type 0 → Type 0 → Type 0 → Type 0 → Type 0 → Type 0
    → Type 0

-- one level of a tree, where of each part it is known whether it has what is sought
abbrev pub Over : Kinds → Type 0
Over F = F Bool Bool Bool Bool Bool Bool Bool Bool Bool Bool

-- ---- what is sought

abbrev pub is_name : Sought → List ℕ → Bool
is_name AnyQuery name = false
is_name NameOrQuery name = true
is_name (Column table column) name = bytes_eq column name

abbrev pub is_qualified : Sought → List ℕ → List ℕ → Bool
is_qualified AnyQuery qualifier name = false
is_qualified NameOrQuery qualifier name = true
is_qualified (Column table column) qualifier name =
    bytes_eq table qualifier && bytes_eq column name

abbrev pub is_query : Sought → Bool
is_query AnyQuery = true
is_query NameOrQuery = true
is_query (Column table column) = false

-- ---- one level of an expression

abbrev pub one_of : List Bool → Bool
one_of [] = false
one_of (b ∷ bs) = b || one_of bs

abbrev pub if_there : Option Bool → Bool
if_there (Some b) = b
if_there None = false

abbrev pub expr_step : Sought → Over ExprLayer → Bool
expr_step s (l.Literal x) = false
expr_step s (l.Parameter n) = false
expr_step s (l.Name x) = is_name s x
expr_step s (l.Qualified q x) = is_qualified s q x
expr_step s (l.Call x arguments) = one_of arguments
expr_step s l.CountRows = false
expr_step s (l.Expr::Subquery query) = is_query s
expr_step s (l.Exists query) = is_query s
expr_step s (l.Pick pick list) = one_of list
expr_step s (l.NullIf x y) = x || y
expr_step s (l.Row list) = one_of list
expr_step s (l.Case operand arms otherwise) =
    if_there operand || (one_of arms || if_there otherwise)
expr_step s (l.Cast x types) = x
expr_step s (l.Signed signs x) = x
expr_step s (l.Product first factors) = first || one_of factors
expr_step s (l.Sum first terms) = first || one_of terms
expr_step s (l.Concat list) = one_of list
expr_step s (l.Between is_negated x low high) = x || (low || high)
expr_step s (l.InList is_negated operand list) = operand || one_of list
expr_step s (l.InQuery is_negated operand query) = operand || is_query s
expr_step s (l.Like is_negated x pattern) = x || pattern
expr_step s (l.Compare op x y) = x || y
expr_step s (l.Is is_negated x test) = x
expr_step s (l.IsDistinct is_negated x y) = x || y
expr_step s (l.Not n x) = x
expr_step s (l.And list) = one_of list
expr_step s (l.Or list) = one_of list

abbrev pub argument_step : Over ArgumentLayer → Bool
argument_step (l.Argument::Value x) = x
argument_step (l.FatalErrors x) = x

abbrev pub arm_step : Over ArmLayer → Bool
arm_step layer = layer.when || layer.«then»

abbrev pub factor_step : Over FactorLayer → Bool
factor_step layer = layer.operand

abbrev pub term_step : Over TermLayer → Bool
term_step layer = layer.operand

-- the parts of a query aren't looked at
abbrev pub passed_over : {Layer : Type 0} → Layer → Bool
passed_over layer = false

-- ---- whole trees

-- the expression has a part of what is sought
unfoldable pub mentions : Sought → Expr → Bool
mentions s = fold-Expr Bool Bool Bool Bool Bool Bool Bool Bool Bool Bool
    argument_step (expr_step s) passed_over passed_over arm_step factor_step passed_over passed_over
    passed_over term_step

unfoldable pub argument_mentions : Sought → Argument → Bool
argument_mentions s = fold-Argument Bool Bool Bool Bool Bool Bool Bool Bool Bool Bool
    argument_step (expr_step s) passed_over passed_over arm_step factor_step passed_over passed_over
    passed_over term_step

abbrev pub arm_mentions : Sought → Arm → Bool
arm_mentions s x = mentions s (out-Arm x).when || mentions s (out-Arm x).«then»

abbrev pub factor_mentions : Sought → Factor → Bool
factor_mentions s x = mentions s (out-Factor x).operand

abbrev pub term_mentions : Sought → Term → Bool
term_mentions s x = mentions s (out-Term x).operand
