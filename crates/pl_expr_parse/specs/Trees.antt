-- What a rule makes of the parts that it reads.
use Rattle.std.specs.Prelude.{◌==◌, slice_get, take, ◌-◌, ℕ, zero, suc, Bool, true, false, ◌&&◌, ◌||◌, if◌then◌else◌, codes, List, [], ◌∷◌, Option, Some, None, length}
use Rattle.pl_base.specs.declared.operator.Arithmetic.{Arithmetic}
use Rattle.pl_base.specs.declared.operator.Comparison.{Comparison as Compared}
use Rattle.pl_base.specs.declared.types.Ty.{Ty}
use Rattle.pl_base.specs.declared.types.Ty.TheVariants as t
use Rattle.pl_tree.specs.declared.tree.Sign.{Sign}
use Rattle.pl_tree.specs.declared.tree.Sign.TheVariants as sg
use Rattle.pl_tree.specs.declared.tree.Literal.TheVariants as l
use Rattle.pl_tree.specs.declared.tree.Expr.{Expr}
use Rattle.pl_tree.specs.declared.tree.Expr.TheVariants as e
use Rattle.pl_tree.specs.declared.tree.Argument.{Argument}
use Rattle.pl_tree.specs.declared.tree.Argument.TheVariants as a
use Rattle.pl_tree.specs.declared.tree.Arm.{Arm, roll-Arm}
use Rattle.pl_tree.specs.declared.tree.Factor.{Factor, roll-Factor}
use Rattle.pl_tree.specs.declared.tree.Term.{Term, roll-Term}
use Rattle.pl_tree.specs.declared.tree.Query.{Query, roll-Query}
use Rattle.pl_tree.specs.declared.tree.Item.{Item}
use Rattle.pl_tree.specs.declared.tree.Nulls.{Nulls}
use Rattle.pl_tree.specs.declared.tree.Key.{Key, roll-Key}
use Rattle.pl_tree.specs.declared.tree.From.{From}
use Rattle.pl_tree.specs.declared.tree.From.TheVariants as f
use Rattle.pl_tree.specs.declared.tree.JoinKind.{JoinKind}
use Rattle.pl_tree.specs.declared.tree.Join.{Join, roll-Join}
use Rattle.pl_expr_parse.specs.declared.parts.Range.{Range}
use Rattle.pl_expr_parse.specs.declared.parts.Range.TheVariants as r
use Rattle.pl_expr_parse.specs.declared.parts.Question.{Question}
use Rattle.pl_expr_parse.specs.declared.parts.Question.TheVariants as q
use Rattle.pl_expr_parse.specs.declared.parts.Suffix.{Suffix}
use Rattle.pl_expr_parse.specs.declared.parts.Suffix.TheVariants as suf
pub use Rattle.pl_grammar.specs.Marks.{same_text}

-- ---- types

abbrev pub one_of : List (List ℕ) → List ℕ → Bool
one_of [] name = false
one_of (n ∷ ns) name = same_text name n || one_of ns name

-- the server's own names of types. Any other is that of a row type.
abbrev pub catalogued : List ℕ → Ty
catalogued name =
    if same_text name (codes "int4") then t.Int else (
    if same_text name (codes "int8") then t.Big else (
    if same_text name (codes "text") then t.Text else (
    if same_text name (codes "bool") then t.Bool else (
    if same_text name (codes "record") then t.Rec else (
    if same_text name (codes "void") then t.Void else (
    if same_text name (codes "trigger") then t.Trigger else t.Row name))))))

-- SQL has words for some types, which are no names of types in quotes
abbrev pub type_of : Bool → List ℕ → Ty
type_of true name = catalogued name
type_of false name =
    if one_of (codes "integer" ∷ codes "int" ∷ []) name then t.Int else (
    if same_text name (codes "bigint") then t.Big else (
    if same_text name (codes "boolean") then t.Bool else catalogued name))

-- ---- a chain with one part is the part

abbrev pub product_of : Expr → List Factor → Expr
product_of x [] = x
product_of x (y ∷ ys) = e.Product x (y ∷ ys)

abbrev pub factor_of : Arithmetic → Expr → Factor
factor_of operator operand = roll-Factor (record { operator = operator; operand = operand })

abbrev pub sum_of : Expr → List Term → Expr
sum_of x [] = x
sum_of x (y ∷ ys) = e.Sum x (y ∷ ys)

abbrev pub term_of : Arithmetic → Expr → Term
term_of operator operand = roll-Term (record { operator = operator; operand = operand })

abbrev pub concatenation_of : Expr → List Expr → Expr
concatenation_of x [] = x
concatenation_of x (y ∷ ys) = e.Concat (x ∷ y ∷ ys)

abbrev pub conjunction_of : Expr → List Expr → Expr
conjunction_of x [] = x
conjunction_of x (y ∷ ys) = e.And (x ∷ y ∷ ys)

abbrev pub disjunction_of : Expr → List Expr → Expr
disjunction_of x [] = x
disjunction_of x (y ∷ ys) = e.Or (x ∷ y ∷ ys)

abbrev pub conversion_of : Expr → List Ty → Expr
conversion_of x [] = x
conversion_of x (y ∷ ys) = e.Cast x (y ∷ ys)

abbrev pub negation_of : ℕ → Expr → Expr
negation_of zero x = x
negation_of (suc n) x = e.Not (suc n) x

-- ---- signs

abbrev pub is_minus : Sign → Bool
is_minus sg.Plus = false
is_minus sg.Minus = true

abbrev pub minus_there : Option Sign → Bool
minus_there None = false
minus_there (Some s) = is_minus s

abbrev pub last_is_minus : List Sign → Bool
last_is_minus ss = minus_there (slice_get ss (length ss - 1))

abbrev pub but_last : List Sign → List Sign
but_last ss = take (length ss - 1) ss

abbrev pub without_minus : List Sign → List Sign
without_minus ss = if last_is_minus ss then but_last ss else ss

abbrev pub with_signs : List Sign → Expr → Expr
with_signs [] x = x
with_signs (s ∷ ss) x = e.Signed (s ∷ ss) x

-- a minus directly before a number makes one literal of the two
abbrev pub signed_of : List Sign → Expr → Expr
signed_of ss (e.Literal (l.Number false n)) = with_signs (without_minus ss) (e.Literal (l.Number (last_is_minus ss) n))
signed_of ss x = with_signs ss x

-- ---- levels 7 to 9

abbrev pub between_of : Expr → Bool → Expr → Expr → Expr
between_of x not low high = e.Between not x low high

-- NOT alone is no range
abbrev pub range_of : Expr → Bool → Option Range → Option Expr
range_of x false None = Some x
range_of x true None = None
range_of x not (Some (r.Between low high)) = Some (between_of x not low high)
range_of x not (Some (r.Like pattern)) = Some (e.Like not x pattern)
range_of x not (Some (r.InList list)) = Some (e.InList not x list)
range_of x not (Some (r.InQuery query)) = Some (e.InQuery not x query)

abbrev pub comparison_of : Expr → Option (Compared × Expr) → Expr
comparison_of x None = x
comparison_of x (Some p) = e.Compare p.0 x p.1

abbrev pub asked : Expr → Bool → Question → Expr
asked x not (q.Is t) = e.Is not x t
asked x not (q.DistinctFrom y) = e.IsDistinct not x y

abbrev pub test_of : Expr → Option (Bool × Question) → Expr
test_of x None = x
test_of x (Some p) = asked x p.0 p.1

abbrev pub null_if_of : Expr → Expr → Expr
null_if_of x y = e.NullIf x y

-- ---- names and calls

abbrev pub is_value : Argument → Bool
is_value (a.Value x) = true
is_value (a.FatalErrors x) = false

-- each is a value, but the last may be named where that is allowed
abbrev pub well_called : Bool → List Argument → Bool
well_called may_name [] = true
well_called may_name (x ∷ xs) = if is_value x then well_called may_name xs else may_name && length xs == 0

abbrev pub checks : List ℕ → Bool
checks name = same_text name (codes "plpgsql_check_function")

abbrev pub named_of : List ℕ → Suffix → Option Expr
named_of n suf.Nothing = Some (e.Name n)
named_of n (suf.Column m) = Some (e.Qualified n m)
named_of n suf.AllRows = if same_text n (codes "count") then Some e.CountRows else None
named_of n (suf.Call args) = if well_called (checks n) args then Some (e.Call n args) else None

-- ---- CASE

abbrev pub arm_of : Expr → Expr → Arm
arm_of condition value = roll-Arm (record { when = condition; «then» = value })

-- ---- queries

abbrev pub key_of : Expr → Bool → Option Nulls → Key
key_of value is_descending nulls = roll-Key (record { value = value; is_descending = is_descending; nulls = nulls })

abbrev pub join_of : JoinKind → From → Option Expr → Join
join_of kind with condition = roll-Join (record { kind = kind; with = with; condition = condition })

abbrev pub joined_of : From → List Join → From
joined_of x [] = x
joined_of x (y ∷ ys) = f.Joined x (y ∷ ys)

-- the arguments of a function and its alias, or a table's alias
abbrev pub source_of : List ℕ → Option (List Argument) → Option (List ℕ) → Option From
source_of n None alias = Some (f.Table n alias)
source_of n (Some args) alias = if well_called (checks n) args then Some (f.Function n args alias) else None

abbrev pub query_of : Bool → List Item → List From → Option Expr → List Expr → Option Expr → List Key → Option Expr → Option Expr → Query
query_of is_distinct items from condition groups having order limit offset = roll-Query (record {
  is_distinct = is_distinct;
  items = items;
  from = from;
  condition = condition;
  groups = groups;
  having = having;
  order = order;
  limit = limit;
  offset = offset;
})
