-- What a rule makes of the parts that it reads.
use Rattle.std.specs.Prelude.{ℕ, Bool, true, false, if◌then◌else◌, codes, List, [], ◌∷◌, Option, Some, None, map}
use Rattle.pl_base.specs.declared.types.Ty.{Ty}
use Rattle.pl_base.specs.declared.types.Ty.TheVariants as t
use Rattle.pl_tree.specs.Layers.{ExprLayer}
use Rattle.pl_tree.specs.declared.tree.Argument.{Argument}
use Rattle.pl_tree.specs.declared.tree.Argument.TheOpen as l
use Rattle.pl_tree.specs.declared.tree.Argument.TheVariants as a
use Rattle.pl_tree.specs.declared.tree.Arm.{Arm}
use Rattle.pl_tree.specs.declared.tree.Expr.{Expr, out-Expr}
use Rattle.pl_tree.specs.declared.tree.Factor.{Factor}
use Rattle.pl_tree.specs.declared.tree.From.{From}
use Rattle.pl_tree.specs.declared.tree.Item.{Item}
use Rattle.pl_tree.specs.declared.tree.Join.{Join}
use Rattle.pl_tree.specs.declared.tree.Key.{Key}
use Rattle.pl_tree.specs.declared.tree.Query.{Query}
use Rattle.pl_tree.specs.declared.tree.Term.{Term}
use Rattle.pl_tree.specs.declared.command.Command.{Command}
use Rattle.pl_tree.specs.declared.command.Command.TheVariants as c
use Rattle.pl_bodies.specs.declared.declaration.CursorParameter.{CursorParameter}
use Rattle.pl_bodies.specs.declared.declaration.VariableType.{VariableType}
use Rattle.pl_bodies.specs.declared.declaration.VariableType.TheVariants as v
use Rattle.pl_bodies.specs.declared.simple.Change.{Change}
use Rattle.pl_bodies.specs.declared.simple.Change.TheVariants as ch
use Rattle.pl_bodies.specs.declared.simple.Dynamic.{Dynamic}
use Rattle.pl_bodies.specs.declared.simple.IntoClause.{IntoClause}
use Rattle.pl_bodies.specs.declared.simple.Level.{Level}
use Rattle.pl_bodies.specs.declared.simple.Raised.{Raised}
use Rattle.pl_bodies.specs.declared.simple.RaiseOption.{RaiseOption}
use Rattle.pl_bodies.specs.declared.simple.RaiseOptionKind.{RaiseOptionKind}
use Rattle.pl_bodies.specs.declared.simple.Simple.{Simple}
use Rattle.pl_bodies.specs.declared.simple.Simple.TheVariants as s
use Rattle.pl_bodies.specs.declared.simple.StackedItem.{StackedItem}
use Rattle.pl_bodies.specs.declared.simple.StackedTarget.{StackedTarget}
use Rattle.pl_bodies.specs.declared.simple.Target.{Target}
use Rattle.pl_bodies.specs.declared.statement.LoopHead.{LoopHead}
use Rattle.pl_bodies.specs.declared.statement.LoopHead.TheVariants as head
use Rattle.pl_expr_parse.specs.Trees.{query_of, type_of, same_text}
use Rattle.pl_body_grammar.specs.declared.parts.ForSource.{ForSource}
use Rattle.pl_body_grammar.specs.declared.parts.ForSource.TheVariants as source
use Rattle.pl_body_grammar.specs.declared.parts.TypeSuffix.{TypeSuffix}
use Rattle.pl_body_grammar.specs.declared.parts.TypeSuffix.TheVariants as suffix

-- ---- where values go

-- a name, and the one behind a point: then the first is the qualifier
abbrev pub target_of : List ℕ → Option (List ℕ) → Target
target_of n None = record { qualifier = None; name = n }
target_of n (Some m) = record { qualifier = Some n; name = m }

abbrev pub into_of : Bool → List Target → IntoClause
into_of is_strict targets = record { is_strict = is_strict; targets = targets }

abbrev pub stacked_of : Target → StackedItem → StackedTarget
stacked_of target item = record { target = target; item = item }

-- ---- queries and changes

-- what stands behind the items of a query
abbrev pub Tail : Type 0
Tail =
    List From × (Option Expr
    × (List Expr × (Option Expr × (List Key × (Option Expr × Option Expr)))))

abbrev pub with_tail : Bool → List Item → Tail → Query
with_tail is_distinct items t =
    query_of is_distinct items t.0 t.1.0 t.1.1.0 t.1.1.1.0 t.1.1.1.1.0 t.1.1.1.1.1.0 t.1.1.1.1.1.1

abbrev pub dynamic_of : Expr → List Expr → Dynamic
dynamic_of text arguments = record { text = text; arguments = arguments }

abbrev pub change_of : Command → Option Change
change_of (c.Insert x) = Some (ch.Insert x)
change_of (c.Update x) = Some (ch.Update x)
change_of (c.Delete x) = Some (ch.Delete x)
change_of _ = None

abbrev pub returned : Change → List Item
returned (ch.Insert x) = x.returning
returned (ch.Update x) = x.returning
returned (ch.Delete x) = x.returning

abbrev pub is_empty : {A : Type 0} → List A → Bool
is_empty [] = true
is_empty (x ∷ xs) = false

-- INTO stands behind RETURNING
abbrev pub changed_of : Change → Option IntoClause → Option Simple
changed_of x None = Some (s.Change x None)
changed_of x (Some into) = if is_empty (returned x) then None else Some (s.Change x (Some into))

-- ---- declarations

-- REFCURSOR is the server's own name of a type, as those that are written in quotes too
abbrev pub named_type : Bool → List ℕ → VariableType
named_type in_quotes n =
    if same_text n (codes "refcursor") then v.Cursor else v.Ty (type_of in_quotes n)

abbrev pub variable_type_of : Bool → List ℕ → TypeSuffix → VariableType
variable_type_of in_quotes n suffix.Nothing = named_type in_quotes n
variable_type_of in_quotes n suffix.RowType = v.Ty (t.Row n)
variable_type_of in_quotes n suffix.OfVariable = v.OfVariable n
variable_type_of in_quotes n (suffix.OfColumn column) = v.OfColumn n column

abbrev pub cursor_parameter_of : List ℕ → Ty → CursorParameter
cursor_parameter_of name ty = record { name = name; ty = ty }

-- ---- RAISE

abbrev pub raise_of : Level → Raised → List RaiseOption → Simple
raise_of level raised options =
    s.Raise (record { level = level; raised = raised; options = options })

abbrev pub option_of : RaiseOptionKind → Expr → RaiseOption
option_of kind value = record { kind = kind; value = value }

-- ---- loops

abbrev pub is_value : Argument → Bool
is_value (a.Value x) = true
is_value (a.FatalErrors x) = false

abbrev pub are_values : List Argument → Bool
are_values [] = true
are_values (x ∷ xs) = if is_value x then are_values xs else false

abbrev pub value_in : Argument → Expr
value_in (a.Value x) = x
value_in (a.FatalErrors x) = x

-- a cursor with arguments, which have no names
abbrev pub called_cursor : List ℕ → List Argument → Option ForSource
called_cursor cursor [] = None
called_cursor cursor (x ∷ xs) =
    if are_values (x ∷ xs) then Some (source.Cursor cursor (map value_in (x ∷ xs))) else None

-- one level of an expression
abbrev pub Layer : Type 0
Layer = ExprLayer Argument Expr From Item Arm Factor Join Key Query Term

abbrev pub cursor_in : Layer → Option ForSource
cursor_in (l.Name cursor) = Some (source.Cursor cursor [])
cursor_in (l.Call cursor arguments) = called_cursor cursor arguments
cursor_in _ = None

-- a cursor's name, or a call of it
abbrev pub cursor_of : Expr → Option ForSource
cursor_of x = cursor_in (out-Expr x)

-- with two points and what stands behind them an expression is the first number, else a cursor
abbrev pub upward_of : Expr → Option (Expr × Option Expr) → Option ForSource
upward_of x None = cursor_of x
upward_of x (Some to) = Some (source.Range false x to.0 to.1)

-- the name, if there is no qualifier
abbrev pub if_unqualified : Option (List ℕ) → List ℕ → Option (List ℕ)
if_unqualified None n = Some n
if_unqualified (Some q) n = None

abbrev pub own_name : Target → Option (List ℕ)
own_name t = if_unqualified t.qualifier t.name

-- the variable that a loop makes: one name
abbrev pub one_name : List Target → Option (List ℕ)
one_name (t ∷ []) = own_name t
one_name _ = None

abbrev pub for_one : Option (List ℕ) → (List ℕ → LoopHead) → Option LoopHead
for_one None f = None
for_one (Some n) f = Some (f n)

abbrev pub for_of : List Target → ForSource → Option LoopHead
for_of targets (source.Rows rows) = Some (head.Rows targets rows)
for_of targets (source.Range is_reverse first last step) =
    for_one (one_name targets) (λ n. head.Range n is_reverse first last step)
for_of targets (source.Cursor cursor arguments) =
    for_one (one_name targets) (λ n. head.Cursor n cursor arguments)
