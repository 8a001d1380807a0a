-- Values that go to columns by their places: PostgreSQL manual, "INSERT", "Value Storage".
use Rattle.std.specs.Prelude.{ℕ, ◌+◌, Bool, true, false, if◌then◌else◌, List, [], ◌∷◌, Option}
use Rattle.std.specs.Prelude.{Some, None, Ok, Err}
use Rattle.std.specs.Prelude.{slice_get, slice_set}
use Rattle.pl_base.specs.States.{SYNTAX_ERROR}
use Rattle.pl_base.specs.declared.types.Ty.{Ty}
use Rattle.pl_base.specs.declared.types.Ty.TheVariants.{Unknown}
use Rattle.pl_base.specs.declared.value.Value.{Value}
use Rattle.pl_base.specs.declared.value.Value.TheVariants.{Null, Text}
use Rattle.pl_catalog.specs.declared.object.Column.{Column}
use Rattle.pl_resolved.specs.Layers.{ExprLayer}
use Rattle.pl_resolved.specs.declared.expression.RArm.{RArm}
use Rattle.pl_resolved.specs.declared.expression.RCase.{RCase}
use Rattle.pl_resolved.specs.declared.expression.RChain.{RChain}
use Rattle.pl_resolved.specs.declared.expression.RExpr.{RExpr, out-RExpr}
use Rattle.pl_resolved.specs.declared.expression.RExpr.TheOpen as l
use Rattle.pl_resolved.specs.declared.expression.RExpr.TheVariants.{Place}
use Rattle.pl_resolved.specs.declared.expression.RPair.{RPair}
use Rattle.pl_resolved.specs.declared.expression.RStep.{RStep}
use Rattle.pl_resolved.specs.declared.query.Head.{Head}
use Rattle.pl_resolved.specs.declared.query.RQuery.{RQuery}
use Rattle.pl_assigning.specs.Assigning.{assigned}
use Rattle.pl_targets.specs.Columns.{default_of}
use Rattle.pl_assigning.specs.pl_typing.Resolved.{Resolved, ◌>>=◌}
use Rattle.pl_assigning.specs.pl_typing.Typing.{typed}
use Rattle.pl_assigning.specs.pl_typing.declared.typed.Typed.{Typed}

-- a value for which there is no column fails
abbrev pub assigned_to : Option Column → Typed → Resolved RExpr
assigned_to None x = Err SYNTAX_ERROR
assigned_to (Some c) x = assigned c.ty x

abbrev pub default_for : Option Column → Resolved RExpr
default_for None = Err SYNTAX_ERROR
default_for (Some c) = Ok (default_of c)

-- the row with the value in this column
abbrev pub with_assigned : Typed → ℕ → List Column → List RExpr → Resolved (List RExpr)
with_assigned x place columns row =
    assigned_to (slice_get columns place) x >>= (λ x. Ok (slice_set row place x))

-- ---- the row of a query

abbrev pub Level : Type 0
Level = ExprLayer RExpr RArm RCase RChain RPair RStep

abbrev pub is_untyped_value : Value → Bool
is_untyped_value Null = true
is_untyped_value (Text t) = true
is_untyped_value v = false

-- a literal that has no type yet
abbrev pub is_untyped : Level → Bool
is_untyped (l.Constant v) = is_untyped_value v
is_untyped level = false

-- the type of one of its columns, where the item is such a literal or has this type
abbrev pub column_type : Option RExpr → Ty → Ty
column_type None ty = ty
column_type (Some item) ty = if is_untyped (out-RExpr item) then Unknown else ty

abbrev pub items_of : Option RQuery → List RExpr
items_of None = []
items_of (Some q) = q.items

-- its column of this number as a value
abbrev pub column_of : ℕ → ℕ → Option RExpr → Ty → Typed
column_of row at item ty = typed (Place row at) (column_type item ty)

-- with its column of this number in the column of this place
abbrev pub with_column : Head → List RExpr → ℕ → ℕ → ℕ → List Column → List RExpr
    → Resolved (List RExpr)
with_column h items at row place columns done =
    with_assigned (column_of row at (slice_get items at) h.ty) place columns done

-- from its column of this number on, to the columns of these places in turn
abbrev pub placed_on : List Head → List RExpr → ℕ → ℕ → List ℕ → List Column → List RExpr
    → Resolved (List RExpr)
placed_on [] items at row [] columns done = Ok done
placed_on [] items at row (p ∷ ps) columns done = Err SYNTAX_ERROR
placed_on (h ∷ hs) items at row [] columns done = Err SYNTAX_ERROR
placed_on (h ∷ hs) items at row (p ∷ ps) columns done =
    with_column h items at row p columns done >>= (λ done.
    placed_on hs items (at + 1) row ps columns done)
