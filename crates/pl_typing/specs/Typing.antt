-- A resolved expression and its type: PostgreSQL manual, "Type Conversion".
use Rattle.std.specs.Prelude.{ℕ, List, [], ◌∷◌, Option, Some, None, Ok, Err, Bool, true, false}
use Rattle.std.specs.Prelude.{if◌then◌else◌}
use Rattle.pl_base.specs.States.{DATATYPE_MISMATCH}
use Rattle.pl_base.specs.declared.types.Ty.{Ty}
use Rattle.pl_base.specs.declared.types.Ty.TheVariants.{Unknown, Int, Big, Text, Bool as Boolean}
use Rattle.pl_calc.specs.Types as calc
use Rattle.pl_resolved.specs.declared.expression.RExpr.{RExpr}
use Rattle.pl_resolved.specs.declared.expression.RExpr.TheVariants.{Cast}
use Rattle.pl_resolved.specs.declared.query.Head.{Head}
use Rattle.pl_typing.specs.declared.typed.Typed.{Typed}
use Rattle.pl_typing.specs.Resolved.{Resolved}

-- the bytes of a name; none where there is no name
abbrev pub Name : Type 0
Name = List ℕ

abbrev pub headed : RExpr → Ty → Name → Typed
headed tree ty head = record { tree = tree; ty = ty; head = head }

-- printed as ?column?
abbrev pub typed : RExpr → Ty → Typed
typed tree ty = headed tree ty []

-- a tree whose value is a truth
abbrev pub truth_of : RExpr → Typed
truth_of tree = typed tree Boolean

-- an unknown literal takes the other's type, or text
abbrev pub settled : Ty → Ty → Ty
settled = calc.settled

abbrev pub as_text_type : Ty → Ty
as_text_type = calc.as_text_type

-- a literal of no type, unless it becomes a text, and an integer where a bigint is wanted
abbrev pub needs_cast : Ty → Ty → Bool
needs_cast Unknown Unknown = false
needs_cast Unknown Text = false
needs_cast Unknown ty = true
needs_cast Int Big = true
needs_cast from to = false

abbrev pub cast_node : Ty → RExpr → RExpr
cast_node to tree = Cast tree (to ∷ [])

-- the tree of the first type as one of the second
abbrev pub as_type : Ty → Ty → RExpr → RExpr
as_type from to tree = if needs_cast from to then cast_node to tree else tree

unfoldable pub coerced : Ty → Typed → RExpr
coerced to x = as_type x.ty to x.tree

-- a condition
abbrev pub truth_by : Ty → Typed → Resolved RExpr
truth_by Boolean x = Ok (coerced Boolean x)
truth_by Unknown x = Ok (coerced Boolean x)
truth_by ty x = Err DATATYPE_MISMATCH

unfoldable pub truth : Typed → Resolved RExpr
truth x = truth_by x.ty x

-- LIMIT and OFFSET
abbrev pub limited_by : Ty → Typed → Resolved RExpr
limited_by Int x = Ok (coerced Big x)
limited_by Big x = Ok (coerced Big x)
limited_by Unknown x = Ok (coerced Big x)
limited_by ty x = Err DATATYPE_MISMATCH

unfoldable pub limited : Typed → Resolved RExpr
limited x = limited_by x.ty x

abbrev pub label_or : Option Name → Name → Name
label_or (Some label) head = label
label_or None head = head

-- the column of an item of a select list
abbrev pub head_of : Option Name → Typed → Head
head_of label x = record { name = label_or label x.head; ty = as_text_type x.ty }
