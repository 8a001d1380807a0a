-- Types that unite: PostgreSQL manual, "UNION, CASE, and Related Constructs".
use Rattle.std.specs.Prelude.{List, [], ◌∷◌, ◌++◌, Option, Some, None, Result, Ok, Err, Bool}
use Rattle.pl_base.specs.States.{DATATYPE_MISMATCH}
use Rattle.pl_base.specs.declared.operator.Comparison.TheVariants.{Equal}
use Rattle.pl_base.specs.declared.operator.Operator.TheVariants.{Compare}
use Rattle.pl_base.specs.declared.state.State.{State}
use Rattle.pl_base.specs.declared.types.Ty.{Ty}
use Rattle.pl_base.specs.declared.types.Ty.TheVariants.{Unknown}
use Rattle.pl_calc.specs.Answer.{undefined_function}
use Rattle.pl_calc.specs.Types.{and_then, operator_type, union_type}
use Rattle.pl_resolved.specs.declared.expression.Combination.TheVariants.{In}
use Rattle.pl_resolved.specs.declared.expression.Combination.TheVariants as combination
use Rattle.pl_resolved.specs.declared.expression.RExpr.{RExpr}
use Rattle.pl_resolved.specs.declared.expression.RExpr.TheVariants.{Combined}
use Rattle.pl_resolved.specs.declared.expression.RExpr.TheVariants as r
use Rattle.pl_tree.specs.declared.tree.Pick.{Pick}
use Rattle.pl_tree.specs.declared.tree.Pick.TheVariants.{Coalesce, Greatest, Least}
use Rattle.pl_typing.specs.declared.typed.Typed.{Typed}
use Rattle.pl_typing.specs.declared.unions.Listed.{Listed}
use Rattle.pl_typing.specs.Headings.{pick_heading}
use Rattle.pl_typing.specs.Operators.{turned}
use Rattle.pl_typing.specs.Resolved.{Resolved, ◌>>=◌}
use Rattle.pl_typing.specs.Typing.{as_text_type, headed, truth_of}

-- of one more operand beside those before it
abbrev pub united_with : Option Ty → Ty → Option Ty
united_with (Some ty) other = union_type ty other
united_with None other = None

abbrev pub listed_none : Listed
listed_none = record { list = []; ty = Some Unknown }

abbrev pub listed_with : Listed → Typed → Listed
listed_with done x = record { list = done.list ++ x.tree ∷ []; ty = united_with done.ty x.ty }

-- all operands have this type
abbrev pub united_type : Option Ty → Result Ty State
united_type (Some ty) = Ok (as_text_type ty)
united_type None = Err DATATYPE_MISMATCH

-- two of them can be compared
abbrev pub comparable : Ty → Result Ty State
comparable ty = and_then (operator_type (Compare Equal) ty ty) (Ok ty)

-- ---- IN, of the first operand among the others

abbrev pub compared_type : Option Ty → Result Ty State
compared_type (Some ty) = comparable (as_text_type ty)
compared_type None = undefined_function

unfoldable pub in_list : Bool → Listed → Resolved Typed
in_list is_negated all =
    compared_type all.ty >>= (λ to. Ok (turned is_negated (truth_of (Combined (In to) all.list))))

-- ---- COALESCE, GREATEST, LEAST

abbrev pub picked_type_by : Pick → Ty → Result Ty State
picked_type_by Coalesce ty = Ok ty
picked_type_by pick ty = comparable ty

abbrev pub picked_type : Pick → Option Ty → Result Ty State
picked_type pick ty = united_type ty >>= picked_type_by pick

abbrev pub picked_tree : Pick → List RExpr → Ty → RExpr
picked_tree Coalesce list to = r.Coalesce list to
picked_tree Greatest list to = Combined (combination.Greatest to) list
picked_tree Least list to = Combined (combination.Least to) list

unfoldable pub picked : Pick → Listed → Resolved Typed
picked pick all = picked_type pick all.ty >>= (λ to.
    Ok (headed (picked_tree pick all.list to) to (pick_heading pick)))
