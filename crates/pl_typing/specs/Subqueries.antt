-- Queries inside expressions: PostgreSQL manual, "Scalar Subqueries", "Subquery Expressions".
use Rattle.std.specs.Prelude.{ℕ, List, [], ◌∷◌, Some, Result, Ok, Err, Bool}
use Rattle.pl_base.specs.States.{SYNTAX_ERROR}
use Rattle.pl_base.specs.declared.state.State.{State}
use Rattle.pl_base.specs.declared.types.Ty.TheVariants.{Bool as Boolean}
use Rattle.pl_resolved.specs.declared.expression.RExpr.TheVariants.{Scalar, Exists, InQuery}
use Rattle.pl_resolved.specs.declared.query.Head.{Head}
use Rattle.pl_typing.specs.declared.typed.Typed.{Typed}
use Rattle.pl_typing.specs.Headings.{exists_heading}
use Rattle.pl_typing.specs.Operators.{turned}
use Rattle.pl_typing.specs.Resolved.{Resolved, ◌>>=◌}
use Rattle.pl_typing.specs.Typing.{headed, truth_of}
use Rattle.pl_typing.specs.Unions.{compared_type, united_with}

-- a query among values has one column
abbrev pub only_column : List Head → Result Head State
only_column (head ∷ []) = Ok head
only_column heads = Err SYNTAX_ERROR

unfoldable pub scalar : ℕ → List Head → Resolved Typed
scalar query heads = only_column heads >>= (λ head. Ok (headed (Scalar query) head.ty head.name))

abbrev pub exists : ℕ → Typed
exists query = headed (Exists query) Boolean exists_heading

abbrev pub in_column : Bool → Typed → ℕ → Head → Resolved Typed
in_column is_negated x query head = compared_type (united_with (Some x.ty) head.ty) >>= (λ to.
    Ok (turned is_negated (truth_of (InQuery x.tree query to))))

unfoldable pub in_query : Bool → Typed → ℕ → List Head → Resolved Typed
in_query is_negated x query heads =
    only_column heads >>= (λ head. in_column is_negated x query head)
