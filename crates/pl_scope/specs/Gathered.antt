-- What is made of the expressions of a list, one after the other, and of two operands.
use Rattle.std.specs.Prelude.{List, [], ◌∷◌, ◌++◌, Option, Some, None, Ok}
use Rattle.pl_resolved.specs.declared.expression.RExpr.{RExpr}
use Rattle.pl_resolved.specs.declared.expression.RExpr.TheVariants as r
use Rattle.pl_scope.specs.Answers.{Means, ◌>>=◌, gives, step}
use Rattle.pl_scope.specs.Expressions.{ended_if, joined_to}
use Rattle.pl_scope.specs.Following.{after}
use Rattle.pl_scope.specs.Parts.{Part, StepPart}
use Rattle.pl_scope.specs.declared.gathering.Gathering.{Gathering}
use Rattle.pl_scope.specs.declared.gathering.Gathering.TheVariants as g
use Rattle.pl_scope.specs.declared.operands.Two.{Two}
use Rattle.pl_scope.specs.declared.operands.Two.TheVariants as t
use Rattle.pl_typing.specs.Calls.{argument_with, row_of}
use Rattle.pl_typing.specs.Operators.{between, compared, distinct, ended, like, null_if, stepped}
use Rattle.pl_typing.specs.Resolved.{Resolved}
use Rattle.pl_typing.specs.Typing.{limited, truth, truth_of}
use Rattle.pl_typing.specs.Unions.{in_list, listed_with, picked}
use Rattle.pl_typing.specs.declared.chain.Run.{Run}
use Rattle.pl_typing.specs.declared.typed.Typed.{Typed}

-- ---- the expressions of a list

abbrev pub gathered_with : Gathering → Typed → Resolved Gathering
gathered_with (g.Pick pick all) x = Ok (g.Pick pick (listed_with all x))
gathered_with (g.InList is_negated all) x = Ok (g.InList is_negated (listed_with all x))
gathered_with (g.Row all) x = Ok (g.Row (argument_with all x))
gathered_with (g.Concat run) x = after (joined_to run x) (λ run. g.Concat (Some run))
gathered_with (g.And list) x = after (truth x) (λ t. g.And (list ++ t ∷ []))
gathered_with (g.Or list) x = after (truth x) (λ t. g.Or (list ++ t ∷ []))

abbrev pub whole : Gathering → Resolved Typed
whole (g.Pick pick all) = picked pick all
whole (g.InList is_negated all) = in_list is_negated all
whole (g.Row all) = Ok (row_of all)
whole (g.Concat run) = ended_if run
whole (g.And list) = Ok (truth_of (r.And list))
whole (g.Or list) = Ok (truth_of (r.Or list))

abbrev pub gather : List Part → Gathering → Means Typed
gather [] done = step (whole done)
gather (p ∷ ps) done = p.means >>= (λ x. step (gathered_with done x) >>= (λ done. gather ps done))

-- ---- operands

abbrev pub chain_on : List StepPart → Run → Means Typed
chain_on [] run = gives (ended run)
chain_on (s ∷ ss) run =
    s.operand.means >>= (λ y. step (stepped s.by run y) >>= (λ run. chain_on ss run))

abbrev pub two_by : Two → Typed → Typed → Resolved Typed
two_by t.NullIf x y = null_if x y
two_by (t.Like is_negated) x y = like is_negated x y
two_by (t.Compare op) x y = compared op x y
two_by (t.IsDistinct is_negated) x y = distinct is_negated x y
two_by (t.Between is_negated operand) x y = between is_negated operand x y

-- with the second of two
abbrev pub second : Part → Two → Typed → Means Typed
second p by x = p.means >>= (λ y. step (two_by by x y))

-- ---- what may be left out

abbrev pub truth_if : Option Typed → Resolved (Option RExpr)
truth_if None = Ok None
truth_if (Some x) = after (truth x) (λ t. Some t)

abbrev pub limit_if : Option Typed → Resolved (Option RExpr)
limit_if None = Ok None
limit_if (Some x) = after (limited x) (λ t. Some t)
