-- DEFAULT and CHECK: PostgreSQL manual, "Default Values", "Check Constraints". What they may not
-- have is told by their trees alone, before a name is looked up.
use Rattle.std.specs.Prelude.{if◌then◌else◌, List, [], ◌∷◌, map, Option, Some, None, Ok, Err}
use Rattle.std.specs.Option.{option_or}
use Rattle.pl_assigning.specs.Assigning.{assigned}
use Rattle.pl_base.specs.States.{FEATURE_NOT_SUPPORTED}
use Rattle.pl_base.specs.declared.state.State.{State}
use Rattle.pl_base.specs.declared.types.Ty.{Ty}
use Rattle.pl_ddl.specs.Written.{Name, NewColumn}
use Rattle.pl_mentions.specs.Mentions.{mentions}
use Rattle.pl_mentions.specs.declared.sought.Sought.TheVariants.{Query, NameOrQuery}
use Rattle.pl_names.specs.declared.scope.Scope.{Scope}
use Rattle.pl_names.specs.declared.scope.Seen.{Seen}
use Rattle.pl_names.specs.declared.scope.Shape.TheVariants.{Plain}
use Rattle.pl_names.specs.declared.scope.Visible.{Visible}
use Rattle.pl_resolved.specs.declared.expression.RExpr.{RExpr}
use Rattle.pl_scope.specs.Resolution.{resolved_expr}
use Rattle.pl_scope.specs.declared.resolve.ResolvedExpr.{ResolvedExpr}
use Rattle.pl_tree.specs.declared.command.ColumnRule.{ColumnRule}
use Rattle.pl_tree.specs.declared.command.ColumnRuleKind.{ColumnRuleKind}
use Rattle.pl_tree.specs.declared.command.ColumnRuleKind.TheVariants as behind
use Rattle.pl_tree.specs.declared.command.Element.{Element}
use Rattle.pl_tree.specs.declared.command.Element.TheVariants as element
use Rattle.pl_tree.specs.declared.command.TableRule.{TableRule}
use Rattle.pl_tree.specs.declared.command.TableRule.TheVariants as whole
use Rattle.pl_tree.specs.declared.tree.Expr.{Expr}
use Rattle.pl_assigning.specs.pl_typing.Resolved.{Resolved, ◌>>=◌}
use Rattle.pl_assigning.specs.pl_typing.Typing.{truth}

-- ---- where they stand

abbrev pub nothing : Scope
nothing = record { frames = []; params = [] }

abbrev pub seen : NewColumn → Seen
seen c = record { name = c.name; ty = c.ty; shape = Plain }

abbrev pub frame : Name → List Seen → Visible
frame table variables = record { label = table; variables = variables }

-- the columns, alone or behind the table's name
abbrev pub row_scope : Name → List NewColumn → Scope
row_scope table columns = record { frames = frame table (map seen columns) ∷ []; params = [] }

-- ---- what they mean

-- no object of the catalogue is known in them, so that what they mean is told by the text alone
abbrev pub alone : Scope → Expr → Resolved ResolvedExpr
alone scope e = resolved_expr [] scope e

-- a DEFAULT names no column and has no query; its value goes into the column
abbrev pub default_tree : Ty → Expr → Resolved RExpr
default_tree to e =
    if mentions NameOrQuery e then Err FEATURE_NOT_SUPPORTED
    else alone nothing e >>= (λ r. assigned to r.typed)

-- a CHECK has no query, and is a condition
abbrev pub check_tree : Scope → Expr → Resolved RExpr
check_tree scope e =
    if mentions Query e then Err FEATURE_NOT_SUPPORTED
    else alone scope e >>= (λ r. truth r.typed)

-- ---- the first failure in reading order

abbrev pub failure_in : {A : Type 0} → Resolved A → Option State
failure_in (Ok a) = None
failure_in (Err state) = Some state

abbrev pub rule_failure : Scope → Ty → ColumnRuleKind → Option State
rule_failure scope ty (behind.Default e) = failure_in (default_tree ty e)
rule_failure scope ty (behind.Check e) = failure_in (check_tree scope e)
rule_failure scope ty kind = None

abbrev pub behind_failure : Scope → Ty → List ColumnRule → Option State
behind_failure scope ty [] = None
behind_failure scope ty (r ∷ rs) =
    option_or (rule_failure scope ty r.rule) (behind_failure scope ty rs)

abbrev pub whole_failure : Scope → TableRule → Option State
whole_failure scope (whole.Check e) = failure_in (check_tree scope e)
whole_failure scope rule = None

abbrev pub element_failure : Scope → Element → Option State
element_failure scope (element.Column name ty rules) = behind_failure scope ty rules
element_failure scope (element.Rule name rule) = whole_failure scope rule

abbrev pub elements_failure : Scope → List Element → Option State
elements_failure scope [] = None
elements_failure scope (e ∷ es) =
    option_or (element_failure scope e) (elements_failure scope es)
