-- What a rule makes of the parts that it reads.
use Rattle.std.specs.Prelude.{ℕ, Bool, true, false, if◌then◌else◌, List, [], ◌∷◌, Option, Some, None}
use Rattle.pl_base.specs.declared.types.Ty.{Ty}
use Rattle.pl_tree.specs.declared.tree.Expr.{Expr}
use Rattle.pl_tree.specs.declared.tree.Argument.{Argument}
use Rattle.pl_tree.specs.declared.tree.Item.{Item}
use Rattle.pl_tree.specs.declared.command.Command.{Command}
use Rattle.pl_tree.specs.declared.command.Command.TheVariants as c
use Rattle.pl_tree.specs.declared.command.Definition.{Definition}
use Rattle.pl_tree.specs.declared.command.Definition.TheVariants as d
use Rattle.pl_tree.specs.declared.command.NewRows.{NewRows}
use Rattle.pl_tree.specs.declared.command.NewRow.{NewRow}
use Rattle.pl_tree.specs.declared.command.NewValue.{NewValue}
use Rattle.pl_tree.specs.declared.command.Assignment.{Assignment}
use Rattle.pl_tree.specs.declared.command.Element.{Element}
use Rattle.pl_tree.specs.declared.command.Element.TheVariants as element
use Rattle.pl_tree.specs.declared.command.ColumnRule.{ColumnRule}
use Rattle.pl_tree.specs.declared.command.ColumnRuleKind.{ColumnRuleKind}
use Rattle.pl_tree.specs.declared.command.ColumnRuleKind.TheVariants as asks
use Rattle.pl_tree.specs.declared.command.TableRule.{TableRule}
use Rattle.pl_tree.specs.declared.command.TableRule.TheVariants as table_rule
use Rattle.pl_tree.specs.declared.command.RoutineKind.{RoutineKind}
use Rattle.pl_tree.specs.declared.command.Way.{Way}
use Rattle.pl_tree.specs.declared.command.Param.{Param}
use Rattle.pl_tree.specs.declared.command.ResultType.{ResultType}
use Rattle.pl_tree.specs.declared.command.Timing.{Timing}
use Rattle.pl_tree.specs.declared.command.TriggerEvent.{TriggerEvent}
use Rattle.pl_expr_parse.specs.Trees.{well_called, checks}
use Rattle.pl_sql_parse.specs.declared.parts.Clause.{Clause}
use Rattle.pl_sql_parse.specs.declared.parts.Clause.TheVariants as clause

-- ---- rows that are written

abbrev pub insert_of : List ℕ → Option (List ℕ) → List (List ℕ) → NewRows → List Item → Command
insert_of table alias columns rows returning = c.Insert (record { table = table; alias = alias; columns = columns; rows = rows; returning = returning })

abbrev pub new_row_of : List NewValue → NewRow
new_row_of values = record { values = values }

abbrev pub assignment_of : List ℕ → NewValue → Assignment
assignment_of column value = record { column = column; value = value }

-- a table, its alias and the column that is set first, to what, and what more is set
abbrev pub update_of : List ℕ → Option (List ℕ) → List ℕ → NewValue → List Assignment → Option Expr → List Item → Command
update_of table alias column value more condition returning =
    c.Update (record { table = table; alias = alias; assignments = assignment_of column value ∷ more; condition = condition; returning = returning })

abbrev pub delete_of : List ℕ → Option (List ℕ) → Option Expr → List Item → Command
delete_of table alias condition returning = c.Delete (record { table = table; alias = alias; condition = condition; returning = returning })

-- ---- other commands

unfoldable pub call_of : List ℕ → List Argument → Option Command
call_of name arguments = if well_called (checks name) arguments then Some (c.Call name arguments) else None

abbrev pub rollback_of : Option (List ℕ) → Command
rollback_of None = c.Rollback
rollback_of (Some name) = c.RollbackTo name

-- ---- tables

abbrev pub new_table_of : Bool → List ℕ → List Element → Definition
new_table_of if_not_exists name elements = d.CreateTable (record { if_not_exists = if_not_exists; name = name; elements = elements })

abbrev pub column_rule_of : Option (List ℕ) → ColumnRuleKind → ColumnRule
column_rule_of name rule = record { name = name; rule = rule }

abbrev pub is_default : ColumnRuleKind → Bool
is_default (asks.Default e) = true
is_default _ = false

abbrev pub has_default : List ColumnRule → Bool
has_default [] = false
has_default (r ∷ rs) = if is_default r.rule then true else has_default rs

-- at most one of the rules is a default
abbrev pub defaults_once : List ColumnRule → Bool
defaults_once [] = true
defaults_once (r ∷ rs) = if is_default r.rule then (if has_default rs then false else true) else defaults_once rs

abbrev pub column_of : List ℕ → Ty → List ColumnRule → Option Element
column_of name ty rules = if defaults_once rules then Some (element.Column name ty rules) else None

abbrev pub foreign_key_of : List (List ℕ) → List ℕ → List (List ℕ) → TableRule
foreign_key_of columns table referenced = table_rule.ForeignKey columns table referenced

-- ---- routines

abbrev pub param_of : Way → Option (List ℕ) → Ty → Param
param_of way name ty = record { way = way; name = name; ty = ty }

-- the language of a clause, if it names one, before those of others
abbrev pub with_language : Clause → List (List ℕ) → List (List ℕ)
with_language (clause.Language name) others = name ∷ others
with_language (clause.Body text) others = others
with_language clause.Volatility others = others

abbrev pub with_body : Clause → List (List ℕ) → List (List ℕ)
with_body (clause.Language name) others = others
with_body (clause.Body text) others = text ∷ others
with_body clause.Volatility others = others

abbrev pub languages : List Clause → List (List ℕ)
languages [] = []
languages (x ∷ xs) = with_language x (languages xs)

abbrev pub bodies : List Clause → List (List ℕ)
bodies [] = []
bodies (x ∷ xs) = with_body x (bodies xs)

abbrev pub is_none : List (List ℕ) → Bool
is_none [] = true
is_none (x ∷ xs) = false

-- none or one of them
abbrev pub at_most_one : List (List ℕ) → Option (Option (List ℕ))
at_most_one [] = Some None
at_most_one (x ∷ xs) = if is_none xs then Some (Some x) else None

abbrev pub routine_with : Bool → RoutineKind → List ℕ → List Param → ResultType → Option (Option (List ℕ)) → Option (Option (List ℕ)) → Option Definition
routine_with or_replace kind name params result (Some language) (Some body) =
    Some (d.CreateRoutine (record { or_replace = or_replace; kind = kind; name = name; params = params; result = result; language = language; body = body }))
routine_with or_replace kind name params result language body = None

unfoldable pub routine_of : Bool → RoutineKind → List ℕ → List Param → ResultType → List Clause → Option Definition
routine_of or_replace kind name params result clauses = routine_with or_replace kind name params result (at_most_one (languages clauses)) (at_most_one (bodies clauses))

-- ---- triggers

abbrev pub trigger_of : List ℕ → Timing → List TriggerEvent → List ℕ → List ℕ → Definition
trigger_of name timing events table routine = d.CreateTrigger (record { name = name; timing = timing; events = events; table = table; routine = routine })

-- ---- drops

abbrev pub drop_routine_of : RoutineKind → Bool → List ℕ → Option (List Ty) → Definition
drop_routine_of kind if_exists name types = d.DropRoutine kind if_exists name types
