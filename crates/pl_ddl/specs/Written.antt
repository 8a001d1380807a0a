-- A new table as it is written: PostgreSQL manual, "CREATE TABLE". Its columns, and its rules, as
-- which those behind a column and those of the whole table are alike.
use Rattle.std.specs.Prelude.{ℕ, Bool, true, false, List, [], ◌∷◌, Option, Some, None}
use Rattle.std.specs.List.{filter_map, flat_map, list_any}
use Rattle.std.specs.Option.{option_or}
use Rattle.pl_base.specs.declared.types.Ty.{Ty}
use Rattle.pl_tree.specs.declared.command.ColumnRule.{ColumnRule}
use Rattle.pl_tree.specs.declared.command.ColumnRuleKind.{ColumnRuleKind}
use Rattle.pl_tree.specs.declared.command.ColumnRuleKind.TheVariants as behind
use Rattle.pl_tree.specs.declared.command.Element.{Element}
use Rattle.pl_tree.specs.declared.command.Element.TheVariants as element
use Rattle.pl_tree.specs.declared.command.TableRule.{TableRule}
use Rattle.pl_tree.specs.declared.command.TableRule.TheVariants as whole
use Rattle.pl_tree.specs.declared.tree.Expr.{Expr}

abbrev pub Name : Type 0
Name = List ℕ

-- a column, and the rules behind it
pub record NewColumn : Type 0 where
  pub name : Name
  pub ty : Ty
  pub rules : List ColumnRule

-- what a rule of the table asks; keys by the names of their columns
pub data Asked : Type 0 where
  Check : Expr → Asked
  Primary : List Name → Asked
  Unique : List Name → Asked
  Foreign : List Name → Asked

-- a rule, and its name where one is given
pub record NewRule : Type 0 where
  pub name : Option Name
  pub asks : Asked

-- ---- columns

abbrev pub as_column : Element → Option NewColumn
as_column (element.Column name ty rules) =
    Some (record { name = name; ty = ty; rules = rules })
as_column (element.Rule name rule) = None

abbrev pub columns_in : List Element → List NewColumn
columns_in elements = filter_map as_column elements

-- ---- rules

-- what a rule behind the column of this name asks of the table; NOT NULL and DEFAULT are the
-- column's own
abbrev pub asked_behind : Name → ColumnRuleKind → Option Asked
asked_behind column behind.NotNull = None
asked_behind column behind.Null = None
asked_behind column (behind.Default e) = None
asked_behind column (behind.Check e) = Some (Check e)
asked_behind column behind.Unique = Some (Unique (column ∷ []))
asked_behind column behind.PrimaryKey = Some (Primary (column ∷ []))
asked_behind column (behind.References table target) = Some (Foreign (column ∷ []))

abbrev pub with_name : Option Name → Option Asked → Option NewRule
with_name name (Some asks) = Some (record { name = name; asks = asks })
with_name name None = None

abbrev pub rule_behind : Name → ColumnRule → Option NewRule
rule_behind column r = with_name r.name (asked_behind column r.rule)

abbrev pub asked_by : TableRule → Asked
asked_by (whole.Check e) = Check e
asked_by (whole.Unique columns) = Unique columns
asked_by (whole.PrimaryKey columns) = Primary columns
asked_by (whole.ForeignKey columns table referenced) = Foreign columns

abbrev pub rules_of : Element → List NewRule
rules_of (element.Column name ty rules) = filter_map (rule_behind name) rules
rules_of (element.Rule name rule) = record { name = name; asks = asked_by rule } ∷ []

-- in the order in which they are written
abbrev pub rules_in : List Element → List NewRule
rules_in elements = flat_map rules_of elements

-- ---- what a column's own rules say

abbrev pub says_not_null : ColumnRuleKind → Bool
says_not_null behind.NotNull = true
says_not_null kind = false

abbrev pub says_null : ColumnRuleKind → Bool
says_null behind.Null = true
says_null kind = false

abbrev pub is_key : ColumnRuleKind → Bool
is_key behind.PrimaryKey = true
is_key kind = false

-- one of the rules behind a column passes the test
abbrev pub any_behind : (ColumnRuleKind → Bool) → List ColumnRule → Bool
any_behind test rules = list_any (λ (r : ColumnRule). test r.rule) rules

abbrev pub default_by : ColumnRuleKind → Option Expr
default_by (behind.Default e) = Some e
default_by kind = None

-- DEFAULT, which stands behind a column at most once
abbrev pub default_in : List ColumnRule → Option Expr
default_in [] = None
default_in (r ∷ rs) = option_or (default_by r.rule) (default_in rs)
