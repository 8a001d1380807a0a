-- What a table asks of each row by itself: the types of its columns, and its rules, PostgreSQL
-- manual, "Constraints". Keys and foreign keys, which speak of other rows, are none of them.
use Rattle.std.specs.Prelude.{◌≡◌, ℕ, Bool, true, false, not, ◌&&◌, if◌then◌else◌, length, nat_le}
use Rattle.std.specs.Prelude.{List, [], ◌∷◌, Option, Some, None, option_map, Result, Ok, Err}
use Rattle.std.specs.Option.{is_none, option_or}
use Rattle.std.specs.List.{list_all}
use Rattle.std.specs.Cmp.Lexicographic.{slice_cmp}
use Rattle.std.specs.Ordering.{is_lt, nat_cmp}
use Rattle.pl_base.specs.States.{CHECK_VIOLATION, NOT_NULL_VIOLATION}
use Rattle.pl_base.specs.declared.types.Ty.{Ty}
use Rattle.pl_base.specs.declared.types.Ty.TheVariants as ty
use Rattle.pl_base.specs.declared.value.Value.{Value}
use Rattle.pl_base.specs.declared.value.Value.TheVariants.{Null, Int, Big, Text, Bool as Truth}
use Rattle.pl_calc.specs.Casts.{text_limit}
use Rattle.pl_calc.specs.Logic.{is_null}
use Rattle.pl_catalog.specs.declared.object.Column.{Column}
use Rattle.pl_catalog.specs.declared.object.Rule.{Rule}
use Rattle.pl_catalog.specs.declared.object.RuleKind.{RuleKind}
use Rattle.pl_catalog.specs.declared.object.RuleKind.TheVariants.{Check, Primary, Unique, Foreign}
use Rattle.pl_catalog.specs.declared.object.TableDef.{TableDef}
use Rattle.pl_codec.specs.Spelling.{is_text}
use Rattle.pl_resolved.specs.declared.expression.RExpr.{RExpr}
use Rattle.pl_rules.specs.declared.rules.Failure.{Failure}
use Rattle.pl_rules.specs.declared.rules.RuleFail.{RuleFail}
use Rattle.pl_rules.specs.declared.rules.RuleFail.TheVariants.{Broken, Evaluating, Unfit, Memory}
use Rattle.pl_value.specs.Frames.{Row}
use Rattle.pl_value.specs.Meaning.{Sub, truth, value}
use Rattle.pl_value.specs.NoRoutines.{unknown}
use Rattle.pl_value.specs.Reading.{Reading, got, fails}
use Rattle.pl_value.specs.declared.world.NoRoutines.{NoRoutines}

-- ---- types

-- the value is one of this type that a store can hold; null is of each type
abbrev pub is_of : Ty → Value → Bool
is_of type Null = true
is_of ty.Int (Int number) = true
is_of ty.Big (Big number) = true
is_of ty.Bool (Truth truth) = true
is_of ty.Text (Text text) = is_text text && nat_le (length text) text_limit
is_of type value = false

-- there is one value for each column, of its type
abbrev pub fits : List Column → Row → Bool
fits [] [] = true
fits (c ∷ cs) (v ∷ vs) = is_of c.ty v && fits cs vs
fits cs vs = false

-- ---- NOT NULL

-- the column may not be null, and is
abbrev pub lacks : Column → Value → Bool
lacks c v = c.is_not_null && is_null v

-- the failure of the first column that may not be null and is
abbrev pub null_failure : List Column → Row → Option RuleFail
null_failure (c ∷ cs) (v ∷ vs) =
    if lacks c v then Some (Broken NOT_NULL_VIOLATION c.name) else null_failure cs vs
null_failure cs vs = None

-- ---- CHECK

-- no query stands in a rule
abbrev pub no_queries : Sub NoRoutines
no_queries query frame w = got [] w

-- the truth of a condition over the row, which is the only one that stands; None where it is
-- unknown
abbrev pub truth_over : Row → RExpr → Reading NoRoutines (Option Bool)
truth_over row e = truth (value unknown no_queries e) (row ∷ []) (record {})

-- a condition that is true or unknown passes
abbrev pub failure_of : List ℕ → Reading NoRoutines (Option Bool) → Option RuleFail
failure_of name (got (Some false) w) = Some (Broken CHECK_VIOLATION name)
failure_of name (got (Some true) w) = None
failure_of name (got None w) = None
failure_of name (fails state w) = Some (Evaluating state)

-- why the row doesn't pass this rule, if it is a CHECK
abbrev pub kind_failure : List ℕ → RuleKind → Row → Option RuleFail
kind_failure name (Check e) row = failure_of name (truth_over row e)
kind_failure name (Primary columns) row = None
kind_failure name (Unique columns) row = None
kind_failure name (Foreign columns table targets) row = None

-- a failure with the name of its rule
abbrev pub named : List ℕ → Option RuleFail → Option Failure
named name (Some fail) = Some (record { rule = name; fail = fail })
named name None = None

abbrev pub failing : Rule → Row → Option Failure
failing r row = named r.name (kind_failure r.name r.kind row)

-- the order of names, by their bytes
abbrev pub is_before : List ℕ → List ℕ → Bool
is_before a b = is_lt (slice_cmp nat_cmp a b)

-- the failure whose rule has the lesser name; the first where both have the same
abbrev pub lesser : Option Failure → Option Failure → Option Failure
lesser None g = g
lesser f None = f
lesser (Some f) (Some g) = if is_before g.rule f.rule then Some g else Some f

-- of all CHECKs that the row doesn't pass the failure of the one with the least name
abbrev pub least_failing : List Rule → Row → Option Failure
least_failing [] row = None
least_failing (r ∷ rs) row = lesser (failing r row) (least_failing rs row)

abbrev pub check_failure : List Rule → Row → Option RuleFail
check_failure rules row = option_map (λ (f : Failure). f.fail) (least_failing rules row)

-- ---- all of them

-- the first rule that is broken: NOT NULL in the order of the columns, then CHECK in the order of
-- the names
abbrev pub rule_failure : TableDef → Row → Option RuleFail
rule_failure table row =
    option_or (null_failure table.columns row) (check_failure table.rules row)

-- the first failure: the types come first
abbrev pub first_failure : TableDef → Row → Option RuleFail
first_failure table row =
    if fits table.columns row then rule_failure table row else Some Unfit

-- no column that may not be null is null
abbrev pub none_lacks : List Column → Row → Bool
none_lacks (c ∷ cs) (v ∷ vs) = not (lacks c v) && none_lacks cs vs
none_lacks cs vs = true

-- the row passes every CHECK
abbrev pub all_pass : List Rule → Row → Bool
all_pass rules row = list_all (λ (r : Rule). is_none (kind_failure r.name r.kind row)) rules

-- the row fits the columns, and every rule holds of it
abbrev pub holds : TableDef → Row → Bool
holds table row =
    fits table.columns row && none_lacks table.columns row && all_pass table.rules row

-- the call answers just this, or memory is wanting
abbrev pub Answers : {A : Type 0} → Result A RuleFail → Option RuleFail → Type 0
Answers (Ok a) failure = failure ≡ None
Answers (Err Memory) failure = Unit {0}
Answers (Err fail) failure = failure ≡ Some fail
