-- What a routine is, and the variables that it has before its body declares any: PostgreSQL manual,
-- PL/pgSQL, "Declaring Function Parameters", "Obtaining the Result Status", "Trigger Functions" and
-- "Trapping Errors".
use Rattle.std.specs.Prelude.{Bool, true, false, if◌then◌else◌, codes}
use Rattle.std.specs.Prelude.{List, [], ◌∷◌, Option, Some, None}
use Rattle.pl_base.specs.declared.types.Ty.TheVariants as ty
use Rattle.pl_base.specs.declared.types.Ty.{Ty}
use Rattle.pl_body_rules.specs.Frames.{Name, Variables, with_variable}
use Rattle.pl_body_rules.specs.declared.frames.Frame.{Frame}
use Rattle.pl_body_rules.specs.declared.frames.FrameKind.TheVariants as kind
use Rattle.pl_body_rules.specs.declared.heading.Heading.{Heading}
use Rattle.pl_body_rules.specs.declared.heading.Kind.{Kind}
use Rattle.pl_body_rules.specs.declared.variables.Variable.{Variable}
use Rattle.pl_body_rules.specs.declared.variables.VariableKind.TheVariants.{Plain, Row}
use Rattle.pl_body_rules.specs.declared.variables.VariableKind.{VariableKind}
use Rattle.pl_tree.specs.declared.command.Param.{Param}
use Rattle.pl_tree.specs.declared.command.ResultType.TheVariants.{One, Columns}
use Rattle.pl_tree.specs.declared.command.ResultType.{ResultType}

-- what is declared of a routine; a DO has no name
pub record Routine : Type 0 where
  pub name : Option Name
  pub kind : Kind
  pub params : List Param
  pub result : ResultType

abbrev pub routine : Heading → Routine
routine h = record { name = h.name; kind = h.kind; params = h.params.now; result = h.result.now }

-- ---- variables

abbrev pub kind_of_type : Ty → VariableKind
kind_of_type (ty.Row table) = Row
kind_of_type ty.Rec = Row
kind_of_type t = Plain

abbrev pub variable : VariableKind → Variable
variable k = record { kind = k; is_constant = false }

abbrev pub with_named : Option Name → Ty → Variables → Variables
with_named None t vs = vs
with_named (Some x) t vs = with_variable x (variable (kind_of_type t)) vs

abbrev pub with_param : Param → Variables → Variables
with_param p vs = with_named p.name p.ty vs

abbrev pub with_params : List Param → Variables → Variables
with_params [] vs = vs
with_params (p ∷ ps) vs = with_params ps (with_param p vs)

-- the columns of TABLE
abbrev pub with_columns : ResultType → Variables → Variables
with_columns (Columns columns) vs = with_params columns vs
with_columns r vs = vs

abbrev pub is_trigger_type : Ty → Bool
is_trigger_type ty.Trigger = true
is_trigger_type t = false

abbrev pub is_trigger : ResultType → Bool
is_trigger (One t) = is_trigger_type t
is_trigger r = false

abbrev pub with_all : List Name → Variable → Variables → Variables
with_all [] v vs = vs
with_all (x ∷ xs) v vs = with_all xs v (with_variable x v vs)

abbrev pub with_trigger : Variables → Variables
with_trigger vs =
    with_all (codes "tg_name" ∷ codes "tg_when" ∷ codes "tg_level" ∷ codes "tg_op" ∷
    codes "tg_table_name" ∷ []) (variable Plain)
    (with_all (codes "new" ∷ codes "old" ∷ []) (variable Row) vs)

abbrev pub with_found : ResultType → Variables → Variables
with_found r vs =
    if is_trigger r then with_trigger (with_variable (codes "found") (variable Plain) vs)
    else with_variable (codes "found") (variable Plain) vs

-- ---- frames

-- FOUND and the variables of triggers hide what is declared of the routine
abbrev pub routine_frame : Routine → Frame
routine_frame r = record {
  label = r.name;
  kind = kind.Routine;
  variables = with_columns r.result (with_params r.params (with_found r.result []));
}

-- a handler knows two variables more, which no statement changes, under the label of its block
abbrev pub handler_frame : Option Name → Frame
handler_frame label = record {
  label = label;
  kind = kind.Handler;
  variables = with_all (codes "sqlstate" ∷ codes "sqlerrm" ∷ [])
      (record { kind = Plain; is_constant = true }) [];
}
