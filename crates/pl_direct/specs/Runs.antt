-- Chains of operators, and AND and OR, as far as they are left.
use Rattle.std.specs.Prelude.{◌≡◌, Bool, List, [], ◌∷◌, ◌++◌, map, Some}
use Rattle.pl_direct.specs.Known.{type_of, value_of}
use Rattle.pl_direct.specs.declared.known.Known.{Known}
use Rattle.pl_names.specs.Names.{Around}
use Rattle.pl_resolved.specs.declared.expression.RExpr.{RExpr}
use Rattle.pl_resolved.specs.declared.expression.RStep.{RStep}
use Rattle.pl_scope.specs.Answers.{got}
use Rattle.pl_scope.specs.Expressions.{conditions, run_on}
use Rattle.pl_scope.specs.Parts.{Part, StepPart}
use Rattle.pl_scope.specs.declared.made.Made.{Made}
use Rattle.pl_typing.specs.declared.chain.Run.{Run}
use Rattle.pl_value.specs.Frames.{Row}
use Rattle.pl_value.specs.Meaning.{Calls, Sub, joined, step, steps_read, value}
use Rattle.pl_value.specs.Reading as reading

abbrev pub run_with : Run → List RStep → Known → Run
run_with run more k = record {
  first = run.first;
  steps = run.steps ++ more;
  ty = type_of k;
}

-- behind a chain that has the first value, the steps lead to the last
pub record Leads (W : Type 0) (ss : List StepPart) (a : Around) (row : Row) (first last : Known)
    : Type 0 where
  pub more : List RStep
  pub resolves : (run : Run) (made : Made) → run.ty ≡ type_of first
      → run_on ss run a made ≡ got (run_with run more last) made
  pub is_value : (calls : Calls W) (sub : Sub W) (w : W)
      → steps_read (map (step calls sub) more) (value_of first) (row ∷ []) w
      ≡ reading.got (value_of last) w

-- behind conditions that make the first truth, these make the last; `fixed` is the truth that fixes
-- the answer
pub record Joins (W : Type 0) (fixed : Bool) (ps : List Part) (a : Around) (row : Row)
    (first last : Bool) : Type 0 where
  pub trees : List RExpr
  pub resolves : (done : List RExpr) (made : Made)
      → conditions ps done a made ≡ got (done ++ trees) made
  pub is_fixed : first ≡ fixed → last ≡ fixed
  pub is_value : (calls : Calls W) (sub : Sub W) (w : W)
      → joined fixed (map (value calls sub) trees) (Some first) (row ∷ []) w
      ≡ reading.got (Some last) w
