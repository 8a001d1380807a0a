-- Values as those of another type: PostgreSQL manual, "PL/pgSQL", "Assignment"; "Value Storage".
use Rattle.std.specs.Prelude.{Bool, if◌then◌else◌, Result, Ok, Err}
use Rattle.pl_base.specs.declared.state.State.{State}
use Rattle.pl_base.specs.declared.types.Ty.{Ty}
use Rattle.pl_base.specs.declared.types.Ty.TheVariants.{Bool as Boolean}
use Rattle.pl_base.specs.declared.value.Value.{Value}
use Rattle.pl_base.specs.declared.value.Value.TheVariants.{Text}
use Rattle.pl_calc.specs.Answer.{Answer}
use Rattle.pl_calc.specs.Casts.{cast_to, is_assignable}
use Rattle.pl_print.specs.TextForm.{output}
use Rattle.pl_meaning.specs.pl_value.Combined.{is_true}
use Rattle.pl_world.specs.Errors.{Spot, raised, as_run_state}
use Rattle.pl_world.specs.World.{World, Ran}
use Rattle.pl_world.specs.declared.outcome.Outcome.{Outcome}

-- as an assignment casts it; where no cast does, by its text
abbrev pub converted : Ty → Value → Answer
converted to v = if is_assignable v to then cast_to v to else cast_to (Text (output v)) to

-- what was found is used; why it wasn't is the error of the statement
abbrev pub settled : {A : Type 0} → Result A State → Spot → World → (A → World → Ran Outcome)
    → Ran Outcome
settled (Ok x) at w k = k x w
settled (Err state) at w k = raised (as_run_state state) at w

unfoldable pub as_type : Ty → Value → Spot → World → (Value → World → Ran Outcome) → Ran Outcome
as_type to v at w k = settled (converted to v) at w k

-- whether a condition is true; null isn't
unfoldable pub as_truth : Value → Spot → World → (Bool → World → Ran Outcome) → Ran Outcome
as_truth v at w k = as_type Boolean v at w (λ b w. k (is_true b) w)
