-- The values of expressions within statements, as they are answered.
use Rattle.std.specs.Prelude.{◌≡◌, ℕ, Bool, false, List, [], ◌∷◌, Option, Some, None}
use Rattle.std.specs.Prelude.{Result, Ok, Err, slice_get, unwrap_or}
use Rattle.pl_base.specs.declared.types.Ty.{Ty}
use Rattle.pl_base.specs.declared.value.Value.{Value}
use Rattle.pl_base.specs.declared.value.Value.TheVariants.{Null}
use Rattle.pl_calling.specs.Reading.{read_beside}
use Rattle.pl_direct.specs.Direct.{Directly}
use Rattle.pl_direct.specs.declared.known.Known.{Known}
use Rattle.pl_direct.specs.declared.search.Spot as found
use Rattle.pl_calling.specs.pl_engine.Asks.{returned, truth}
use Rattle.pl_bodies.specs.declared.simple.Target.{Target}
use Rattle.pl_tree.specs.declared.tree.Expr.{Expr}
use Rattle.pl_value.specs.Frames.{Row}
use Rattle.pl_world.specs.Assigning.{assigned, put}
use Rattle.pl_world.specs.Calls.{Within}
use Rattle.pl_world.specs.Control.{tested}
use Rattle.pl_world.specs.Errors.{Spot, resolved}
use Rattle.pl_world.specs.Expressions.{evaluated}
use Rattle.pl_world.specs.Resolving.{Variable, aiming, giving, matching, placing, reading}
use Rattle.pl_world.specs.Running.{Runner}
use Rattle.pl_world.specs.Variables.{row_of, with_value}
use Rattle.pl_world.specs.World.{World, Ran, ends}
use Rattle.pl_world.specs.declared.outcome.Outcome.{Outcome}
use Rattle.pl_world.specs.declared.outcome.Outcome.TheVariants as outcome

-- the value that was answered; an outcome that is none ends the statement
abbrev pub value_of : Outcome → Result Value Outcome
value_of (outcome.Return v) = Ok v
value_of o = Err o

-- an expression is resolved and read when it is reached
abbrev pub read_value : Runner → Spot → Expr → World → Ran Outcome
read_value r at e w =
    resolved (reading e w.database.objects w.frame.static) at w (λ x.
    evaluated r at x w returned)

-- a default; without one a variable is null
abbrev pub read_default : Runner → Spot → Option Expr → World → Ran Outcome
read_default r at None w = returned Null w
read_default r at (Some e) w = read_value r at e w

-- whether the value of an operand, of this type, is IN the values; null where that isn't known
abbrev pub read_match : Runner → Spot → Ty → Row → List Expr → World → Ran Outcome
read_match r at t operand values w =
    resolved (matching t values w.database.objects w.frame.static) at w (λ x.
    read_beside r at x operand w)

-- a value goes into the variable that a target names
abbrev pub put_in : Target → Value → Spot → World → Ran Outcome
put_in t v at w = resolved (aiming t w.database.objects w.frame.static) at w (λ to. put to v at w)

-- the first of these values, or else null
abbrev pub first_or_null : Row → Value
first_or_null [] = Null
first_or_null (x ∷ row) = x

-- the expression has this value directly, over the variables of the newest call
abbrev pub DirectlyIs : Expr → World → Known → Type 0
DirectlyIs e w k =
    Directly Within w.database.objects w.frame.static.scope e (row_of w.frame) k

-- the expression has this value at once, whatever runs bodies
abbrev pub AtOnce : Expr → World → Value → Type 0
AtOnce e w v = (r : Runner) (at : Spot) → read_value r at e w ≡ returned v w

-- so has what RETURN gives
abbrev pub GivenAtOnce : Expr → World → Value → Type 0
GivenAtOnce e w v =
    (r : Runner) (at : Spot)
    → resolved (giving e w.database.objects w.frame.static) at w (λ x. evaluated r at x w returned)
    ≡ returned v w

-- a condition is true, or not, at once
abbrev pub TestedAtOnce : Expr → World → Bool → Type 0
TestedAtOnce e w b = (r : Runner) (at : Spot) → tested r at e w truth ≡ truth b w

-- a variable that was found, as one that is given a value
abbrev pub given_to : found.Spot → World → Variable
given_to s w = record {
  at = s.column;
  ty = s.seen.now.ty;
  is_required = unwrap_or (slice_get w.frame.static.required s.column) false;
}

-- the target names this variable
abbrev pub AimsAt : Target → World → found.Spot → Type 0
AimsAt t w s = aiming t w.database.objects w.frame.static ≡ Ok (given_to s w)

-- an assignment gives the variable of this place this value at once
abbrev pub AssignedAtOnce : Target → Expr → World → ℕ → Value → Type 0
AssignedAtOnce t e w place v =
    (r : Runner) (at : Spot)
    → resolved (placing t e w.database.objects w.frame.static) at w (λ p. assigned r at p w)
    ≡ ends outcome.Next (with_value place v w)
