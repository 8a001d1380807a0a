-- Values that go into variables: PostgreSQL manual, "PL/pgSQL", "Assignment", "Executing a Command
-- with a Single-Row Result", "Obtaining the Result Status".
use Rattle.std.specs.Prelude.{ℕ, pos, Bool, true, false, not, ◌&&◌, List, [], ◌∷◌, map, unwrap_or}
use Rattle.pl_base.specs.States.{NULL_VALUE_NOT_ALLOWED}
use Rattle.pl_base.specs.States.{STACKED_DIAGNOSTICS_ACCESSED_WITHOUT_ACTIVE_HANDLER}
use Rattle.pl_base.specs.declared.fail.Fail.{Fail}
use Rattle.pl_base.specs.declared.value.Value.{Value}
use Rattle.pl_base.specs.declared.value.Value.TheVariants.{Null, Big, Text}
use Rattle.pl_bodies.specs.declared.simple.StackedItem.{StackedItem}
use Rattle.pl_bodies.specs.declared.simple.StackedItem.TheVariants as item
use Rattle.pl_bodies.specs.declared.simple.StackedTarget.{StackedTarget}
use Rattle.pl_bodies.specs.declared.simple.Target.{Target}
use Rattle.pl_calc.specs.Logic.{is_null}
use Rattle.pl_print.specs.Messages.{message_text}
use Rattle.pl_meaning.specs.pl_value.Frames.{Row}
use Rattle.pl_world.specs.Conversions.{as_type}
use Rattle.pl_world.specs.Errors.{Spot, raised, resolved}
use Rattle.pl_world.specs.Expressions.{evaluated}
use Rattle.pl_world.specs.Resolving.{Placing, Variable, aiming}
use Rattle.pl_world.specs.Running.{Runner, on_next}
use Rattle.pl_world.specs.Variables.{with_value}
use Rattle.pl_world.specs.World.{World, Ran, and_then, ends}
use Rattle.pl_world.specs.declared.outcome.Outcome.{Outcome}
use Rattle.pl_world.specs.declared.outcome.Outcome.TheVariants as outcome

-- ---- one variable

-- a variable that is required takes no null
abbrev pub takes : Bool → Value → Bool
takes is_required v = not (is_required && is_null v)

-- the world with the value, if the variable takes it
abbrev pub kept_if : Bool → World → Spot → World → Ran Outcome
kept_if true next at w = ends outcome.Next next
kept_if false next at w = raised NULL_VALUE_NOT_ALLOWED at w

-- the value goes in as one of the variable's type
unfoldable pub put : Variable → Value → Spot → World → Ran Outcome
put to v at w =
    as_type to.ty v at w (λ v w.
    kept_if (takes to.is_required v) (with_value to.at v w) at w)

-- target := value
unfoldable pub assigned : Runner → Spot → Placing → World → Ran Outcome
assigned r at p w = evaluated r at p.value w (λ v w. put p.to v at w)

-- ---- several

-- from left to right: the variables that are left over become null, further values are dropped
unfoldable pub put_all : List Variable → Row → Spot → World → Ran Outcome
put_all [] row at w = ends outcome.Next w
put_all (v ∷ vs) [] at w = and_then (put v Null at w) (on_next (λ w. put_all vs [] at w))
put_all (v ∷ vs) (x ∷ row) at w = and_then (put v x at w) (on_next (λ w. put_all vs row at w))

-- ---- GET DIAGNOSTICS, GET STACKED DIAGNOSTICS

-- each target is resolved when it is reached, and given its value
unfoldable pub put_each : List (Target × Value) → Spot → World → Ran Outcome
put_each [] at w = ends outcome.Next w
put_each (x ∷ xs) at w =
    resolved (aiming x.0 w.database.objects w.frame.static) at w (λ to.
    and_then (put to x.1 at w) (on_next (λ w. put_each xs at w)))

-- ROW_COUNT
unfoldable pub diagnosed : List Target → Spot → World → Ran Outcome
diagnosed list at w =
    put_each (map (λ (t : Target). (t, Big (pos w.frame.row_count))) list) at w

abbrev pub item_text : StackedItem → Fail → List ℕ
item_text item.ReturnedSqlstate f = f.state.code
item_text item.MessageText f = message_text f.state.code f.message
item_text item.PgExceptionDetail f = unwrap_or f.detail []
item_text item.PgExceptionHint f = unwrap_or f.hint []

abbrev pub stacked : Fail → StackedTarget → Target × Value
stacked f s = (s.target, Text (item_text s.item f))

abbrev pub stacked_by : List Fail → List StackedTarget → Spot → World → Ran Outcome
stacked_by [] list at w = raised STACKED_DIAGNOSTICS_ACCESSED_WITHOUT_ACTIVE_HANDLER at w
stacked_by (f ∷ fs) list at w = put_each (map (stacked f) list) at w

-- of the error that this call handles
unfoldable pub stacked_diagnosed : List StackedTarget → Spot → World → Ran Outcome
stacked_diagnosed list at w = stacked_by w.frame.handled list at w
