-- Calls whose values are read at once.
use Rattle.std.specs.Prelude.{◌≡◌, ℕ, suc, Bool, false, List, [], ◌∷◌, ◌++◌, length, map}
use Rattle.pl_base.specs.declared.types.Ty.{Ty}
use Rattle.pl_base.specs.declared.value.Value.{Value}
use Rattle.pl_base.specs.declared.value.Value.TheVariants.{Bool as Truth}
use Rattle.pl_direct.specs.Fitted.{Fits}
use Rattle.pl_direct.specs.declared.known.Known.{Known}
use Rattle.pl_direct.specs.pl_scope.declared.resolve.ResolvedExpr.{ResolvedExpr}
use Rattle.pl_engine.specs.pl_world.Assigning.{put}
use Rattle.pl_engine.specs.pl_world.Calls.{Within}
use Rattle.pl_engine.specs.pl_world.Errors.{Spot}
use Rattle.pl_engine.specs.pl_world.Resolving.{Variable}
use Rattle.pl_engine.specs.pl_world.World.{World, ends}
use Rattle.pl_engine.specs.pl_world.declared.outcome.Outcome.{Outcome}
use Rattle.pl_names.specs.Names.{Name}
use Rattle.pl_quick.specs.Scratch.{computed_to, in_world}
use Rattle.pl_quick.specs.declared.act.Assign.{Assign}
use Rattle.pl_quick.specs.declared.acting.End.{End}
use Rattle.pl_quick.specs.declared.acting.End.TheVariants as end
use Rattle.pl_quick.specs.declared.scratch.Scratch.{Scratch}
use Rattle.pl_resolved.specs.declared.expression.RExpr.{RExpr}
use Rattle.pl_resolved.specs.declared.expression.RExpr.TheVariants as expr
use Rattle.pl_value.specs.Frames.{Row}
use Rattle.pl_value.specs.Meaning.{Calls, Sub, value, values}
use Rattle.pl_value.specs.Reading.{got}

-- the expressions have these values over a row of variables, whatever makes calls and runs queries
pub record AllRead (C : Type 0) (list : List RExpr) (row : Row) (vs : List Value) : Type 0 where
  pub count : length vs ≡ length list
  pub are : (calls : Calls C) (sub : Sub C) (w : C)
      → values (map (value calls sub) list) [] (row ∷ []) w ≡ got vs w

-- The call begins behind its step: its variables are the arguments, and FOUND, which is false.
pub record Enters (call : ResolvedExpr) (caller inner : Scratch) : Type 0 where
  pub name : Name
  pub arguments : List RExpr
  pub is_call : call.typed.tree ≡ expr.Call name arguments
  pub vs : List Value
  pub read : AllRead Within arguments caller.values vs
  pub variables : inner.values ≡ vs ++ Truth false ∷ []
  pub steps : caller.steps ≡ suc inner.steps

-- the variable that is given the value
abbrev pub given_to : Assign → Bool → Variable
given_to a is_required = record { at = a.column; ty = a.ty; is_required = is_required }

-- The call ended with RETURN, and what it gave, as one of the type, goes into the variable in the
-- world of the caller, where so many steps are left.
pub record Leaves (e : End) (a : Assign) (ty : Ty) (steps : ℕ) (o : Outcome) (old new : Scratch)
    : Type 0 where
  pub known : Known
  pub returned : e ≡ end.Return known
  pub v : Value
  pub fits : Fits known ty v
  pub puts : (w : World) (at : Spot) (is_required : Bool)
      → put (given_to a is_required) v at (computed_to old.values steps w)
      ≡ ends o (in_world new w)
  pub steps_left : new.steps ≡ steps
