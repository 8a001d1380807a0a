-- The routine that a call names, as the code holds it.
use Rattle.std.specs.Prelude.{◌≡◌, Bool, List, Option, Some, None}
use Rattle.pl_base.specs.States.{INTERNAL_ERROR}
use Rattle.pl_base.specs.declared.value.Value.{Value}
use Rattle.pl_calling.specs.declared.callee.Found.{Found}
use Rattle.pl_names.specs.Names.{Name}
use Rattle.pl_engine.specs.pl_world.Calls.{Callee, called, called_by_name}
use Rattle.pl_engine.specs.pl_world.Errors.{Spot, raised}
use Rattle.pl_engine.specs.pl_world.Running.{Runner}
use Rattle.pl_engine.specs.pl_world.Variables.{entering}
use Rattle.pl_engine.specs.pl_world.World.{World}

-- what is held is this routine, called by a command or inside of an expression, and what names mean
-- when its call is entered
abbrev pub IsCallee : (is_command : Bool) → Found → Callee → Type 0
IsCallee is_command found c =
    (found.routine ≡ c.routine) × (c.is_command ≡ is_command)
    × (found.declared ≡ entering c.routine c.params c.result) × (found.result ≡ c.result)
    × (found.body ≡ c.body)

-- a call by this name is one of what was found, or an internal error
abbrev pub CallsIt : (is_command : Bool) → Option Found → Name → List Value → World → Type 0
CallsIt is_command None name values w =
    (r : Runner) (at : Spot)
    → called_by_name r at is_command name values w ≡ raised INTERNAL_ERROR at w
CallsIt is_command (Some found) name values w =
    (c : Callee) × IsCallee is_command found c
    × ((r : Runner) (at : Spot)
    → called_by_name r at is_command name values w ≡ called r c values at w)
