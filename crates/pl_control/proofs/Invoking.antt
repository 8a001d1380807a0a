-- A procedure that is called: its arguments are read, and then its body runs.
use Rattle.std.proofs.Common.{◌≡◌, ◌∙◌, List, Ok, Err, ap, refl, sym, true}
use Rattle.pl_base.specs.declared.fail.Fail.{Fail}
use Rattle.pl_base.specs.declared.value.Value.{Value}
use Rattle.pl_asking.proofs.of_pl_calling.Settled.{read_off, read_on, read_stops}
use Rattle.pl_asking.specs.pl_calling.Ends.{settles}
use Rattle.pl_control.specs.Called.{Names}
use Rattle.pl_control.specs.declared.arguments.Procedure.{Procedure}
use Rattle.pl_engine.proofs.Joins.{Lawful, becomes, ended, on, stopped, within}
use Rattle.pl_engine.specs.Answers.{Done, Partway, Stopped}
use Rattle.pl_engine.specs.Engines.{world}
use Rattle.pl_engine.specs.declared.engine.Engine.{Engine}
use Rattle.pl_engine.specs.declared.port.Port.{Ghosts}
use Rattle.pl_engine.specs.declared.stop.Stop.{Stop}
use Rattle.pl_names.specs.Names.{Name}
use Rattle.pl_resolved.specs.declared.expression.RExpr.{RExpr}
use Rattle.pl_value.specs.Reading.{Reading}
use Rattle.pl_engine.specs.pl_world.Calls.{Within, called_by_name}
use Rattle.pl_engine.specs.pl_world.Errors.{Spot}
use Rattle.pl_engine.specs.pl_world.Expressions.{read}
use Rattle.pl_engine.specs.pl_world.Resolving.{Calling}
use Rattle.pl_engine.specs.pl_world.Running.{Runner}
use Rattle.pl_engine.specs.pl_world.Transactions.{after_call, arguments_over, procedure_called}
use Rattle.pl_engine.specs.pl_world.World.{Ran, World, and_then, ends}
use Rattle.pl_engine.specs.pl_world.declared.outcome.Outcome.{Outcome}
use Rattle.pl_engine.specs.pl_world.declared.outcome.Outcome.TheVariants as outcome

module _ (r : Runner) (at : Spot) where
  -- the routine of this name is called with these values
  abbrev pub next : Name → List Value → World → Ran Outcome
  next name vs w = and_then (called_by_name r at true name vs w) after_call

  -- the procedure, by its name and arguments
  abbrev pub invoked : Procedure → World → Ran Outcome
  invoked p w = read (arguments_over r at p.arguments w) at (next p.name)

  called_is : (c : Calling) (w : World) → procedure_called r at c w ≡ read (arguments_over r at c.arguments w) at (next c.routine.name)
  unfolding procedure_called
  called_is c w = refl

  pub invoked_is : (p : Procedure) (c : Calling) (w : World) → Names p c → invoked p w ≡ procedure_called r at c w
  invoked_is p c w names =
      ap (λ (list : List RExpr). read (arguments_over r at list w) at (next p.name)) names.arguments
      ∙ (ap (λ (name : Name). read (arguments_over r at c.arguments w) at (next name)) names.name ∙ sym (called_is c w))

  -- the reading of its arguments
  abbrev reads_all : Procedure → World → Reading Within (List Value)
  reads_all p w = arguments_over r at p.arguments w

  module _ {P : Type 0} {port : Ghosts P} (law : Lawful port) (p : Procedure) {old : Engine} {u : P} (fits : port.fits (world old).last u) where
    pub stopped_early : {stop : Stop} {v : P} → Stopped port (settles (reads_all p (world old)) at) stop old u v → Stopped port (invoked p (world old)) stop old u v
    stopped_early s = read_stops (reads_all p (world old)) at (next p.name) law fits s

    pub failed : (f : Fail) {new : Engine} {v : P} → Done port (settles (reads_all p (world old)) at) (Err f) old new u v → Done port (invoked p (world old)) (outcome.Fail f) old new u v
    failed f d = read_off (reads_all p (world old)) at (next p.name) law fits f d

    module _ (vs : List Value) {mid : Engine} {v : P} (d : Done port (settles (reads_all p (world old)) at) (Ok vs) old mid u v) where
      way : Partway port (invoked p (world old)) (next p.name vs (world mid)) old mid u v
      way = read_on (reads_all p (world old)) at (next p.name) law fits vs d

      pub stopped_late : {stop : Stop} {x : P} → Stopped port (called_by_name r at true p.name vs (world mid)) stop mid v x → Stopped port (invoked p (world old)) stop old u x
      stopped_late s = stopped law way (within law after_call s)

      pub returned : {end o : Outcome} {new : Engine} {x : P} → Done port (called_by_name r at true p.name vs (world mid)) end mid new v x → ((w : World) → after_call end w ≡ ends o w) → Done port (invoked p (world old)) o old new u x
      returned {end} {o} {new} e is = ended law (becomes law (on law after_call way e) (is (world new))) refl
