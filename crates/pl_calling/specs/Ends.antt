-- How an evaluation ends, and what is told then.
use Rattle.std.specs.Prelude.{◌≡◌, ℕ, List, [], ◌++◌, Option, Some, None, Result, Ok, Err}
use Rattle.pl_base.specs.declared.fail.Fail.{Fail}
use Rattle.pl_base.specs.declared.state.State.{State}
use Rattle.pl_calling.specs.Standing.{Standing, keep}
use Rattle.pl_calling.specs.declared.trial.Tried.{Tried}
use Rattle.pl_engine.specs.Answers.{Cut}
use Rattle.pl_engine.specs.Engines.{stepped_in}
use Rattle.pl_engine.specs.declared.port.Port.{Ghosts}
use Rattle.pl_engine.specs.declared.stop.Stop.{Stop}
use Rattle.pl_engine.specs.pl_world.Trace as trace
use Rattle.pl_natural.specs.Kept.{ReadsKept}
use Rattle.pl_undo.specs.Database.{Database}
use Rattle.pl_value.specs.Reading.{Reading}
use Rattle.pl_engine.specs.pl_world.Calls.{Within}
use Rattle.pl_engine.specs.pl_world.Errors.{Spot, as_run_state, failure as arises}
use Rattle.pl_engine.specs.pl_world.Expressions.{reads}
use Rattle.pl_engine.specs.pl_world.Scripts.{outward}
use Rattle.pl_engine.specs.pl_world.World.{Event, Ran, World, ends, made}

-- a thing, or the error that there is none
abbrev pub settles : {A : Type 0} → Reading Within A → Spot → Ran (Result A Fail)
settles reading at = reads Err reading at (λ x w. ends (Ok x) w)

-- the error of a call goes on as it is; any other arises here
abbrev pub error_of : Option Fail → State → Spot → World → Fail
error_of (Some f) state at w = f
error_of None state at w = arises (as_run_state state) at w

-- so a run ends, of which this is kept
abbrev pub EndsAs : {O : Type 0} → Ran O → O → Standing → Type 0
EndsAs ran o s =
    (es : List Event) × (ran ≡ made s.world o es) × (outward es ≡ s.said)
    × (stepped_in es ≡ s.spent)

-- the world is this one still, and nothing was told
pub record Still (w : World) (s : Standing) : Type 0 where
  pub world : s.world ≡ w
  pub said : s.said ≡ []
  pub spent : s.spent ≡ 0
  pub failure : s.failure ≡ None

-- what was tried without calls was read so
abbrev pub TriedAs : {A : Type 0} → Spot → ℕ → Reading Within A → World → Tried A → Type 0
TriedAs at room reading w tried =
    (left : Standing) × Still w left × ReadsKept (keep at room) reading tried.answer left

-- ---- what is told

module _ {P : Type 0} (port : Ghosts P) (db : Database) where
  -- where a stop cut what was to be told
  abbrev pub CutIn : Stop → List trace.Event → P → P → Type 0
  CutIn stop all p q =
      (taken : List trace.Event) × (left : List trace.Event) × (all ≡ taken ++ left)
      × Cut port stop db taken left p q

  -- all of it was told, or it was cut
  abbrev pub Tells : Result (Unit {0}) Stop → List trace.Event → P → P → Type 0
  Tells (Ok u) all p q = port.took db all p q × port.fits db q
  Tells (Err stop) all p q = CutIn stop all p q
