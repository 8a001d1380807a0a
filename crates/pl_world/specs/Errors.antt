-- How errors arise, each at one of two places: where names and types are resolved, or in the run.
-- PostgreSQL manual, "PL/pgSQL", "Errors and Messages"; "PostgreSQL Error Codes".
use Rattle.std.specs.Prelude.{ℕ, Bool, if◌then◌else◌, List, [], ◌∷◌, None, Ok, Err, bytes_eq}
use Rattle.std.specs.List.{list_any}
use Rattle.pl_base.specs.States.{AMBIGUOUS_COLUMN, DATATYPE_MISMATCH}
use Rattle.pl_base.specs.States.{FUNCTION_EXECUTED_NO_RETURN_STATEMENT, INTERNAL_ERROR}
use Rattle.pl_base.specs.States.{OBJECT_NOT_IN_PREREQUISITE_STATE, UNDEFINED_COLUMN}
use Rattle.pl_base.specs.States.{UNDEFINED_FUNCTION, UNDEFINED_TABLE}
use Rattle.pl_base.specs.declared.fail.Fail.{Fail}
use Rattle.pl_base.specs.declared.fail.Message.TheVariants.{Standard}
use Rattle.pl_base.specs.declared.fail.Origin.TheVariants.{Engine}
use Rattle.pl_base.specs.declared.fail.Place.{Place}
use Rattle.pl_base.specs.declared.state.State.{State}
use Rattle.pl_meaning.specs.pl_typing.Resolved.{Resolved}
use Rattle.pl_world.specs.World.{World, Raised, Ran, made}
use Rattle.pl_world.specs.declared.outcome.Outcome.{Outcome}
use Rattle.pl_world.specs.declared.outcome.Outcome.TheVariants as outcome

-- where a statement stands in its body; the routine itself has ordinal 0
pub record Spot : Type 0 where
  pub line : ℕ
  pub ordinal : ℕ

-- in the newest call
abbrev pub place : Spot → World → Place
place at w = record { routine = w.frame.routine; line = at.line; ordinal = at.ordinal }

-- an error of the engine: it says the name of its condition
abbrev pub failure : State → Spot → World → Fail
failure state at w = record {
  state = state;
  message = Standard;
  detail = None;
  hint = None;
  origin = Engine;
  place = place at w;
}

-- ---- for every form of an end that an error may take

module _ {O : Type 0} (failed : Fail → O) where
  abbrev pub raises : Fail → World → Ran O
  raises f w = made w (failed f) (Raised f ∷ [])

  -- what was resolved is done; what could not be is an error at the statement
  unfoldable pub resolves : {A : Type 0} → Resolved A → Spot → World → (A → Ran O) → Ran O
  resolves (Ok x) at w k = k x
  resolves (Err state) at w k = raises (failure state at w) w

-- ---- for statements

-- an error of the engine arises here
abbrev pub raised : State → Spot → World → Ran Outcome
raised state at w = raises outcome.Fail (failure state at w) w

abbrev pub resolved : {A : Type 0} → Resolved A → Spot → World → (A → Ran Outcome) → Ran Outcome
resolved r at w k = resolves outcome.Fail r at w k

-- ---- what a run may say

-- what names and types alone decide, so that no evaluation of a resolved tree gives it
abbrev pub decided_by_types : List State
decided_by_types =
    AMBIGUOUS_COLUMN ∷ DATATYPE_MISMATCH ∷ FUNCTION_EXECUTED_NO_RETURN_STATEMENT ∷
    OBJECT_NOT_IN_PREREQUISITE_STATE ∷ UNDEFINED_COLUMN ∷ UNDEFINED_FUNCTION ∷
    UNDEFINED_TABLE ∷ []

abbrev pub is_decided_by_types : State → Bool
is_decided_by_types state = list_any (λ s. bytes_eq s.code state.code) decided_by_types

-- a failure of an evaluation, as the error of a statement
abbrev pub as_run_state : State → State
as_run_state state = if is_decided_by_types state then INTERNAL_ERROR else state
