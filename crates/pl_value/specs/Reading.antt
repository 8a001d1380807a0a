-- What is read in a world that calls of routines may change.
use Rattle.std.specs.Prelude.{Result, Ok, Err}
use Rattle.pl_base.specs.declared.state.State.{State}

-- a thing, or the SQLSTATE of a failure, with the world that is left
pub data Reading (W A : Type 0) : Type 0 where
  got : A → W → Reading W A
  fails : State → W → Reading W A

-- what was got goes on, and a failure ends the whole
abbrev pub then_read : {W A B : Type 0} → Reading W A → (A → W → Reading W B) → Reading W B
then_read (got x w) k = k x w
then_read (fails state w) k = fails state w

-- an answer that leaves the world as it is
abbrev pub settled : {W A : Type 0} → Result A State → W → Reading W A
settled (Ok x) w = got x w
settled (Err state) w = fails state w
