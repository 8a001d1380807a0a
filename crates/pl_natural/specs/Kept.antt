-- What is read in a state, as one sees it who keeps less of the state.
use Rattle.std.specs.Prelude.{◌≡◌, ℕ, List, Result, Ok, Err}
use Rattle.pl_base.specs.declared.value.Value.{Value}
use Rattle.pl_value.specs.Frames.{Frame}
use Rattle.pl_value.specs.Meaning.{Calls, Part, Sub}
use Rattle.pl_value.specs.Reading.{Reading, got, fails}
use Rattle.pl_value.specs.declared.operand.Unsettled.{Unsettled}
use Rattle.pl_value.specs.declared.operand.Unsettled.TheVariants.{Fails, Memory}

-- the same thing or failure, with what is kept of the state that is left
abbrev pub kept : {W V A : Type 0} → (W → V) → Reading W A → Reading V A
kept keep (got x w) = got x (keep w)
kept keep (fails state w) = fails state (keep w)

module _ {W V : Type 0} (keep : W → V) where
  -- calls of routines that need no more of the state than what is kept
  abbrev pub CallsAgree : Calls W → Calls V → Type 0
  CallsAgree calls calls' =
      (routine : List ℕ) (vs : List Value) (w : W)
      → calls' routine vs (keep w) ≡ kept keep (calls routine vs w)

  -- queries that need no more of it
  abbrev pub SubsAgree : Sub W → Sub V → Type 0
  SubsAgree sub sub' =
      (query : ℕ) (frame : Frame) (w : W)
      → sub' query frame (keep w) ≡ kept keep (sub query frame w)

  -- expressions that need no more of it
  abbrev pub PartsAgree : Part W → Part V → Type 0
  PartsAgree p p' = (frame : Frame) (w : W) → p' frame (keep w) ≡ kept keep (p frame w)

-- a call over what is kept read just this, and left what is kept of the state that is left; or
-- memory is wanting
abbrev pub ReadsKept : {W V A : Type 0} → (W → V) → Reading W A → Result A Unsettled → V → Type 0
ReadsKept {W} keep reading (Ok x) left = (w : W) × (reading ≡ got x w) × (left ≡ keep w)
ReadsKept {W} keep reading (Err (Fails state)) left =
    (w : W) × (reading ≡ fails state w) × (left ≡ keep w)
ReadsKept keep reading (Err Memory) left = Unit {0}
